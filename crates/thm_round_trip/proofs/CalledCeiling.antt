-- For a user (document 02, P11): what the ceiling of a call of `write` or `read` decides, of the functions themselves.
--
-- Promised, of any call of `write`, under any ceiling, that gave what its contract ensures: if it answered with a frame, the frame's size
-- is at most the ceiling, and the bytes of the output past the ceiling are as they were (`called_within_ceiling`). So of an output that is
-- longer than the ceiling the caller may keep the rest for itself. `written_ceiling` says it of the definition that the contract names,
-- after a refusal, too, which counts 0 bytes.
-- Of any call of `read`, under any ceiling, that gave what its contract ensures: if it answered with a record, the frame that it was given
-- has at most as many bytes as the ceiling, and the ceiling is in range (`called_read_fits`).
-- Not promised: anything of an output or a frame that the caller changes after the call, nor which number a longer frame is refused with:
-- `called_exactly` says it of `write`, `Exactly` of `thm_refusals` of `read`.
-- Ruled out: a contract of `write` that leaves open the size of the frame or the bytes past it, and one of `read` that lets a record be
-- given of a frame over the ceiling.
-- Assumes nothing.
use Prim.Native.Nat.{ℕ, ◌≤◌}
use mathlib.Core.Path.{◌≡◌, refl, ap, sym, ◌∙◌}
use mathlib.Core.List.{List}
use native.Mathlib.Omega.{arith}
use borrow.Author.Tests.{eqb-true}
use lib.Dec.{eqb}
use lib.ListN.{length, drop}
use Rattle.laws.proofs.Booleans.{choose}
use Rattle.laws.proofs.Lists.{drop_past}
use Rattle.fixed_header.specs.Header.{CeilingOk}
use Rattle.schema.specs.declared.Kind.{Kind}
use Rattle.records.specs.declared.Record.{Record}
use Rattle.message.specs.Frames.{Reading}
use Rattle.std.specs.Prelude.{Ok}
use Rattle.message.proofs.Under.{read_fits}
use Rattle.writer.specs.Writing.{Writing, refused_with, wrote, frame_of, write_error, written, count_of}
use Rattle.std.specs.Prelude.{Ok}
use Rattle.writer.proofs.Under.{accepted_within}
use Rattle.thm_stream.specs.Trace.{Reads}
use Rattle.thm_round_trip.specs.Calls.{Writes}

-- ---- `write`
module _ (c : ℕ) (r : Record) (source numbers body output : List ℕ) where
  abbrev Within : Writing → Type 0
  Within w = (count_of w.answer ≤ c) × (drop c w.output ≡ drop c output)

  abbrev frame : List ℕ
  frame = frame_of r source numbers body

  abbrev error : ℕ
  error = write_error c r source numbers body (length output)

  wrote_within : length frame ≤ c → Within (wrote frame output)
  unfolding count_of
  wrote_within small = (small, drop_past c (length frame) frame (drop (length frame) output) output refl small refl)

  refused_within : Within (refused_with error output)
  unfolding count_of
  refused_within = (omega arith, refl)

  pub written_ceiling : (count_of (written c r source numbers body output).answer ≤ c)
      × (drop c (written c r source numbers body output).output ≡ drop c output)
  written_ceiling =
      choose Within (eqb error 0) (wrote frame output) (refused_with error output)
      (λ e. wrote_within (accepted_within c r source numbers body (length output) (eqb-true error 0 e)).1) (λ n. refused_within)

count_is : (size : ℕ) → count_of (Ok size) ≡ size
unfolding count_of
count_is size = refl

pub called_within_ceiling : (c : ℕ) (r : Record) (source numbers body output : List ℕ) (w : Writing)
    → Writes c r source numbers body output w → (size : ℕ) → w.answer ≡ Ok size
    → (size ≤ c) × (drop c w.output ≡ drop c output)
called_within_ceiling c r source numbers body output w writes size framed =
    let within = written_ceiling c r source numbers body output in
    let counts = ap count_of (sym writes.0 ∙ framed) ∙ count_is size in
    (omega (arith, counts, within.0), ap (drop c) writes.1 ∙ within.1)

-- ---- `read`
pub called_read_fits : (c : ℕ) (kind : Kind) (f lent : List ℕ) (x : Reading) → Reads c kind f lent x → (r : Record) → x.answer ≡ Ok r
    → (length f ≤ c) × CeilingOk c
called_read_fits c kind f lent x reads r read = read_fits c kind f lent r (sym reads.0 ∙ read)
