-- For a user (document 02, P11): what a connection's ceiling decides of a write.
--
-- Promised: a frame that is no longer than a ceiling in range is written under it as under 65,536: the error code, the answer and the whole
-- output are the same, refusals too (`error_under`, `written_under`). So 65,536 is document 01's writer. Where a frame was written the
-- ceiling is in range, and the frame is no longer than it (`written_within`, `accepted_within`). Under each larger ceiling up to 65,536
-- it is written the same (`written_larger`).
-- Not promised: that a write which is refused under one ceiling has the same number under another: 41 comes before all others, and 19
-- before 27.
-- Ruled out: a writer that ignores the ceiling, goes by it in another ground than 41 and 19, or writes other bytes under another ceiling.
-- Assumes nothing.
use Prim.Native.Nat.{ℕ, ◌≤◌}
use mathlib.Core.Path.{◌≡◌, refl, sym, ◌∙◌}
use mathlib.Core.Bool.{Bool, true, false, cond}
use mathlib.Core.List.{List}
use native.Mathlib.Omega.{arith}
use borrow.Author.Tests.{le-leb, eqb-true, eqb-false}
use lib.Dec.{eqb}
use lib.ListN.{length}
use Rattle.laws.proofs.Booleans.{clash, kept}
use Rattle.fixed_header.specs.Header.{max_frame, ceiling_ok, CeilingOk}
use Rattle.fixed_header.proofs.Codes.{ceiling_range, ceiling_ok_lem, largest}
use Rattle.records.specs.declared.Record.{Record}
use Rattle.records.specs.Content.{kind_of, row_count, slots_of}
use Rattle.writer_checks.specs.Grounds.{content_error}
use Rattle.writer.specs.Writing.{frame_of, size_error, write_error, Writing, refused_with, written}
use Rattle.std.proofs.Common.{Ok}
use Rattle.writer.proofs.Refusals.{no_error}

-- a code of 0, and what later ones say
no_code : (code later : ℕ) → cond (eqb code 0) later code ≡ 0 → (code ≡ 0) × (later ≡ 0)
no_code code later e = by (eqb code 0) refl e
  where
    by : (b : Bool) → eqb code 0 ≡ b → cond b later code ≡ 0 → (code ≡ 0) × (later ≡ 0)
    by true z e = (eqb-true code 0 z, e)
    by false z e = absurd (eqb-false code 0 z e)

-- an answer with a frame has no error
no_refusal : (error size : ℕ) (good : Writing) (output : List ℕ) → (cond (eqb error 0) good (refused_with error output)).answer ≡ Ok size
    → error ≡ 0
no_refusal error size good output = by (eqb error 0) refl
  where
    by : (b : Bool) → eqb error 0 ≡ b → (cond b good (refused_with error output)).answer ≡ Ok size → error ≡ 0
    by true e a = eqb-true error 0 e
    by false e a = clash cc

-- ---- what is accepted
module _ (c : ℕ) (r : Record) (source numbers body : List ℕ) where
  -- no error of the content, nor of the sizes
  accepted_parts : (room : ℕ) → write_error c r source numbers body room ≡ 0
      → (ceiling_ok c ≡ true) × ((content_error (kind_of r) (slots_of r) (row_count r) source numbers (length body) ≡ 0)
      × (size_error c (length (frame_of r source numbers body)) room ≡ 0))
  unfolding write_error
  accepted_parts room e =
      let ceiling = kept (ceiling_ok c) 41 _ (omega arith) e in
      (ceiling.0, no_code (content_error (kind_of r) (slots_of r) (row_count r) source numbers (length body)) _ ceiling.1)

  pub no_content_error : (room : ℕ) → write_error c r source numbers body room ≡ 0
      → content_error (kind_of r) (slots_of r) (row_count r) source numbers (length body) ≡ 0
  no_content_error room e = (accepted_parts room e).1.0

  pub accepted_within : (room : ℕ) → write_error c r source numbers body room ≡ 0
      → CeilingOk c × (length (frame_of r source numbers body) ≤ c)
  accepted_within room e =
      let none = accepted_parts room e in
      (ceiling_range c none.0, (no_error c (length (frame_of r source numbers body)) room none.1.1).0)

  pub written_within : (output : List ℕ) (size : ℕ) → (written c r source numbers body output).answer ≡ Ok size
      → CeilingOk c × (length (frame_of r source numbers body) ≤ c)
  written_within output size e =
      accepted_within (length output) (no_refusal (write_error c r source numbers body (length output)) size _ output e)

-- ---- under one ceiling as under another
module _ (c : ℕ) (in_range : CeilingOk c) (r : Record) (source numbers body : List ℕ) where
  pub error_under : (room : ℕ) → length (frame_of r source numbers body) ≤ c
      → write_error c r source numbers body room ≡ write_error max_frame r source numbers body room
  unfolding write_error size_error
  error_under room within =
      let total = length (frame_of r source numbers body) in
      rw (ceiling_ok_lem c in_range, ceiling_ok_lem max_frame largest, le-leb total c within, le-leb total max_frame (omega (arith, in_range)))

  pub written_under : (output : List ℕ) → length (frame_of r source numbers body) ≤ c
      → written c r source numbers body output ≡ written max_frame r source numbers body output
  written_under output within = rw (error_under (length output) within)

pub written_larger : (c d : ℕ) → c ≤ d → d ≤ max_frame → (r : Record) (source numbers body output : List ℕ) (size : ℕ)
    → (written c r source numbers body output).answer ≡ Ok size
    → written d r source numbers body output ≡ written c r source numbers body output
written_larger c d more most r source numbers body output size e =
    let w = written_within c r source numbers body output size e in
    written_under d (omega (arith, w.0), most) r source numbers body output (omega (arith, w.1))
    ∙ sym (written_under c w.0 r source numbers body output w.1)
