-- For a user (document 02, P2): "the writer writes the version given and 0 in byte 16."
--
-- Promised, of any call of `write` that gave what its contract ensures, with any record that a program can pass (`Held`) and any ceiling:
-- if it answered with a frame, byte 15 of the frame is the record's version, and byte 16 is 0 (`LastTwo`).
-- Not promised: anything of the other bytes, which are those of the round trip.
-- Ruled out: a writer that writes the version to byte 16, too, or leaves there what was in the output. No round trip shows them, since
-- readers ignore byte 16.
-- Assumes nothing.
use Prim.Native.Nat.{ℕ, ◌%◌, ◌^◌, ◌<◌}
use mathlib.Core.Path.{◌≡◌, refl, ap, sym, subst, ◌∙◌}
use mathlib.Core.List.{List, ◌++◌, append_assoc}
use native.Mathlib.Omega.{arith}
use lib.ListN.{take}
use Rattle.fixed_header.specs.Put.{fixed_header}
use Rattle.fixed_header.specs.declared.FixedHeader.{FixedHeader}
use Rattle.records.specs.declared.Record.{Record}
use Rattle.records.specs.Content.{kind_of, record_id, record_version}
use Rattle.writer.specs.Writing.{Writing, header_for, message_of, frame_of}
use Rattle.std.specs.Prelude.{Ok}
use Rattle.thm_round_trip.specs.LastTwo.{LastTwo}
use Rattle.thm_round_trip.specs.Calls.{Held, Writes}
use Rattle.thm_round_trip.proofs.Accepted.{framed}
use Rattle.thm_round_trip.proofs.Held.{held_in_range}

put_last : (h : FixedHeader) (rest : List ℕ) → LastTwo (h.version % 256) (fixed_header h ++ rest)
unfolding fixed_header
put_last h rest = record { byte_15 = refl; byte_16 = refl }

pub last_two_written : (c : ℕ) (r : Record) (source numbers body output : List ℕ) (w : Writing) → Writes c r source numbers body output w
    → (size : ℕ) → w.answer ≡ Ok size → LastTwo (record_version r % 256) (take size w.output)
unfolding frame_of
last_two_written c r source numbers body output w writes size is =
    let m = message_of r source numbers in
    let h = header_for (kind_of r) (record_id r) (record_version r) m body in
    let d = framed c r source numbers body output size (sym writes.0 ∙ is) in
    let frame_is : take size w.output ≡ fixed_header h ++ (m ++ body) =
    ap (take size) writes.1 ∙ d.frame_is ∙ append_assoc (fixed_header h) m body in
    subst (LastTwo (record_version r % 256)) (sym frame_is) (put_last h (m ++ body))

pub byte_is : (n : ℕ) → n < 2 ^ 8 → n % 256 ≡ n
byte_is n h = omega arith

pub version_written : (c : ℕ) (r : Record) (source numbers body output : List ℕ) (w : Writing) → Held r
    → Writes c r source numbers body output w → (size : ℕ) → w.answer ≡ Ok size → LastTwo (record_version r) (take size w.output)
version_written c r source numbers body output w held writes size is =
    subst (λ (v : ℕ). LastTwo v (take size w.output)) (byte_is (record_version r) (held_in_range source r held).1.0)
    (last_two_written c r source numbers body output w writes size is)
