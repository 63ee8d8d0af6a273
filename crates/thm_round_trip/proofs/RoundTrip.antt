-- For a user: the round trip (demand 2), on the definitions that the contracts of `write` and `read` name; `CalledBack` has the functions.
--
-- Promised, for every ceiling, every record that the writer accepts under it, any source bytes, row numbers and output, of whatever size,
-- and 256 row numbers or more lent to the reader: asked for the record's kind under the same ceiling, the reader gives from the frame the
-- same record with the same bytes (`round_trip`). That is kind, id, version, each number, each present mark, the length and the bytes of
-- each byte field, the rows in their order with those of their keys and values, and the message, the body and the attachment as bytes. The
-- numbers of the record are those that a program can hold: 32 bits, and 8 for the version.
-- Document 02, P11: "Demand 2's round trip, demand 3 and P8's law have one more premise, the same ceiling within that range throughout".
-- That it is in range is no premise here, since the writer accepts nothing under another (41). 65,536 is document 01's round trip.
-- Under each larger ceiling, up to 65,536, the frame reads back, too (`round_trip_larger`), and asked for any kind the reader gives just
-- what it gives under the writer's, whatever the record's numbers and however few row numbers are lent (`larger_reads_same`).
-- Not promised: that starts are the same (in the frame they count from its first byte), what the writer refuses, which `Exactly` says, and
-- that the frame is read under a smaller ceiling.
-- Ruled out: a writer that writes nothing and answers a size, a writer that writes zeros, a writer that leaves out the last row of a map,
-- a reader that gives the end of a byte field for its length, and a reader that refuses a frame of just the ceiling, which is written.
-- Assumes nothing.
use Prim.Native.Nat.{ℕ, ◌^◌, ◌<◌, ◌≤◌}
use mathlib.Core.Path.{◌≡◌, sym, ◌∙◌}
use mathlib.Core.List.{List}
use lib.ListN.{length, take}
use Rattle.fixed_header.specs.Header.{max_frame}
use Rattle.schema.specs.declared.Kind.{Kind}
use Rattle.records.specs.declared.Record.{Record}
use Rattle.records.specs.Content.{record_id, record_version}
use Rattle.writer.specs.Writing.{written}
use Rattle.std.specs.Prelude.{Ok}
use Rattle.message.specs.Frames.{read_frame}
use Rattle.message.specs.Meaning.{fields_of}
use Rattle.thm_round_trip.specs.InRange.{InRange}
use Rattle.thm_round_trip.specs.ReadsBack.{ReadsBack}
use Rattle.thm_round_trip.proofs.FrameRead.{as_largest, reads_back}
use Rattle.thm_round_trip.proofs.Accepted.{accepted_larger, framed}

pub round_trip : (c : ℕ) (r : Record) (source numbers body output lent : List ℕ) (size : ℕ)
    → record_id r < 2 ^ 32 → record_version r < 2 ^ 8 → InRange (fields_of source r) → 256 ≤ length lent
    → (written c r source numbers body output).answer ≡ Ok size
    → ReadsBack c r source numbers body (take size (written c r source numbers body output).output) lent
round_trip c r source numbers body output lent size id_small version_small in_range long e =
    let w = framed c r source numbers body output size e in
    rw w.frame_is (reads_back c r source numbers body w.accepted id_small version_small lent in_range long)

-- ---- under a larger ceiling
pub round_trip_larger : (c d : ℕ) → c ≤ d → d ≤ max_frame → (r : Record) (source numbers body output lent : List ℕ) (size : ℕ)
    → record_id r < 2 ^ 32 → record_version r < 2 ^ 8 → InRange (fields_of source r) → 256 ≤ length lent
    → (written c r source numbers body output).answer ≡ Ok size
    → ReadsBack d r source numbers body (take size (written c r source numbers body output).output) lent
round_trip_larger c d more most r source numbers body output lent size id_small version_small in_range long e =
    let w = framed c r source numbers body output size e in
    let larger = accepted_larger c d more most r source numbers body w.accepted in
    rw w.frame_is (reads_back d r source numbers body larger id_small version_small lent in_range long)

pub larger_reads_same : (c d : ℕ) → c ≤ d → d ≤ max_frame → (r : Record) (source numbers body output lent : List ℕ) (size : ℕ)
    → (written c r source numbers body output).answer ≡ Ok size → (kind : Kind)
    → read_frame d kind (take size (written c r source numbers body output).output) lent
    ≡ read_frame c kind (take size (written c r source numbers body output).output) lent
larger_reads_same c d more most r source numbers body output lent size e kind =
    let w = framed c r source numbers body output size e in
    let larger = accepted_larger c d more most r source numbers body w.accepted in
    rw w.frame_is
    (as_largest d r source numbers body larger kind lent ∙ sym (as_largest c r source numbers body w.accepted kind lent))
