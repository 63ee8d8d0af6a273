-- For a user: demand 2, of the functions themselves.
--
-- Promised, of any call of `write` that gave what its contract ensures, with any record that a program can pass (`Held`) and any ceiling:
-- `called_back`: if it answered with a frame, then a call of `read` on that frame, as the record's kind, under the same ceiling and with
-- 256 row numbers or more, that gave what its contract ensures gave the same record with the same bytes (`ReadsBack`). Document 02, P11:
-- "the same ceiling within that range throughout"; that it is in range follows from the answer.
-- `called_back_larger`: so did a call of `read` under a larger ceiling, up to 65,536.
-- `called_exactly`: it answered with a number exactly on the papers' grounds, in their order, and left the output then as it was.
-- Nothing else is taken of a call: `Contracts`, here and in `thm_stream`, says that what is taken for a function's `ensures` is just that.
-- Not promised: anything of an output that the caller changes between the two calls.
-- Ruled out: a contract too weak for demand 2, as one of `write` that leaves open the bytes of the frame, or one of `read` that leaves open
-- the row numbers.
-- Assumes nothing.
use Prim.Native.Nat.{ℕ, ◌≤◌}
use mathlib.Core.Path.{◌≡◌, ap, sym, subst, ◌∙◌}
use mathlib.Core.List.{List}
use lib.ListN.{length, take}
use Rattle.fixed_header.specs.Header.{max_frame}
use Rattle.message.specs.Frames.{Reading}
use Rattle.records.specs.declared.Record.{Record}
use Rattle.records.specs.Content.{kind_of}
use Rattle.writer.specs.Writing.{Writing, written}
use Rattle.std.specs.Prelude.{Result, Ok}
use Rattle.thm_stream.specs.Trace.{Reads}
use Rattle.thm_stream.proofs.Traced.{all_read}
use Rattle.refusals.specs.Grounds.{Exactly}
use Rattle.thm_round_trip.specs.ReadsBack.{ReadsBack}
use Rattle.thm_round_trip.specs.Refusals.{write_entry}
use Rattle.thm_round_trip.specs.Calls.{Held, Writes, CalledBack}
use Rattle.thm_round_trip.proofs.RoundTrip.{round_trip, round_trip_larger}
use Rattle.thm_round_trip.proofs.Held.{held_in_range}
use Rattle.thm_round_trip.proofs.Exactly.{written_exactly}

-- a contract that gives the answer and the output gives all
pub all_written : (c : ℕ) (r : Record) (source numbers body output : List ℕ) (w : Writing) → Writes c r source numbers body output w
    → w ≡ written c r source numbers body output
all_written c r source numbers body output w e =
    ap (λ (a : Result ℕ ℕ). record { answer = a; output = w.output }) e.0
    ∙ ap (λ (o : List ℕ). record { answer = (written c r source numbers body output).answer; output = o }) e.1

pub called_back : (c : ℕ) (r : Record) (source numbers body output lent : List ℕ) (w : Writing) (size : ℕ) (x : Reading)
    → Held r → 256 ≤ length lent
    → Writes c r source numbers body output w → w.answer ≡ Ok size → Reads c (kind_of r) (take size w.output) lent x
    → CalledBack c r source numbers body w.output lent size x
called_back c r source numbers body output lent w size x held long writes framed reads =
    let bounds = held_in_range source r held in
    record {
      reading_is = all_read c (kind_of r) (take size w.output) lent x reads;
      reads_back =
          subst (λ (o : List ℕ). ReadsBack c r source numbers body (take size o) lent) (sym writes.1)
          (round_trip c r source numbers body output lent size bounds.0 bounds.1.0 bounds.1.1 long (sym writes.0 ∙ framed));
    }

pub called_back_larger : (c d : ℕ) → c ≤ d → d ≤ max_frame
    → (r : Record) (source numbers body output lent : List ℕ) (w : Writing) (size : ℕ) (x : Reading)
    → Held r → 256 ≤ length lent
    → Writes c r source numbers body output w → w.answer ≡ Ok size → Reads d (kind_of r) (take size w.output) lent x
    → CalledBack d r source numbers body w.output lent size x
called_back_larger c d more most r source numbers body output lent w size x held long writes framed reads =
    let bounds = held_in_range source r held in
    record {
      reading_is = all_read d (kind_of r) (take size w.output) lent x reads;
      reads_back =
          subst (λ (o : List ℕ). ReadsBack d r source numbers body (take size o) lent) (sym writes.1)
          (round_trip_larger c d more most r source numbers body output lent size bounds.0 bounds.1.0 bounds.1.1 long
          (sym writes.0 ∙ framed));
    }

pub called_exactly : (c : ℕ) (r : Record) (source numbers body output : List ℕ) (w : Writing) → Writes c r source numbers body output w
    → Exactly (write_entry c r source numbers body output) w
called_exactly c r source numbers body output w writes =
    subst (λ (x : Writing). Exactly (write_entry c r source numbers body output) x)
    (sym (all_written c r source numbers body output w writes)) (written_exactly c r source numbers body output)
