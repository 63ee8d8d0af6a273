-- For a user: the writer's refusals, on the definition that the contract of `write` names; `CalledBack` has the function.
--
-- Promised, for every ceiling, in range or not, every record, any source bytes, row numbers, body and output, of whatever size: each number
-- is given exactly when its ground holds and none before it in the papers' order does, 41 first (document 02, P11: "before all others");
-- with no ground the frame is written; and the whole output afterwards, as it was after a refusal, else the frame and then what was after
-- it.
-- Not promised: anything about the bytes of the frame, which `RoundTrip` reads back.
-- Ruled out: a writer that refuses a record of 64 rows, one that refuses every record, one that gives 19 where the attachment is larger
-- than the body, too, and one that writes a frame over its ceiling, or refuses one of just its ceiling with 19.
-- Assumes nothing.
use Prim.Native.Nat.{ℕ, ◌*◌}
use mathlib.Core.Path.{refl}
use mathlib.Core.List.{List}
use native.Mathlib.Omega.{arith}
use lib.ListN.{length}
use Rattle.records.specs.Records.{attachment_size_of}
use Rattle.records.specs.declared.Record.{Record}
use Rattle.records.specs.Content.{kind_of, row_count, slots_of}
use Rattle.writer_checks.specs.Grounds.{max_rows, has_map, rows_ok, content_error}
use Rattle.writer.specs.Writing.{rows_of, frame_of, size_error, write_error, written}
use Rattle.refusals.specs.Grounds.{Exactly}
use Rattle.refusals.proofs.Tests.{at_most, none_unless}
use Rattle.refusals.proofs.Order.{Outcome, Numbered, end, unless, unless_two, unless_three, unless_error, exactly}
use Rattle.thm_round_trip.specs.Refusals.{has_body, content_grounds, write_grounds, write_entry}
use Rattle.fixed_header.proofs.Ceilings.{ceiling_tested}
use Rattle.thm_round_trip.proofs.GroundTests.{spans_ok, rows_ok_lem, keys_ok, parts_ok, body_tests}

pub content_outcome : (r : Record) (source numbers body : List ℕ)
    → Outcome (content_grounds r source numbers body) (λ n. n) 0
    (content_error (kind_of r) (slots_of r) (row_count r) source numbers (length body))
unfolding content_error rows_ok
content_outcome r source numbers body =
    let count = row_count r in
    rw (body_tests (kind_of r) (slots_of r) (length body))
    (unless_three (at_most count max_rows) (none_unless (has_map (kind_of r)) count) (at_most (count * 4) (length numbers))
    (unless (spans_ok source r)
    (unless (rows_ok_lem source (rows_of r numbers))
    (unless (keys_ok source (rows_of r numbers))
    (unless (parts_ok r numbers)
    (unless_two (at_most (attachment_size_of (kind_of r) (slots_of r)) (length body)) (none_unless (has_body (kind_of r)) (length body))
    end))))))

module _ (c : ℕ) (r : Record) (source numbers body : List ℕ) where
  write_outcome : (room : ℕ) → Outcome (write_grounds c r source numbers body room) (λ n. n) 0 (write_error c r source numbers body room)
  unfolding write_error size_error
  write_outcome room =
      let frame = length (frame_of r source numbers body) in
      unless (ceiling_tested c)
      (unless_error (content_grounds r source numbers body)
      (content_error (kind_of r) (slots_of r) (row_count r) source numbers (length body)) (search arith depth 20)
      (content_outcome r source numbers body)
      (unless (at_most frame c)
      (unless (at_most frame room)
      end)))

  grounds_numbered : (room : ℕ) → Numbered (write_grounds c r source numbers body room)
  grounds_numbered room = search arith depth 20

  pub written_exactly : (output : List ℕ) → Exactly (write_entry c r source numbers body output) (written c r source numbers body output)
  written_exactly output =
      let room = length output in
      exactly (write_entry c r source numbers body output) (written c r source numbers body output) (λ none. refl) (λ n f. refl)
      (unless_error (write_grounds c r source numbers body room) (write_error c r source numbers body room)
      (grounds_numbered room) (write_outcome room) end)
