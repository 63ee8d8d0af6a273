-- For a user in C: `len` bytes at `frame + start` may be read.
--
-- Promised, of any call of a reader, for any ceiling, kind, frame and row numbers: if it gave what its contract ensures, then each start
-- and length among its numbers, of header, body, attachment and byte fields, and each key and value of the rows that it counts lies within
-- the frame, and an empty one is 0, 0. It holds whatever the call returned: after a refusal all of them are 0, 0.
-- Not promised: which bytes are there (`CReadOf` says it), and anything of the row numbers past the rows that are counted.
-- Ruled out: a length that passes the end of the frame, and an end given for a length.
use Prim.Native.Nat.{ℕ, ◌%◌}
use mathlib.Core.Path.{◌≡◌, refl, sym, subst}
use mathlib.Core.List.{List, [], ◌∷◌, ◌++◌}
use lib.ListN.{length, take, get_or}
use Rattle.decoder.specs.Rows.{rows_in}
use Rattle.decoder.specs.Fields.{blank}
use Rattle.schema.specs.Schema.{slot_count}
use Rattle.records.specs.Records.{record_of}
use Rattle.message.specs.Frames.{Reading, read_frame}
use Rattle.message.specs.Spans.{spans_of as located}
use Rattle.schema.specs.declared.Kind.{Kind}
use Rattle.records.specs.declared.Record.{Record}
use Rattle.message.specs.Frames.{Answer}
use Rattle.std.specs.Prelude.{Ok, Err}
use Rattle.message.specs.Spans.{Spans}
use Rattle.records.specs.Content.{row_count}
use Rattle.records.proofs.Made.{count_is}
use Rattle.bekurapi.specs.Numbers.{answer_id, answer_version, answer_rows, answer_slots, numbers_of, record_from}
use Rattle.thm_c.proofs.NumbersBack.{reading_back}
use Rattle.thm_round_trip.specs.Refusals.{record_spans}
use Rattle.refusals.specs.Grounds.{Every}
use Rattle.thm_round_trip.specs.Lies.{RowLies}
use Rattle.thm_round_trip.specs.ReadWithin.{SpanLies, ReadWithin, spans_in, counted_in}
use Rattle.thm_round_trip.proofs.ReadWithin.{blank_lies, record_lies, read_within}
use Rattle.thm_c.specs.Readings.{CRead, CReads}
use Rattle.thm_c.specs.Within.{located_from}

module _ (frame : List ℕ) (kind : Kind) where
  -- what a record and its row numbers hand out
  abbrev Handed : (rows : List ℕ) → Record → Type 0
  Handed rows r = Every (SpanLies frame) (record_spans r) × Every (RowLies (length frame)) (rows_in (row_count r) rows)

  -- "A refused record .. is all zero"
  zero_handed : (code : ℕ) (rows : List ℕ)
      → Handed rows (record_of kind (answer_id (Err code)) (answer_version (Err code))
      (answer_slots (Err code)) (answer_rows (Err code)))
  unfolding rows_in
  zero_handed code rows =
      (record_lies frame kind 0 0 blank.slots 0 (blank_lies frame kind), rw (count_is 0 0 blank.slots 0 kind) tt)

  module _ (c : ℕ) (lent : List ℕ) where
    abbrev given : Reading
    given = read_frame c kind frame lent

    abbrev gave : Spans
    gave = located given (length frame)

    handed : (a : Answer) → given.answer ≡ a → Every (SpanLies frame) (spans_in a)
        → Every (RowLies (length frame)) (rows_in (counted_in a) given.rows)
        → Handed given.rows (record_from kind (numbers_of gave))
    handed (Ok r) e fields rows =
        subst (Handed given.rows) (sym (reading_back c kind frame lent (length frame) r e)) (fields, rows)
    handed (Err code) e fields rows =
        subst (λ (a : Answer). Handed given.rows (record_of kind (answer_id a) (get_or (answer_slots a ++ answer_version a ∷ []) 16 0 % 256)
        (take slot_count (answer_slots a ++ answer_version a ∷ [])) (answer_rows a))) (sym e)
        (zero_handed code given.rows)

    numbers_within : ReadWithin frame (located_from kind (numbers_of gave)) given.rows
    numbers_within =
        let all = read_within c frame kind lent in
        let own = handed given.answer refl all.fields all.rows in
        record { fields = own.0; rows = own.1; header = all.header; body = all.body; attachment = all.attachment }

pub c_read_within : (c : ℕ) (kind : Kind) (frame lent : List ℕ) (x : CRead) → CReads c kind frame lent x
    → ReadWithin frame (located_from kind x.numbers) x.rows
c_read_within c kind frame lent x reads =
    subst (λ (l : List ℕ). ReadWithin frame (located_from kind l) x.rows) (sym reads.numbers_are)
    (subst (ReadWithin frame (located_from kind (numbers_of (located (read_frame c kind frame lent) (length frame))))) (sym reads.rows_are)
    (numbers_within frame kind c lent))
