-- A record as 25 numbers: id, row count, start and length of header, body and attachment, 16 for the fields of its kind, and the version
use Rattle.std.specs.Prelude.{ℕ, ◌%◌, List, [], ◌∷◌, ◌++◌, take, drop, get_or, replicate, Ok, Err}
use Rattle.schema.specs.Schema.{slot_count}
use Rattle.schema.specs.declared.Kind.{Kind}
use Rattle.records.specs.declared.Record.{Record}
use Rattle.message.specs.Frames.{Answer}
use Rattle.message.specs.Spans.{Spans}
use Rattle.records.specs.Records.{record_of}
use Rattle.records.specs.Content.{record_id, record_version, row_count, slots_of}

-- "A refused record .. is all zero."
abbrev pub answer_id : Answer → ℕ
answer_id (Ok r) = record_id r
answer_id (Err code) = 0

abbrev pub answer_version : Answer → ℕ
answer_version (Ok r) = record_version r
answer_version (Err code) = 0

abbrev pub answer_rows : Answer → ℕ
answer_rows (Ok r) = row_count r
answer_rows (Err code) = 0

abbrev pub answer_slots : Answer → List ℕ
answer_slots (Ok r) = slots_of r
answer_slots (Err code) = replicate slot_count 0

-- "Beside its kind, a record is the id of bytes 11-14, that kind's own fields and present marks, and the row count; no more."; "Header,
-- body and attachment are handed back as parts of the caller's frame". The fields are in the order of the kind's schema.
-- Document 02, P2: "Every record carries the version"
abbrev pub numbers_of : Spans → List ℕ
numbers_of l =
    answer_id l.answer ∷ answer_rows l.answer
    ∷ l.header.start ∷ l.header.len
    ∷ l.body.start ∷ l.body.len
    ∷ l.attachment.start ∷ l.attachment.len
    ∷ answer_slots l.answer ++ answer_version l.answer ∷ []

-- the fields among a record's numbers
abbrev pub fields_from : List ℕ → List ℕ
fields_from l = take slot_count (drop 8 l)

-- The record of a kind from its numbers: "The writer takes a record", and the parts' places are no part of it. Of the last number only the
-- low byte is: a struct for C has the version there and three bytes that are not looked at. Of a number that was read nothing is cut off:
-- `reading_back` in `thm_c`
abbrev pub record_from : Kind → List ℕ → Record
record_from kind l = record_of kind (get_or l 0 0) (get_or l 24 0 % 256) (fields_from l) (get_or l 1 0)
