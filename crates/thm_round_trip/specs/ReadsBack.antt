-- "each record that it accepts reads back as the same record with the same bytes", on the definitions that the contracts of `write` and
-- `read` name
use Rattle.std.specs.Prelude.{ℕ, ◌≡◌, List}
use Rattle.records.specs.Records.{attachment_size_of}
use Rattle.message.specs.Frames.{Reading, read_frame, last_bytes}
use Rattle.records.specs.declared.Record.{Record}
use Rattle.records.specs.Content.{kind_of, slots_of}
use Rattle.writer.specs.Writing.{message_of}
use Rattle.message.specs.Meaning.{meaning, answer_meaning}

-- what the reader gives of the frame under the ceiling c, read as the record's own kind
abbrev pub reading_of : (c : ℕ) → Record → (frame lent : List ℕ) → Reading
reading_of c r frame lent = read_frame c (kind_of r) frame lent

-- The frame, read under the ceiling c with the row numbers `lent`, is the record r over `source` and its row numbers, with that body. It is
-- no refusal, since a record's meaning is none.
pub record ReadsBack (c : ℕ) (r : Record) (source numbers body frame lent : List ℕ) : Type 0 where
  -- kind, id, version, numbers, present marks, length and bytes of each byte field, and the rows in order with those of keys and values
  pub same_record : answer_meaning (reading_of c r frame lent).answer frame (reading_of c r frame lent).rows ≡ meaning r source numbers
  pub header_is : (reading_of c r frame lent).header ≡ message_of r source numbers
  pub body_is : (reading_of c r frame lent).body ≡ body
  pub attachment_is : (reading_of c r frame lent).attachment ≡ last_bytes (attachment_size_of (kind_of r) (slots_of r)) body
