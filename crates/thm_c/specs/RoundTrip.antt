-- Demand 2 as a caller in C sees it: a call of the writer of a kind, and a call of the reader of that kind on the frame that it wrote.
use Rattle.std.specs.Prelude.{ℕ, ◌<◌, ◌^◌, ◌≡◌, List, [], ◌∷◌}
use Rattle.records.specs.Records.{attachment_size_of}
use Rattle.message.specs.Frames.{last_bytes}
use Rattle.schema.specs.declared.Kind.{Kind}
use Rattle.writer.specs.Writing.{message_of}
use Rattle.bekurapi.specs.Kinds.{WrittenAs}
use Rattle.bekurapi.specs.Numbers.{fields_from, record_from}
use Rattle.message.specs.Meaning.{all_of, meaning}
use Rattle.thm_c.specs.Readings.{CRead, part_at}

-- what C has after a call of a writer
pub record CWritten : Type 0 where
  pub code : ℕ
  pub out : List ℕ
  pub size : ℕ

-- the `ensures` of the writer of a kind, of what a call of it gave
abbrev pub CWrites : (c : ℕ) → Kind → (numbers source rows body out : List ℕ) → CWritten → Type 0
CWrites c kind numbers source rows body out w = WrittenAs c kind numbers source rows body out w.code w.size w.out

-- numbers that a uint32_t holds
abbrev pub Words : List ℕ → Type 0
Words [] = Unit {0}
Words (n ∷ l) = (n < 2 ^ 32) × Words l

-- The numbers x that the reader gave of the frame say the record of the writer's numbers over `source` and `rows`, with that body.
pub record CReadsBack (kind : Kind) (numbers source rows body frame : List ℕ) (x : CRead) : Type 0 where
  pub code_zero : x.code ≡ 0
  -- kind, id, version, numbers, present marks, the length and the bytes of each byte field, and the rows in order with those of their
  -- keys and values
  pub same_record : meaning (record_from kind x.numbers) frame x.rows ≡ meaning (record_from kind numbers) source rows
  -- the parts, each with its length
  pub header_is : part_at frame x.numbers 2 ≡ all_of (message_of (record_from kind numbers) source rows)
  pub body_is : part_at frame x.numbers 4 ≡ all_of body
  pub attachment_is : part_at frame x.numbers 6 ≡ all_of (last_bytes (attachment_size_of kind (fields_from numbers)) body)
