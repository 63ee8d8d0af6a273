-- What a caller in C is given by the reader and by the writer of a kind: numbers, and what is in all that it lent
use Rattle.std.specs.Prelude.{ℕ, ◌≡◌, List, length}
use Rattle.schema.specs.declared.Kind.{Kind}
use Rattle.message.specs.Frames.{read_frame}
use Rattle.message.specs.Spans.{spans_of}
use Rattle.writer.specs.Writing.{Writing, written, error_of, count_of}
use Rattle.bekurapi.specs.Answers.{answer_error}
use Rattle.bekurapi.specs.Numbers.{numbers_of, record_from}

-- "the caller of the reader names which of the six kinds it expects": a frame, read as a kind with the row numbers lent, gave the number
-- that is returned, the row numbers and the 25 numbers of the record.
pub record ReadAs (c : ℕ) (kind : Kind) (frame lent : List ℕ) (code : ℕ) (rows numbers : List ℕ) : Type 0 where
  pub code_is : code ≡ answer_error (read_frame c kind frame lent).answer
  pub rows_are : rows ≡ (read_frame c kind frame lent).rows
  pub numbers_are : numbers ≡ numbers_of (spans_of (read_frame c kind frame lent) (length frame))

-- what writing the record of a kind gives that is lent as 25 numbers
abbrev pub written_from : (c : ℕ) → Kind → (numbers : List ℕ) → (source rows body output : List ℕ) → Writing
written_from c kind numbers source rows body output = written c (record_from kind numbers) source rows body output

-- "The writer takes a record, the bytes its starts refer to, its rows and a body.": it gave the number that is returned, the frame's size,
-- and the output as it is afterwards, whole.
pub record WrittenAs (c : ℕ) (kind : Kind) (numbers source rows body output : List ℕ) (code size : ℕ) (out : List ℕ) : Type 0 where
  pub code_is : code ≡ error_of (written_from c kind numbers source rows body output).answer
  pub size_is : size ≡ count_of (written_from c kind numbers source rows body output).answer
  pub output_is : out ≡ (written_from c kind numbers source rows body output).output
