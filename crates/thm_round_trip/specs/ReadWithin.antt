-- "A byte field is a start and length counted from the frame's first byte; an empty one is 0, 0.": whoever reads `len` bytes at `start` of
-- the frame stays within it
use Rattle.std.specs.Prelude.{ℕ, List, [], length}
use Rattle.decoder.specs.Rows.{rows_in}
use Rattle.records.specs.declared.Span.{Span}
use Rattle.message.specs.Frames.{Answer}
use Rattle.std.specs.Prelude.{Ok, Err}
use Rattle.message.specs.Spans.{Spans}
use Rattle.records.specs.Content.{row_count}
use Rattle.thm_round_trip.specs.Refusals.{record_spans}
use Rattle.refusals.specs.Grounds.{Every}
use Rattle.thm_round_trip.specs.Lies.{Lies, RowLies}

abbrev pub SpanLies : (frame : List ℕ) → Span → Type 0
SpanLies frame s = Lies (length frame) s.start s.len

-- the byte fields of what was read, and how many rows it counts; a refusal has neither
abbrev pub spans_in : Answer → List Span
spans_in (Ok r) = record_spans r
spans_in (Err code) = []

abbrev pub counted_in : Answer → ℕ
counted_in (Ok r) = row_count r
counted_in (Err code) = 0

-- All that a reading hands out lies within the frame: the byte fields of the record, the keys and values of the rows that it counts, and
-- the parts. A refused one has no byte fields and no rows.
pub record ReadWithin (frame : List ℕ) (x : Spans) (numbers : List ℕ) : Type 0 where
  pub fields : Every (SpanLies frame) (spans_in x.answer)
  pub rows : Every (RowLies (length frame)) (rows_in (counted_in x.answer) numbers)
  pub header : SpanLies frame x.header
  pub body : SpanLies frame x.body
  pub attachment : SpanLies frame x.attachment
