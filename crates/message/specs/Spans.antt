-- The parts of a frame as starts and lengths, for a caller that can hold no part of it
use Rattle.std.specs.Prelude.{ℕ, ◌+◌, ◌-◌, List, length}
use Rattle.refusals.specs.Refusals.{in_numbers}
use Rattle.wire_read.specs.Part.{part}
use Rattle.decoder.specs.Fields.{start_of}
use Rattle.message.specs.Frames.{Answer, Reading}
use Rattle.records.specs.declared.Span.{Span}
use Rattle.message.specs.declared.Located.{Located}

-- "a start and length counted from the frame's first byte; an empty one is 0, 0"
abbrev pub span_from : (start len : ℕ) → Span
span_from start len = record { start = start_of start len; len = len }

-- the bytes that a span names, as far as they exist
abbrev pub bytes_at : List ℕ → Span → List ℕ
bytes_at f s = part f s.start (s.start + s.len)

-- the place `n` bytes after another; a place is a block of memory and an offset in it
abbrev pub place_after : ℕ × ℕ → ℕ → ℕ × ℕ
place_after place n = (place.0, n + place.1)

-- the record or the error code, and the parts as starts and lengths
pub record Spans : Type 0 where
  pub answer : Answer
  pub header : Span
  pub body : Span
  pub attachment : Span

-- what `read_spans` answers, in the papers' numbers
abbrev pub spans_given : Located → Spans
spans_given x = record { answer = in_numbers x.answer; header = x.header; body = x.body; attachment = x.attachment }

-- "A unary frame is these 16, the header message, then the body. A stream frame is these 16, then its message, or raw bytes for Data.";
-- "The attachment is the last attachment_size bytes of the body.": the header starts after the 16 bytes, and body and attachment end with
-- the frame. A part is not longer than the frame, so no subtraction is cut off: `spans_stand` in proofs/SpansStand has its bytes at its
-- span.
abbrev pub spans_of : Reading → (size : ℕ) → Spans
spans_of x size =
    record {
      answer = x.answer;
      header = span_from 16 (length x.header);
      body = span_from (size - length x.body) (length x.body);
      attachment = span_from (size - length x.attachment) (length x.attachment);
    }
