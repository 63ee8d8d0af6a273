-- What the places say that the reader's core answers with
use Rattle.std.specs.Prelude.{ℕ, ◌+◌, ◌-◌, ◌≤◌, ◌≡◌, true, List, length, take, get_or, Result, Ok, Err}
use Rattle.fixed_header.specs.Header.{max_frame, header_error, total_of, header_size_of, id_of, version_of}
use Rattle.message.specs.Frames.{Reading, kind_fits, refused_untouched}
use Rattle.message.specs.Spans.{span_from, spans_of}
use Rattle.schema.specs.declared.Kind.{Kind}
use Rattle.schema.specs.declared.Kind.TheVariants as kinds
use Rattle.refusals.specs.Refusals.{number}
use Rattle.refusals.specs.declared.Refusal.{Refusal}
use Rattle.message.specs.declared.frames.Parts.{Parts}

-- The record and the row numbers are those of the reading x of a frame of that size, and the places are those of its spans. The places
-- rise (`within` in proofs/PartPlaces): no subtraction is cut off.
pub record ReadParts (x : Reading) (size : ℕ) (p : Parts) (numbers : List ℕ) : Type 0 where
  pub answer_is : x.answer ≡ Ok p.content
  pub rows_are : numbers ≡ x.rows
  pub small : (p.body ≤ max_frame) × (size ≤ max_frame)
  pub header_at : span_from 16 (p.body - 16) ≡ (spans_of x size).header
  pub body_at_is : span_from p.body (size - p.body) ≡ (spans_of x size).body
  pub attachment_at : span_from p.attachment (size - p.attachment) ≡ (spans_of x size).attachment

-- a refusal has no parts
abbrev pub PartsOf : Reading → (size : ℕ) → Result Parts Refusal → (numbers : List ℕ) → Type 0
PartsOf x size (Ok p) numbers = ReadParts x size p numbers
PartsOf x size (Err refusal) numbers = x ≡ refused_untouched (number refusal) numbers

-- the place after the header, by the header size and the frame's length
unfoldable pub body_at : Kind → (header_size size : ℕ) → ℕ
body_at kinds.Request h n = 16 + h
body_at kinds.Response h n = 16 + h
body_at kinds.Init h n = n
body_at kinds.Data h n = 16
body_at kinds.Feedback h n = n
body_at kinds.Close h n = n

-- a frame that is good under a ceiling, so under the largest (`good_largest` of `fixed_header`), whole and of its kind, with its header
-- size, id and version
pub record Whole (kind : Kind) (f : List ℕ) (header_size id version : ℕ) : Type 0 where
  pub good : header_error max_frame (take 16 f) ≡ 0
  pub total_is : length f ≡ total_of f
  pub fits : kind_fits kind (get_or f 2 0) (get_or f 3 0) ≡ true
  pub size_is : header_size ≡ header_size_of f
  pub id_is : id ≡ id_of f
  pub version_is : version ≡ version_of f
