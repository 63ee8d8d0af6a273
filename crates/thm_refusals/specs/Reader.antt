-- The reader. "Reader: 16; fewer than 16 bytes is 9; 3 to 8; 9; then fields from left to right, at each place tag 10, 11, 13, value 10, 12,
-- then 14 before an entry's inside; 15 last", of which document 02 takes out 8 and before which it puts 41.
-- Assumes nothing.
use Rattle.std.specs.Prelude.{ℕ, ◌<◌, ◌≡◌, cond, ◌&&◌, List, [], ◌∷◌, ◌++◌, leb, length, take}
use Rattle.fixed_header.specs.Header.{WrongCeiling, total_of, id_of, version_of}
use Rattle.decoder.specs.Rows.{row_numbers, laid_out}
use Rattle.decoder.specs.Fields.{State, Result, ok, refused, blank, read_message}
use Rattle.schema.specs.Kinds.{schema_of}
use Rattle.records.specs.Records.{record_of, attachment_size_of}
use Rattle.message.specs.Frames.{Reading, header_of, body_of, last_bytes, refused_untouched, refused_cleared}
use Rattle.schema.specs.declared.Kind.{Kind}
use Rattle.schema.specs.declared.Kind.TheVariants as kinds
use Rattle.message.specs.Frames.{Answer}
use Rattle.std.specs.Prelude.{Ok, Err}
use Rattle.refusals.specs.Grounds.{Ground, ground_of, Verdict, refuses, works, Entry}
use Rattle.thm_refusals.specs.Header.{byte, Unary, faults}
use Rattle.thm_refusals.specs.Fields.{message_grounds}

-- ---- 9: "length isn't the total; .. or the wrong kind of frame"

-- "the caller of the reader names which of the six kinds it expects, for stream frames too": "0 unary, 1 stream"; "1 Init, 2 Data,
-- 3 Feedback, 4 Close; ignored in unary"
abbrev pub OfKind : Kind → (frame : List ℕ) → Type 0
OfKind kinds.Request f = Unary f
OfKind kinds.Response f = Unary f
OfKind kinds.Init f = (byte f 3 ≡ 1) × (byte f 4 ≡ 1)
OfKind kinds.Data f = (byte f 3 ≡ 1) × (byte f 4 ≡ 2)
OfKind kinds.Feedback f = (byte f 3 ≡ 1) × (byte f 4 ≡ 3)
OfKind kinds.Close f = (byte f 3 ≡ 1) × (byte f 4 ≡ 4)

-- ---- "then fields from left to right": those of the header message (specs/Fields), and what reading them comes to
abbrev pub field_grounds : Kind → (frame : List ℕ) → List Ground
field_grounds kind f = message_grounds f (schema_of kind) 16 (header_of kind f)

abbrev pub fields_read : Kind → (frame : List ℕ) → Result
fields_read kind f = read_message f (schema_of kind) 16 (header_of kind f)

-- what was read; nothing where it was refused
abbrev pub state_read : Result → State
state_read (ok st) = st
state_read (refused code) = blank

-- "15 | reader, writer | attachment larger than body": of the attachment_size that was read
abbrev pub AttachmentLarger : Kind → (frame : List ℕ) → Result → Type 0
AttachmentLarger kind f x = length (body_of kind f) < attachment_size_of kind (state_read x).slots

abbrev pub read_grounds : (c : ℕ) → Kind → (frame lent : List ℕ) → List Ground
read_grounds c kind f lent =
    -- 41 "before all others"; "row slice under 256 numbers"; "fewer than 16 bytes is 9"
    ground_of 41 (WrongCeiling c)
    ∷ ground_of 16 (length lent < row_numbers)
    ∷ ground_of 9 (length f < 16)
    ∷ (faults c (take 16 f)
    ++ ground_of 9 (length f ≡ total_of f → ⊥)
    ∷ ground_of 9 (OfKind kind f → ⊥)
    ∷ (field_grounds kind f
    ++ ground_of 15 (AttachmentLarger kind f (fields_read kind f))
    ∷ []))

-- ---- `read`

abbrev pub answer_says : Answer → Verdict
answer_says (Ok r) = works
answer_says (Err code) = refuses code

-- "A reader's refusals 10 to 15 leave the first 256 row numbers 0; all others leave rows .. untouched."
abbrev pub read_refusal : (lent : List ℕ) → (n : ℕ) → Reading
read_refusal lent n = cond (leb 10 n && leb n 15) (refused_cleared n lent) (refused_untouched n lent)

-- the work: the record, header, body and attachment, and the rows
abbrev pub read_work : Kind → (frame lent : List ℕ) → State → Reading
read_work kind f lent st =
    record {
      answer = Ok (record_of kind (id_of f) (version_of f) st.slots (length st.rows));
      header = header_of kind f;
      body = body_of kind f;
      attachment = last_bytes (attachment_size_of kind st.slots) (body_of kind f);
      rows = laid_out st.rows lent;
    }

abbrev pub read_entry : (c : ℕ) → Kind → (frame lent : List ℕ) → Entry Reading
read_entry c kind f lent =
    record {
      grounds = read_grounds c kind f lent;
      says = λ x. answer_says x.answer;
      refusal = read_refusal lent;
      work = read_work kind f lent (state_read (fields_read kind f));
    }
