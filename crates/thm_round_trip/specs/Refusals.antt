-- The grounds on which the writer refuses, as propositions in the words of document 01's table and of document 02
use Rattle.std.specs.Prelude.{ℕ, ◌+◌, ◌*◌, ◌<◌, ◌≡◌, ◌⊎◌, Bool, true, false, List, [], ◌∷◌, ◌++◌, length, Result, Ok, Err}
use Rattle.fixed_header.specs.Header.{WrongCeiling}
use Rattle.decoder.specs.Rows.{Row}
use Rattle.decoder.specs.Fields.{part_of}
use Rattle.records.specs.Records.{attachment_size_of}
use Rattle.schema.specs.declared.Kind.{Kind}
use Rattle.schema.specs.declared.Kind.TheVariants as kinds
use Rattle.records.specs.declared.Span.{Span}
use Rattle.records.specs.declared.Init.{Init}
use Rattle.records.specs.declared.Record.{Record}
use Rattle.records.specs.declared.Record.TheVariants as records
use Rattle.records.specs.Content.{kind_of, row_count, bits, slots_of}
use Rattle.writer_checks.specs.Grounds.{max_rows, has_map}
use Rattle.writer.specs.Writing.{rows_of, frame_of, Writing, refused_with, wrote}
use Rattle.refusals.specs.Grounds.{Ground, ground_of, Some, Verdict, refuses, works, Entry}

-- ---- 17

-- "a start plus length past the end of the source bytes, empty fields too"
abbrev pub Past : (source : List ℕ) (start len : ℕ) → Type 0
Past source start len = length source < start + len

-- the byte fields of a record
abbrev pub record_spans : Record → List Span
record_spans (records.Request r) = r.caller ∷ r.callee ∷ r.func ∷ []
record_spans (records.Response r) = r.error_msg ∷ []
record_spans (records.Init r) =
    r.request_meta.caller ∷ r.request_meta.callee ∷ r.request_meta.func ∷ r.response_meta.error_msg ∷ []
record_spans (records.Data r) = []
record_spans (records.Feedback r) = []
record_spans (records.Close r) = r.msg ∷ []

abbrev pub SpanPast : (source : List ℕ) → Span → Type 0
SpanPast source span = Past source span.start span.len

abbrev pub RowPast : (source : List ℕ) → Row → Type 0
RowPast source row = Past source row.key row.key_size ⊎ Past source row.value row.value_size

-- ---- 18

-- "equal keys": the bytes of the keys in order, one of which comes again
abbrev pub keys_of : (source : List ℕ) → List Row → List (List ℕ)
keys_of source [] = []
keys_of source (row ∷ rows) = part_of source row.key row.key_size ∷ keys_of source rows

abbrev pub ComesAgain : List (List ℕ) → Type 0
ComesAgain [] = ⊥
ComesAgain (key ∷ keys) = Some (λ (other : List ℕ). other ≡ key) keys ⊎ ComesAgain keys

-- "a meta part marked absent and not all zero, empty and rowless": its numbers, the lengths of its byte fields and the row count
abbrev pub AllZero : List ℕ → Type 0
AllZero [] = Unit {0}
AllZero (n ∷ ns) = (n ≡ 0) × AllZero ns

abbrev pub AbsentNotZero : Bool → List ℕ → Type 0
AbsentNotZero present numbers = (present ≡ false) × (AllZero numbers → ⊥)

abbrev pub request_meta_numbers : Init → List ℕ
request_meta_numbers r =
    let part = r.request_meta in
    part.caller.len ∷ part.callee.len ∷ part.func.len ∷ part.message_type ∷ r.rows ∷ []

-- an int32 is zero where its 32 bits are
abbrev pub response_meta_numbers : Init → List ℕ
response_meta_numbers r = let part = r.response_meta in bits part.ret ∷ part.error_msg.len ∷ []

abbrev pub PartNotZero : Record → Type 0
PartNotZero (records.Request r) = ⊥
PartNotZero (records.Response r) = ⊥
PartNotZero (records.Init r) =
    AbsentNotZero r.request_meta.present (request_meta_numbers r) ⊎ AbsentNotZero r.response_meta.present (response_meta_numbers r)
PartNotZero (records.Data r) = ⊥
PartNotZero (records.Feedback r) = ⊥
PartNotZero (records.Close r) = ⊥

-- ---- 15: "a body with Init, Feedback or Close"
unfoldable pub has_body : Kind → Bool
has_body kinds.Request = true
has_body kinds.Response = true
has_body kinds.Init = false
has_body kinds.Data = true
has_body kinds.Feedback = false
has_body kinds.Close = false

-- ---- the writer's grounds

-- "Writer 18's first three grounds, 17, 18's others, 15": those for which the frame's size is not needed
abbrev pub content_grounds : Record → (source numbers body : List ℕ) → List Ground
content_grounds r source numbers body =
    -- "over 64 rows, rows with Feedback or Data, row slice too short for them"
    ground_of 18 (max_rows < row_count r)
    ∷ ground_of 18 ((has_map (kind_of r) ≡ false) × (0 < row_count r))
    ∷ ground_of 18 (length numbers < row_count r * 4)
    ∷ ground_of 17 (Some (SpanPast source) (record_spans r))
    ∷ ground_of 17 (Some (RowPast source) (rows_of r numbers))
    ∷ ground_of 18 (ComesAgain (keys_of source (rows_of r numbers)))
    ∷ ground_of 18 (PartNotZero r)
    -- "attachment larger than body; writer: a body with Init, Feedback or Close"
    ∷ ground_of 15 (length body < attachment_size_of (kind_of r) (slots_of r))
    ∷ ground_of 15 ((has_body (kind_of r) ≡ false) × (0 < length body))
    ∷ []

-- "19, 20, 27." Document 02 took 20 out. P11: "41 ceiling outside the range, before all others"
abbrev pub write_grounds : (c : ℕ) → Record → (source numbers body : List ℕ) → (room : ℕ) → List Ground
write_grounds c r source numbers body room =
    -- "41 ceiling outside the range, before all others"
    ground_of 41 (WrongCeiling c)
    ∷ content_grounds r source numbers body
    -- "frame over 65,536", of which P11: "1, 6 and 19 speak of the ceiling"; "output shorter than the frame"
    ++ ground_of 19 (c < length (frame_of r source numbers body))
    ∷ ground_of 27 (room < length (frame_of r source numbers body))
    ∷ []

-- ---- `write`: "A refused record or job is all zero; a refused write counts 0 bytes", "leave rows, output and list untouched"; "Bytes past
-- the frame stay as they were."
abbrev pub encoded_says : Result ℕ ℕ → Verdict
encoded_says (Ok size) = works
encoded_says (Err code) = refuses code

abbrev pub write_entry : (c : ℕ) → Record → (source numbers body output : List ℕ) → Entry Writing
write_entry c r source numbers body output =
    record {
      grounds = write_grounds c r source numbers body (length output);
      says = λ w. encoded_says w.answer;
      refusal = λ n. refused_with n output;
      work = wrote (frame_of r source numbers body) output;
    }
