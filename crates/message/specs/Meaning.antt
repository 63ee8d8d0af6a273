-- What a record says, wherever its bytes are: two records over different bytes are the same record where their meanings are equal
use Rattle.std.specs.Prelude.{ℕ, Bool, List, [], ◌∷◌, length, ℤ, Ok, Err}
use Rattle.message.specs.Frames.{Answer}
use Rattle.decoder.specs.Rows.{rows_in, Row}
use Rattle.decoder.specs.Fields.{part_of}
use Rattle.schema.specs.declared.Kind.{Kind}
use Rattle.records.specs.declared.Span.{Span}
use Rattle.records.specs.declared.Record.{Record}
use Rattle.records.specs.declared.Record.TheVariants.{Request, Response, Init, Data, Feedback, Close}
use Rattle.records.specs.Content.{kind_of, record_id, record_version, row_count}

-- "A byte field is a start and length": its length, and the bytes that the two name. The length is beside them, since what they name
-- ends with the source.
pub record Bytes : Type 0 where
  pub size : ℕ
  pub content : List ℕ

abbrev pub bytes_from : (source : List ℕ) → (start len : ℕ) → Bytes
bytes_from source start len = record { size = len; content = part_of source start len }

-- bytes with their own length
abbrev pub all_of : List ℕ → Bytes
all_of l = record { size = length l; content = l }

-- a number, a present mark, or a byte field
pub data Said : Type 0 where
  unsigned : ℕ → Said
  signed : ℤ → Said
  present : Bool → Said
  text : Bytes → Said

abbrev pub text_of : (source : List ℕ) → Span → Said
text_of source span = text (bytes_from source span.start span.len)

-- "that kind's own fields and present marks"
unfoldable pub fields_of : (source : List ℕ) → Record → List Said
fields_of source (Request r) =
    unsigned r.version ∷ unsigned r.call_type ∷ unsigned r.request_id ∷ unsigned r.timeout
    ∷ text_of source r.caller ∷ text_of source r.callee ∷ text_of source r.func
    ∷ unsigned r.message_type ∷ unsigned r.content_type ∷ unsigned r.content_encoding ∷ unsigned r.attachment_size ∷ []
fields_of source (Response r) =
    unsigned r.version ∷ unsigned r.call_type ∷ unsigned r.request_id ∷ signed r.ret ∷ signed r.func_ret
    ∷ text_of source r.error_msg
    ∷ unsigned r.message_type ∷ unsigned r.content_type ∷ unsigned r.content_encoding ∷ unsigned r.attachment_size ∷ []
fields_of source (Init r) =
    present r.request_meta.present
    ∷ text_of source r.request_meta.caller ∷ text_of source r.request_meta.callee ∷ text_of source r.request_meta.func
    ∷ unsigned r.request_meta.message_type
    ∷ present r.response_meta.present
    ∷ signed r.response_meta.ret ∷ text_of source r.response_meta.error_msg
    ∷ unsigned r.init_window_size ∷ unsigned r.content_type ∷ unsigned r.content_encoding ∷ []
fields_of source (Data r) = []
fields_of source (Feedback r) = unsigned r.window_size_increment ∷ []
fields_of source (Close r) =
    signed r.close_type ∷ signed r.ret ∷ text_of source r.msg ∷ unsigned r.message_type ∷ signed r.func_ret ∷ []

-- a row of the map
pub record Pair : Type 0 where
  pub key : Bytes
  pub value : Bytes

abbrev pub pairs_of : (source : List ℕ) → List Row → List Pair
pairs_of source [] = []
pairs_of source (row ∷ rows) =
    record {
      key = bytes_from source row.key row.key_size;
      value = bytes_from source row.value
          row.value_size;
    } ∷ pairs_of source rows

-- "Beside its kind, a record is the id of bytes 11-14, that kind's own fields and present marks, and the row count; no more." Document 02,
-- P2: "Every record carries the version"; "Demand 2's round trip includes the version"
pub data Meaning : Type 0 where
  says : Kind → (id version : ℕ) → (fields : List Said) → (rows : List Pair) → Meaning
  refused : (code : ℕ) → Meaning

abbrev pub meaning : Record → (source numbers : List ℕ) → Meaning
meaning r source numbers = says (kind_of r) (record_id r) (record_version r) (fields_of source r) (pairs_of source (rows_in (row_count r) numbers))

-- what the reader answered says
unfoldable pub answer_meaning : Answer → (source numbers : List ℕ) → Meaning
answer_meaning (Ok r) source numbers = meaning r source numbers
answer_meaning (Err code) source numbers = refused code
