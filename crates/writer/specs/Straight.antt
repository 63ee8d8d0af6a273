-- What the writer's private functions promise each other. No sentence of the paper is here.
use Rattle.std.specs.Prelude.{ℕ, ◌+◌, ◌≤◌, ◌≡◌, List, map as each, [], ◌∷◌, ◌++◌, Bool, true, not, cond, ◌&&◌, eqb, ltb, length, get_or}
use Rattle.std.proofs.lemmas.List.Edits.{sets}
use Rattle.fixed_header.specs.Header.{ceiling_ok}
use Rattle.fixed_header.specs.Put.{fixed_header}
use Rattle.wire_write.specs.Writing.{put_varint, put_bytes}
use Rattle.schema.specs.Schema.{Integer, uint32, int32, Schema, done, number, bytes, map, message, width, request_meta, response_meta}
use Rattle.schema.specs.Kinds.{schema_of}
use Rattle.schema.specs.declared.Kind.{Kind}
use Rattle.decoder.specs.Rows.{Row, rows_in}
use Rattle.decoder.specs.Fields.{part_of}
use Rattle.writer_checks.specs.Grounds.{content_error}
use Rattle.writer_checks.specs.Fours.{row_of}
use Rattle.writer.specs.Encoding.{wide, put_number, put_some, put_rows, put_fields}
use Rattle.writer.specs.Writing.{header_for, size_error, Writing, refused_with, wrote}

-- ---- the rows, four numbers each
abbrev pub fours : List (List ℕ) → List Row
fours rows = each row_of rows

-- a row's key and its value lie within `size` bytes
abbrev pub RowIn : (size : ℕ) → Row → Type 0
RowIn size row = (row.key + row.key_size ≤ size) × (row.value + row.value_size ≤ size)

-- ---- what is written
-- `x` was stored in `out` from place `at`, and the output is then `after`, its next place `next`
pub record Did (x out : List ℕ) (at next : ℕ) (after : List ℕ) : Type 0 where
  pub place : next ≡ at + length x
  pub bytes : after ≡ sets out at x

-- ---- how many bytes a message is, by the lengths alone: one definition for all kinds, by the schema. A tag has one byte.
-- a field of `size` bytes: its tag, its length, its content
abbrev pub tagged : (size : ℕ) → ℕ
tagged size = 1 + length (put_varint size) + size

unfoldable pub number_size : Integer → (v : ℕ) → ℕ
number_size type v = cond (eqb v 0) 0 (1 + length (put_varint (wide type v)))

-- a field of `size` bytes that is left out where the mark is 0: of bytes the mark is their size
unfoldable pub size_if : (mark size : ℕ) → ℕ
size_if mark size = cond (eqb mark 0) 0 (tagged size)

-- a sum over the rows
unfoldable pub rows_sum : (Row → ℕ) → List Row → ℕ
rows_sum f [] = 0
rows_sum f (row ∷ rows) = f row + rows_sum f rows

abbrev pub row_size : Row → ℕ
row_size row = tagged (tagged row.key_size + tagged row.value_size)

unfoldable pub size_by : List Row → Schema → (i : ℕ) → (slots : List ℕ) → ℕ
size_by rows done i slots = 0
size_by rows (number type n name more) i slots = number_size type (get_or slots i 0) + size_by rows more (i + 1) slots
size_by rows (bytes n name more) i slots = size_if (get_or slots (i + 1) 0) (get_or slots (i + 1) 0) + size_by rows more (i + 2) slots
size_by rows (map n name more) i slots = rows_sum row_size rows + size_by rows more i slots
size_by rows (message n name inner more) i slots =
    size_if (get_or slots i 0) (size_by rows inner (i + 1) slots) + size_by rows more (i + 1 + width inner) slots

-- every tag of the schema has one byte
unfoldable pub small_tags : Schema → Bool
small_tags done = true
small_tags (number type n name more) = ltb n 15 && small_tags more
small_tags (bytes n name more) = ltb n 15 && small_tags more
small_tags (map n name more) = ltb n 15 && small_tags more
small_tags (message n name inner more) = ltb n 15 && (small_tags inner && small_tags more)

-- ---- no less than that, where it is at most `max_frame`: a length is then below 2^21, and its varint has at most 3 bytes
-- a row: three tags and three lengths
abbrev pub row_most : Row → ℕ
row_most row = row.key_size + row.value_size + 12

-- a number has at most 11 bytes; bytes and a part of Init have at most 4 more than are in them
unfoldable pub most_by : List Row → Schema → (i : ℕ) → (slots : List ℕ) → ℕ
most_by rows done i slots = 0
most_by rows (number type n name more) i slots = 11 + most_by rows more (i + 1) slots
most_by rows (bytes n name more) i slots = 4 + get_or slots (i + 1) 0 + most_by rows more (i + 2) slots
most_by rows (map n name more) i slots = rows_sum row_most rows + most_by rows more i slots
most_by rows (message n name inner more) i slots = 4 + most_by rows inner (i + 1) slots + most_by rows more (i + 1 + width inner) slots

-- What the sizes stay below, so that no sum overflows: lengths are of 32 bits, and there are at most 64 rows. A row; a field; a message.
abbrev pub most_row : ℕ
most_row = 17179869184

abbrev pub most_field : ℕ
most_field = 1099511627776

abbrev pub most_message : ℕ
most_message = 140737488355328

-- ---- a field of the slots
abbrev pub number_at : (slots : List ℕ) → (n i : ℕ) → List ℕ
number_at slots n i = put_number uint32 n (get_or slots i 0)

abbrev pub signed_at : (slots : List ℕ) → (n i : ℕ) → List ℕ
signed_at slots n i = put_number int32 n (get_or slots i 0)

abbrev pub some_at : (source slots : List ℕ) → (n i : ℕ) → List ℕ
some_at source slots n i = put_some n (part_of source (get_or slots i 0) (get_or slots (i + 1) 0))

-- a byte field lies within the source
abbrev pub SpanIn : (size : ℕ) → (slots : List ℕ) → (i : ℕ) → Type 0
SpanIn size slots i = get_or slots i 0 + get_or slots (i + 1) 0 ≤ size

-- ---- a request: fields 1 to 4, its names, field 8, its rows, fields 10 to 12; and how long these are, as sums
abbrev pub NamesIn : (size : ℕ) → (slots : List ℕ) → Type 0
NamesIn size slots = SpanIn size slots 4 × SpanIn size slots 6 × SpanIn size slots 8

abbrev pub put_first : (slots : List ℕ) → List ℕ
put_first slots = number_at slots 1 0 ++ (number_at slots 2 1 ++ (number_at slots 3 2 ++ number_at slots 4 3))

abbrev pub put_names : (source slots : List ℕ) → List ℕ
put_names source slots = some_at source slots 5 4 ++ (some_at source slots 6 6 ++ some_at source slots 7 8)

abbrev pub put_last : (slots : List ℕ) → List ℕ
put_last slots = number_at slots 10 11 ++ (number_at slots 11 12 ++ number_at slots 12 13)

abbrev pub first_length : (slots : List ℕ) → ℕ
first_length slots =
    length (number_at slots 1 0) + (length (number_at slots 2 1) + (length (number_at slots 3 2) + length (number_at slots 4 3)))

abbrev pub names_length : (source slots : List ℕ) → ℕ
names_length source slots = length (some_at source slots 5 4) + (length (some_at source slots 6 6) + length (some_at source slots 7 8))

abbrev pub last_length : (slots : List ℕ) → ℕ
last_length slots = length (number_at slots 10 11) + (length (number_at slots 11 12) + length (number_at slots 12 13))

abbrev pub request_length : (source : List ℕ) → List Row → (slots : List ℕ) → ℕ
request_length source rows slots =
    first_length slots + (names_length source slots + (length (number_at slots 8 10) + (length (put_rows source 9 rows) + last_length slots)))

-- ---- a response: fields 1 to 5, its message, field 7, its rows, fields 9, 10 and 12
abbrev pub put_status : (slots : List ℕ) → List ℕ
put_status slots =
    number_at slots 1 0 ++ (number_at slots 2 1 ++ (number_at slots 3 2 ++ (signed_at slots 4 3 ++ signed_at slots 5 4)))

abbrev pub put_content : (slots : List ℕ) → List ℕ
put_content slots = number_at slots 9 8 ++ (number_at slots 10 9 ++ number_at slots 12 10)

abbrev pub status_length : (slots : List ℕ) → ℕ
status_length slots =
    length (number_at slots 1 0) + (length (number_at slots 2 1) +
    (length (number_at slots 3 2) + (length (signed_at slots 4 3) + length (signed_at slots 5 4))))

abbrev pub content_length : (slots : List ℕ) → ℕ
content_length slots = length (number_at slots 9 8) + (length (number_at slots 10 9) + length (number_at slots 12 10))

abbrev pub response_length : (source : List ℕ) → List Row → (slots : List ℕ) → ℕ
response_length source rows slots =
    status_length slots + (length (some_at source slots 6 5) + (length (number_at slots 7 7) +
    (length (put_rows source 8 rows) + content_length slots)))

-- ---- a Close: its first three fields, and the others
abbrev pub put_reason : (source slots : List ℕ) → List ℕ
put_reason source slots = signed_at slots 1 0 ++ (signed_at slots 2 1 ++ some_at source slots 3 2)

abbrev pub reason_length : (source slots : List ℕ) → ℕ
reason_length source slots = length (signed_at slots 1 0) + (length (signed_at slots 2 1) + length (some_at source slots 3 2))

abbrev pub close_length : (source : List ℕ) → List Row → (slots : List ℕ) → ℕ
close_length source rows slots =
    reason_length source slots + (length (number_at slots 4 4) + (length (put_rows source 5 rows) + length (signed_at slots 6 5)))

-- ---- an Init: its two parts, and its own fields
abbrev pub MetaIn : (size : ℕ) → (slots : List ℕ) → Type 0
MetaIn size slots = SpanIn size slots 1 × SpanIn size slots 3 × SpanIn size slots 5

abbrev pub request_meta_bytes : (source : List ℕ) → List Row → (slots : List ℕ) → List ℕ
request_meta_bytes source rows slots = put_fields source rows request_meta 1 slots

abbrev pub response_meta_bytes : (source : List ℕ) → List Row → (slots : List ℕ) → List ℕ
response_meta_bytes source rows slots = put_fields source rows response_meta 9 slots

abbrev pub request_meta_length : (source : List ℕ) → List Row → (slots : List ℕ) → ℕ
request_meta_length source rows slots =
    length (some_at source slots 1 1) + (length (some_at source slots 2 3) +
    (length (some_at source slots 3 5) + (length (number_at slots 4 7) + length (put_rows source 5 rows))))

abbrev pub response_meta_length : (source slots : List ℕ) → ℕ
response_meta_length source slots = length (signed_at slots 1 9) + length (some_at source slots 2 10)

-- the parts, left out where the mark is 0
abbrev pub put_part : (n mark : ℕ) → (content : List ℕ) → List ℕ
put_part n mark content = cond (eqb mark 0) [] (put_bytes n content)

abbrev pub put_request_part : (source : List ℕ) → List Row → (slots : List ℕ) → List ℕ
put_request_part source rows slots = put_part 1 (get_or slots 0 0) (request_meta_bytes source rows slots)

abbrev pub put_response_part : (source : List ℕ) → List Row → (slots : List ℕ) → List ℕ
put_response_part source rows slots = put_part 2 (get_or slots 8 0) (response_meta_bytes source rows slots)

abbrev pub init_length : (source : List ℕ) → List Row → (slots : List ℕ) → ℕ
init_length source rows slots =
    length (put_request_part source rows slots) + (length (put_response_part source rows slots)
    + (length (number_at slots 3 12) + (length (number_at slots 4 13) + length (number_at slots 5 14))))

-- ---- the sizes of the parts that the code sums
abbrev pub unsigned_size : (slots : List ℕ) → (i : ℕ) → ℕ
unsigned_size slots i = number_size uint32 (get_or slots i 0)

abbrev pub signed_size : (slots : List ℕ) → (i : ℕ) → ℕ
signed_size slots i = number_size int32 (get_or slots i 0)

abbrev pub some_size : (slots : List ℕ) → (i : ℕ) → ℕ
some_size slots i = size_if (get_or slots i 0) (get_or slots i 0)

abbrev pub first_size : (slots : List ℕ) → ℕ
first_size slots = unsigned_size slots 0 + unsigned_size slots 1 + unsigned_size slots 2 + unsigned_size slots 3

abbrev pub names_size : (slots : List ℕ) → ℕ
names_size slots = some_size slots 5 + some_size slots 7 + some_size slots 9

abbrev pub last_size : (slots : List ℕ) → ℕ
last_size slots = unsigned_size slots 11 + unsigned_size slots 12 + unsigned_size slots 13

abbrev pub status_size : (slots : List ℕ) → ℕ
status_size slots = unsigned_size slots 0 + unsigned_size slots 1 + unsigned_size slots 2 + signed_size slots 3 + signed_size slots 4

abbrev pub content_size : (slots : List ℕ) → ℕ
content_size slots = unsigned_size slots 8 + unsigned_size slots 9 + unsigned_size slots 10

abbrev pub stream_size : (slots : List ℕ) → ℕ
stream_size slots = unsigned_size slots 12 + unsigned_size slots 13 + unsigned_size slots 14

-- ---- the message of slots and rows as the code has them
abbrev pub message_bytes : Kind → (slots : List ℕ) → (rows : List (List ℕ)) → (source : List ℕ) → List ℕ
message_bytes kind slots rows source = put_fields source (fours rows) (schema_of kind) 0 slots

-- ---- the frame of a kind, an id, a version, slots and a row count
abbrev pub message_in : Kind → (slots : List ℕ) → (count : ℕ) → (source numbers : List ℕ) → List ℕ
message_in kind slots count source numbers = put_fields source (rows_in count numbers) (schema_of kind) 0 slots

abbrev pub frame_with : Kind → (id version : ℕ) → (m body : List ℕ) → List ℕ
frame_with kind id version m body = fixed_header (header_for kind id version m body) ++ m ++ body

-- 19, 27, or the frame
abbrev pub written_with : (c : ℕ) → Kind → (id version : ℕ) → (m body output : List ℕ) → Writing
written_with c kind id version m body output =
    cond (eqb (size_error c (16 + length m + length body) (length output)) 0)
    (wrote (frame_with kind id version m body) output)
    (refused_with (size_error c (16 + length m + length body) (length output)) output)

-- the grounds before these, and then that: what `written` says of a record with this kind, this id, this version, these slots and rows
abbrev pub written_of : (c : ℕ) → Kind → (id version : ℕ) → (slots : List ℕ) → (count : ℕ) → (source numbers body output : List ℕ)
    → Writing
written_of c kind id version slots count source numbers body output =
    cond (not (ceiling_ok c)) (refused_with 41 output)
    (cond (eqb (content_error kind slots count source numbers (length body)) 0)
    (written_with c kind id version (message_in kind slots count source numbers) body output)
    (refused_with (content_error kind slots count source numbers (length body)) output))
