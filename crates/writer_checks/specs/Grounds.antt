-- The writer's grounds of refusal, in the order of document 01
use Rattle.std.specs.Prelude.{ℕ, ◌+◌, ◌*◌, Bool, true, false, not, ◌&&◌, ◌||◌, List, [], ◌∷◌, length, get_or, leb, eqb}
use Rattle.schema.specs.Schema.{Schema, done, number, bytes, map, message, width}
use Rattle.laws.specs.Chains.{unless}
use Rattle.decoder.specs.Rows.{Row, rows_in}
use Rattle.decoder.specs.Fields.{part_of, same_bytes}
use Rattle.records.specs.Records.{attachment_size_of}
use Rattle.schema.specs.Kinds.{schema_of}
use Rattle.schema.specs.declared.Kind.{Kind}
use Rattle.schema.specs.declared.Kind.TheVariants as kinds

-- ---- 18: "over 64 rows, rows with Feedback or Data, row slice too short for them"
abbrev pub max_rows : ℕ
max_rows = 64

unfoldable pub has_map : Kind → Bool
has_map kinds.Request = true
has_map kinds.Response = true
has_map kinds.Init = true
has_map kinds.Data = false
has_map kinds.Feedback = false
has_map kinds.Close = true

-- a row of the kind is allowed, and the rows are lent
unfoldable pub rows_ok : Kind → (count lent : ℕ) → Bool
rows_ok kind count lent = leb count max_rows && (has_map kind || eqb count 0) && leb (count * 4) lent

-- ---- 17: "a start plus length past the end of the source bytes, empty fields too"; `size` is the number of source bytes
unfoldable pub spans_within : (size : ℕ) → Schema → (i : ℕ) → (slots : List ℕ) → Bool
spans_within size done i slots = true
spans_within size (number type n name more) i slots = spans_within size more (i + 1) slots
spans_within size (bytes n name more) i slots =
    leb (get_or slots i 0 + get_or slots (i + 1) 0) size && spans_within size more (i + 2) slots
spans_within size (map n name more) i slots = spans_within size more i slots
spans_within size (message n name inner more) i slots =
    spans_within size inner (i + 1) slots && spans_within size more (i + 1 + width inner) slots

unfoldable pub rows_within : (size : ℕ) → List Row → Bool
rows_within size [] = true
rows_within size (row ∷ rows) =
    leb (row.key + row.key_size) size && leb (row.value + row.value_size) size && rows_within size rows

-- ---- 18: "equal keys"
-- no row has the key
unfoldable pub no_key : (source key : List ℕ) → List Row → Bool
no_key source key [] = true
no_key source key (row ∷ rows) = not (same_bytes (part_of source row.key row.key_size) key) && no_key source key rows

unfoldable pub keys_differ : (source : List ℕ) → List Row → Bool
keys_differ source [] = true
keys_differ source (row ∷ rows) = no_key source (part_of source row.key row.key_size) rows && keys_differ source rows

-- ---- 18: "a meta part marked absent and not all zero, empty and rowless"; empty is of length 0
unfoldable pub all_zero : List Row → Schema → (i : ℕ) → (slots : List ℕ) → Bool
all_zero rows done i slots = true
all_zero rows (number type n name more) i slots = eqb (get_or slots i 0) 0 && all_zero rows more (i + 1) slots
all_zero rows (bytes n name more) i slots = eqb (get_or slots (i + 1) 0) 0 && all_zero rows more (i + 2) slots
all_zero rows (map n name more) i slots = eqb (length rows) 0 && all_zero rows more i slots
all_zero rows (message n name inner more) i slots =
    eqb (get_or slots i 0) 0 && all_zero rows inner (i + 1) slots && all_zero rows more (i + 1 + width inner) slots

unfoldable pub absent_ok : List Row → Schema → (i : ℕ) → (slots : List ℕ) → Bool
absent_ok rows done i slots = true
absent_ok rows (number type n name more) i slots = absent_ok rows more (i + 1) slots
absent_ok rows (bytes n name more) i slots = absent_ok rows more (i + 2) slots
absent_ok rows (map n name more) i slots = absent_ok rows more i slots
absent_ok rows (message n name inner more) i slots =
    (not (eqb (get_or slots i 0) 0) || all_zero rows inner (i + 1) slots) && absent_ok rows more (i + 1 + width inner) slots

-- ---- 15: "attachment larger than body; writer: a body with Init, Feedback or Close"
unfoldable pub body_ok : Kind → (slots : List ℕ) → (size : ℕ) → Bool
body_ok kinds.Request slots size = leb (attachment_size_of kinds.Request slots) size
body_ok kinds.Response slots size = leb (attachment_size_of kinds.Response slots) size
body_ok kinds.Init slots size = eqb size 0
body_ok kinds.Data slots size = true
body_ok kinds.Feedback slots size = eqb size 0
body_ok kinds.Close slots size = eqb size 0

-- ---- "Writer 18's first three grounds, 17, 18's others, 15", and then those that need the size: the first that holds, 0 for none
unfoldable pub content_error : Kind → (slots : List ℕ) → (count : ℕ) → (source numbers : List ℕ) → (body_size : ℕ) → ℕ
content_error kind slots count source numbers body_size =
    unless (rows_ok kind count (length numbers)) 18
    (unless (spans_within (length source) (schema_of kind) 0 slots) 17
    (unless (rows_within (length source) (rows_in count numbers)) 17
    (unless (keys_differ source (rows_in count numbers)) 18
    (unless (absent_ok (rows_in count numbers) (schema_of kind) 0 slots) 18
    (unless (body_ok kind slots body_size) 15
    0)))))
