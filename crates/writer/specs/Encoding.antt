-- The bytes of a message, by its schema. `source` is the bytes that the starts of a record refer to; `slots` are its fields, and `i` is the
-- first slot of the schema.
use Rattle.std.specs.Prelude.{ℕ, ◌+◌, cond, List, [], ◌∷◌, ◌++◌, length, get_or, eqb}
use Rattle.wire_read.specs.Varint.{low_i32}
use Rattle.wire_write.specs.Writing.{put_varint, sign_extended, put_tag, put_bytes}
use Rattle.schema.specs.Schema.{Integer, uint32, int32, Schema, done, number, bytes, map, message, width}
use Rattle.decoder.specs.Rows.{Row}
use Rattle.decoder.specs.Fields.{part_of}

-- "A negative int32 is written in ten bytes."
unfoldable pub wide : Integer → ℕ → ℕ
wide uint32 v = v
wide int32 v = sign_extended (low_i32 v)

-- "zero and empty ones left out"
unfoldable pub put_number : Integer → (n v : ℕ) → List ℕ
put_number type n v = cond (eqb v 0) [] (put_tag n 0 ++ put_varint (wide type v))

unfoldable pub put_some : (n : ℕ) → List ℕ → List ℕ
put_some n content = cond (eqb (length content) 0) [] (put_bytes n content)

-- "with key and value always both written"
unfoldable pub put_entry : List ℕ → Row → List ℕ
put_entry source row =
    put_bytes 1 (part_of source row.key row.key_size) ++ put_bytes 2 (part_of source row.value row.value_size)

-- "rows in the given order"
unfoldable pub put_rows : List ℕ → (n : ℕ) → List Row → List ℕ
put_rows source n [] = []
put_rows source n (row ∷ rows) = put_bytes n (put_entry source row) ++ put_rows source n rows

-- "It writes fields by rising number, zero and empty ones left out, a present meta part even if empty"
unfoldable pub put_fields : (source : List ℕ) → List Row → Schema → (i : ℕ) → (slots : List ℕ) → List ℕ
put_fields source rows done i slots = []
put_fields source rows (number type n name more) i slots =
    put_number type n (get_or slots i 0) ++ put_fields source rows more (i + 1) slots
put_fields source rows (bytes n name more) i slots =
    put_some n (part_of source (get_or slots i 0) (get_or slots (i + 1) 0)) ++ put_fields source rows more (i + 2) slots
put_fields source rows (map n name more) i slots = put_rows source n rows ++ put_fields source rows more i slots
put_fields source rows (message n name inner more) i slots =
    cond (eqb (get_or slots i 0) 0) [] (put_bytes n (put_fields source rows inner (i + 1) slots))
    ++ put_fields source rows more (i + 1 + width inner) slots
