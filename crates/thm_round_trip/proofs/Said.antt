-- What the slots of a message say, by its schema: the fields of a record in the order in which they are written.
use Prim.Native.Nat.{ℕ, ◌+◌}
use mathlib.Core.Path.{◌≡◌}
use mathlib.Core.Bool.{Bool, true, false, cond, not, ◌||◌}
use mathlib.Core.List.{List, [], ◌∷◌, ◌++◌}
use lib.ListN.{get_or}
use lib.Dec.{eqb}
use Rattle.wire_read.specs.Varint.{low_i32}
use Rattle.schema.specs.Schema.{Schema, uint32, int32, done, number, bytes, map, message, width}
use Rattle.decoder.specs.Rows.{Row}
use Rattle.decoder.specs.Fields.{State}
use Rattle.message.specs.Meaning.{bytes_from, Said, unsigned, signed, present, text, pairs_of}

-- the fields of the schema, its first slot being i
unfoldable pub said_in : (source : List ℕ) → Schema → (i : ℕ) → (slots : List ℕ) → List Said
said_in source done i l = []
said_in source (number uint32 n name more) i l = unsigned (get_or l i 0) ∷ said_in source more (i + 1) l
said_in source (number int32 n name more) i l = signed (low_i32 (get_or l i 0)) ∷ said_in source more (i + 1) l
said_in source (bytes n name more) i l = text (bytes_from source (get_or l i 0) (get_or l (i + 1) 0)) ∷ said_in source more (i + 2) l
said_in source (map n name more) i l = said_in source more i l
said_in source (message n name inner more) i l =
    present (not (eqb (get_or l i 0) 0)) ∷ (said_in source inner (i + 1) l ++ said_in source more (i + 1 + width inner) l)

-- the schema, or a part of it, has a map
unfoldable pub has_rows : Schema → Bool
has_rows done = false
has_rows (number type n name more) = has_rows more
has_rows (bytes n name more) = has_rows more
has_rows (map n name more) = true
has_rows (message n name inner more) = has_rows inner || has_rows more

-- the rows that a schema writes: those of its map, where it has one
unfoldable pub kept_rows : Schema → List Row → List Row
kept_rows sch rows = cond (has_rows sch) rows []

-- The state that was read from the frame says what the slots and the rows say over `source`.
pub record MessageBack (frame source : List ℕ) (rows : List Row) (sch : Schema) (slots : List ℕ) (st : State) : Type 0 where
  pub fields_are : said_in frame sch 0 st.slots ≡ said_in source sch 0 slots
  pub rows_are : pairs_of frame st.rows ≡ pairs_of source (kept_rows sch rows)
