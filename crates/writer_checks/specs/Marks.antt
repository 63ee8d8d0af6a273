-- Only for the private functions that look for equal keys: a mark for each key that was seen
use Rattle.std.specs.Prelude.{ℕ, ◌+◌, ◌-◌, ◌*◌, ◌%◌, ◌≤◌, ◌≡◌, Bool, true, List, [], ◌∷◌, length, drop, get_or}
use Rattle.decoder.specs.Rows.{Row, rows_in}
use Rattle.decoder.specs.Fields.{part_of}
use Rattle.writer_checks.specs.Grounds.{rows_within, no_key}

-- all rows are lent, and lie within the source
pub record RowsLie (source numbers : List ℕ) (count : ℕ) : Type 0 where
  pub lent : count * 4 ≤ length numbers
  pub within : rows_within (length source) (rows_in count numbers) ≡ true

-- the key of row i
abbrev pub key_at : (source numbers : List ℕ) → (i : ℕ) → List ℕ
key_at source numbers i = part_of source (get_or numbers (i * 4) 0) (get_or numbers (i * 4 + 1) 0)

-- no row after row i has its key
abbrev pub none_after : (source numbers : List ℕ) → (count i : ℕ) → Bool
none_after source numbers count i = no_key source (key_at source numbers i) (drop (i + 1) (rows_in count numbers))

-- the place of a key's mark: of its last byte and its length
abbrev pub place_of : List ℕ → ℕ
place_of key = (get_or key (length key - 1) 0 + length key * 32) % 256

unfoldable pub Marked : (source seen : List ℕ) → List Row → Type 0
Marked source seen [] = Unit {0}
Marked source seen (row ∷ rows) = (get_or seen (place_of (part_of source row.key row.key_size)) 0 ≡ 1) × Marked source seen rows

-- the keys of the rows from i on are marked
pub record MarkedFrom (source numbers : List ℕ) (count i : ℕ) (seen : List ℕ) : Type 0 where
  pub places : length seen ≡ 256
  pub marks : Marked source seen (drop i (rows_in count numbers))
