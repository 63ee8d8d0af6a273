-- What it is for starts and lengths to lie within a frame of `size` bytes
use Rattle.std.specs.Prelude.{ℕ, ◌+◌, ◌≤◌, ◌≡◌, List, get_or}
use Rattle.schema.specs.Schema.{Schema, done, number, bytes, map, message, width}
use Rattle.decoder.specs.Rows.{Row}

-- "a start and length counted from the frame's first byte; an empty one is 0, 0"
pub record Lies (size start len : ℕ) : Type 0 where
  pub within : start + len ≤ size
  pub empty : len ≡ 0 → start ≡ 0

abbrev pub RowLies : (size : ℕ) → Row → Type 0
RowLies size row = Lies size row.key row.key_size × Lies size row.value row.value_size

-- the byte fields of a schema, whose first slot is i
abbrev pub SpansLie : (size : ℕ) → Schema → (i : ℕ) → (slots : List ℕ) → Type 0
SpansLie size done i l = Unit {0}
SpansLie size (number type n name more) i l = SpansLie size more (i + 1) l
SpansLie size (bytes n name more) i l = Lies size (get_or l i 0) (get_or l (i + 1) 0) × SpansLie size more (i + 2) l
SpansLie size (map n name more) i l = SpansLie size more i l
SpansLie size (message n name inner more) i l = SpansLie size inner (i + 1) l × SpansLie size more (i + 1 + width inner) l
