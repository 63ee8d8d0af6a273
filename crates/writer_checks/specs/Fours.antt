-- Only for the private functions that go over the rows: a row as its four numbers
use Rattle.std.specs.Prelude.{ℕ, ◌+◌, Bool, ◌&&◌, List, get_or, leb}
use Rattle.decoder.specs.Rows.{Row}

abbrev pub row_of : List ℕ → Row
row_of four = record { key = get_or four 0 0; key_size = get_or four 1 0; value = get_or four 2 0; value_size = get_or four 3 0 }

-- its key and its value lie within `size` bytes
abbrev pub row_within : (size : ℕ) → List ℕ → Bool
row_within size four = leb (get_or four 0 0 + get_or four 1 0) size && leb (get_or four 2 0 + get_or four 3 0) size
