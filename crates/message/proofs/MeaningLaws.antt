-- What a record says, in parts: bytes that are all there, and rows one after the other
use Prim.Native.Nat.{ℕ, suc}
use mathlib.Core.Path.{◌≡◌, refl, ap}
use mathlib.Core.List.{List, [], ◌∷◌, ◌++◌}
use lib.ListN.{length}
use lib.Seq.{take_all}
use native.Mathlib.Omega.{arith}
use Rattle.decoder.specs.Rows.{Row}
use Rattle.message.specs.Meaning.{bytes_from, all_of, pairs_of}

-- all bytes of a source
pub whole_source : (source : List ℕ) → bytes_from source 0 (length source) ≡ all_of source
whole_source source = ap (λ (x : List ℕ). record { size = length source; content = x }) (take_all (length source) source (omega arith))

pub length_pairs : (source : List ℕ) (rows : List Row) → length (pairs_of source rows) ≡ length rows
length_pairs source [] = refl
length_pairs source (row ∷ rows) = ap suc (length_pairs source rows)

pub pairs_append : (source : List ℕ) (a b : List Row) → pairs_of source (a ++ b) ≡ pairs_of source a ++ pairs_of source b
pairs_append source [] b = refl
pairs_append source (x ∷ a) b = rw (pairs_append source a b)
