-- The rows as slices of four numbers are the rows that the numbers hold.
use Prim.Native.Nat.{ℕ, zero, suc, ◌+◌, ◌*◌, ◌/◌, ◌<◌, ◌≤◌}
use mathlib.Core.Path.{◌≡◌, refl, ap, ap₂, ◌∙◌}
use mathlib.Core.Bool.{Bool, ◌&&◌}
use mathlib.Core.List.{List, [], ◌∷◌, map}
use native.Mathlib.Omega.{arith}
use lib.ListN.{length, take, drop, get_or, length-take}
use Rattle.std.proofs.lemmas.List.{get_or-take, drop-take}
use Rattle.std.specs.List.{list_all}
use Rattle.std.specs.Simd.{first_chunks}
use Rattle.decoder.specs.Rows.{Row, rows_in}
use Rattle.writer_checks.specs.Grounds.{rows_within}
use Rattle.writer_checks.specs.Fours.{row_of, row_within}

four_of : (n : ℕ) (l : List ℕ) → row_of (take (4 + n) l) ≡ row_of l
four_of n l =
    let at : (i : ℕ) → i < 4 → get_or (take (4 + n) l) i 0 ≡ get_or l i 0 = λ (i : ℕ) (h : i < 4). get_or-take (4 + n) l i 0 (omega arith) in
    rw (at 0 (omega arith), at 1 (omega arith), at 2 (omega arith), at 3 (omega arith))

pub fours_are : (n : ℕ) (l : List ℕ) → map row_of (first_chunks 4 n l) ≡ rows_in n l
unfolding rows_in
fours_are zero l = refl
fours_are (suc n) l = ap₂ (λ (r : Row) (rs : List Row). r ∷ rs) (four_of 0 l) (fours_are n (drop 4 l))

-- the numbers after them say nothing
front_is : (n : ℕ) (l : List ℕ) → rows_in n (take (n * 4) l) ≡ rows_in n l
unfolding rows_in
front_is zero l = refl
front_is (suc n) l =
    let more : suc n * 4 ≡ 4 + n * 4 = omega arith in
    let rest = drop-take 4 (n * 4) l in
    rw more (ap₂ (λ (r : Row) (rs : List Row). r ∷ rs) (four_of (n * 4) l) (rw rest (front_is n (drop 4 l))))

-- those of a slice that holds no more
pub fours_lent : (n : ℕ) (l : List ℕ) → n * 4 ≤ length l → (rows : List (List ℕ))
    → rows ≡ first_chunks 4 (length (take (n * 4) l) / 4) (take (n * 4) l) → map row_of rows ≡ rows_in n l
fours_lent n l lent rows e =
    let long = length-take (n * 4) l in
    let count : length (take (n * 4) l) / 4 ≡ n = omega arith in
    ap (map row_of) e ∙ rw count (fours_are n (take (n * 4) l) ∙ front_is n l)

pub all_within : (size : ℕ) (rows : List (List ℕ)) → list_all (row_within size) rows ≡ rows_within size (map row_of rows)
unfolding rows_within
all_within size [] = refl
all_within size (row ∷ rows) = ap (λ (rest : Bool). row_within size row && rest) (all_within size rows)
