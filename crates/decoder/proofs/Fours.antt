-- The rows as slices of four numbers are the rows that the numbers hold, and the first that has a key is at its place.
use Prim.Native.Nat.{ℕ, zero, suc, ◌+◌, ◌/◌, ◌<◌, ◌≤◌, min}
use mathlib.Core.Path.{◌≡◌, refl, sym, ap, ap₂, ◌∙◌}
use mathlib.Core.Bool.{Bool, true, false, cond}
use mathlib.Core.List.{List, ◌∷◌, map}
use native.Mathlib.Omega.{arith}
use borrow.Author.Tests.{ltb-false}
use lib.Dec.{ltb}
use lib.ListN.{length, take, drop, get_or, length-map}
use Rattle.std.specs.Prelude.{Option, Some, None, unwrap_or}
use Rattle.std.specs.List.{position_or_len}
use Rattle.std.specs.Simd.{first_chunks}
use Rattle.std.proofs.lemmas.List.{get_or-take}
use Rattle.std.proofs.lemmas.List.Recursion.{is_position_or_len}
use Rattle.decoder.specs.Rows.{Row, rows_in, rows_lent}
use Rattle.decoder.specs.Fields.{part_of, same_bytes, key_place}
use Rattle.decoder.proofs.RowUpdates.{key_bound}

abbrev pub row_of : List ℕ → Row
row_of l = record { key = get_or l 0 0; key_size = get_or l 1 0; value = get_or l 2 0; value_size = get_or l 3 0 }

four_of : (l : List ℕ) → row_of (take 4 l) ≡ row_of l
four_of l =
    let at : (i : ℕ) → i < 4 → get_or (take 4 l) i 0 ≡ get_or l i 0 = λ (i : ℕ) (h : i < 4). get_or-take 4 l i 0 (omega arith) in
    rw (at 0 (omega arith), at 1 (omega arith), at 2 (omega arith), at 3 (omega arith))

pub fours_are : (n : ℕ) (l : List ℕ) → map row_of (first_chunks 4 n l) ≡ rows_in n l
unfolding rows_in
fours_are zero l = refl
fours_are (suc n) l = ap₂ (λ (r : Row) (rs : List Row). r ∷ rs) (four_of l) (fours_are n (drop 4 l))

fewer : (m n : ℕ) (l : List ℕ) → take m (first_chunks 4 n l) ≡ first_chunks 4 (min m n) l
fewer zero n l = let e : min 0 n ≡ 0 = omega arith in rw e refl
fewer (suc m) zero l = let e : min (suc m) 0 ≡ 0 = omega arith in rw e refl
fewer (suc m) (suc n) l =
    let e : min (suc m) (suc n) ≡ suc (min m n) = omega arith in rw e (ap (λ (rs : List (List ℕ)). take 4 l ∷ rs) (fewer m n (drop 4 l)))

abbrev pub has_key : (frame key : List ℕ) → List ℕ → Bool
has_key frame key four = same_bytes (part_of frame (get_or four 0 0) (get_or four 1 0)) key

one-add : (n : ℕ) → 1 + n ≡ suc n
one-add n = omega arith

first_key : (frame key : List ℕ) (fours : List (List ℕ)) → key_place frame key (map row_of fours) ≡ position_or_len (has_key frame key) fours
unfolding key_place
first_key frame key =
    is_position_or_len (λ (fours : List (List ℕ)). key_place frame key (map row_of fours)) (has_key frame key) refl
    (λ x xs. ap (cond (has_key frame key x) 0) (sym (one-add (key_place frame key (map row_of xs)))))

or_length : (p n : ℕ) → p ≤ n → unwrap_or (cond (ltb p n) (Some p) None) n ≡ p
or_length p n h = by (ltb p n) refl
  where
    by : (b : Bool) → ltb p n ≡ b → unwrap_or (cond b (Some p) None) n ≡ p
    by true e = refl
    by false e = omega (arith, ltb-false p n e)

-- the search that `find_key` makes, of the fours that are lent
pub first_lent : (frame key : List ℕ) (count : ℕ) (l : List ℕ) (all fours : List (List ℕ)) → all ≡ first_chunks 4 (length l / 4) l
    → length all ≡ length l / 4 → fours ≡ take (min count (length all)) all → (place : Option ℕ)
    → place ≡ cond (ltb (position_or_len (has_key frame key) fours) (length fours)) (Some (position_or_len (has_key frame key) fours)) None
    → unwrap_or place (length fours) ≡ key_place frame key (rows_lent count l)
first_lent frame key count l all fours is-all long is-fours place e =
    let m : min (min count (length all)) (length l / 4) ≡ min count (length l / 4) = omega (arith, long) in
    let kept : fours ≡ first_chunks 4 (min count (length l / 4)) l =
    is-fours ∙ ap (take (min count (length all))) is-all ∙ fewer (min count (length all)) (length l / 4) l
    ∙ ap (λ (k : ℕ). first_chunks 4 k l) m in
    let rows : map row_of fours ≡ rows_lent count l = ap (map row_of) kept ∙ fours_are (min count (length l / 4)) l in
    let found : key_place frame key (rows_lent count l) ≡ position_or_len (has_key frame key) fours =
    ap (key_place frame key) (sym rows) ∙ first_key frame key fours in
    let few : position_or_len (has_key frame key) fours ≤ length fours =
    omega (arith, first_key frame key fours, key_bound frame key (map row_of fours), length-map fours row_of) in
    ap (λ (p : Option ℕ). unwrap_or p (length fours)) e ∙ or_length _ _ few ∙ sym found
