-- Lists of any items. More of them are in the kit's `lib.ListN` and `lib.Seq`.
-- Assumes nothing.
use Prim.Native.Nat.{ℕ, zero, suc, ◌+◌, ◌-◌, ◌≤◌}
use mathlib.Core.Path.{◌≡◌, refl, sym, ap, ◌∙◌}
use mathlib.Core.List.{List, [], ◌∷◌, ◌++◌, append_assoc, append-nil, map}
use native.Mathlib.Omega.{arith}
use native.Mathlib.Nat.{add-sub_of_le}
use lib.ListN.{length, take, drop, set, length-append, length-drop, length-map, drop_of_length-le}
use lib.Seq.{sets, take-nil, drop-nil, take_all, take-length, take-take, take_at, take-append-le, length-take-le, drop-drop}
use lib.Seq.{drop-append-add}

module _ {A : Type 0} where
  pub empty : (l : List A) → length l ≤ 0 → l ≡ []
  empty [] h = refl
  empty (x ∷ l) h = let z : ⊥ = omega arith in absurd z

  -- the first m of a list, from n on
  pub drop_take : (n m : ℕ) (l : List A) → drop n (take m l) ≡ take (m - n) (drop n l)
  drop_take zero m l = let e : m - 0 ≡ m = omega arith in rw e
  drop_take (suc n) zero l = let e : 0 - suc n ≡ 0 = omega arith in rw e (drop-nil (suc n))
  drop_take (suc n) (suc m) [] = sym (take-nil (suc m - suc n))
  drop_take (suc n) (suc m) (x ∷ l) = let e : suc m - suc n ≡ m - n = omega arith in rw e (drop_take n m l)

  -- all that comes after the first n
  pub tail_all : (n : ℕ) (l : List A) → take (length l - n) (drop n l) ≡ drop n l
  tail_all n l = take_all (length l - n) (drop n l) (omega (arith, length-drop n l))

  -- a part past the seam of two lists
  pub drop_past : (n k : ℕ) (a b d : List A) → length a ≡ k → k ≤ n → b ≡ drop k d → drop n (a ++ b) ≡ drop n d
  drop_past n k a b d l h e =
      ap (λ (m : ℕ). drop m (a ++ b)) (sym (add-sub_of_le h) ∙ ap (λ (m : ℕ). m + (n - k)) (sym l))
      ∙ drop-append-add a b (n - k)
      ∙ ap (drop (n - k)) e
      ∙ drop-drop (n - k) k d
      ∙ ap (λ (m : ℕ). drop m d) (add-sub_of_le h)

  -- ---- storing
  -- one after the other is both at once
  pub sets_then : (l : List A) (at next : ℕ) (x y : List A) → next ≡ at + length x → sets (sets l at x) next y ≡ sets l at (x ++ y)
  sets_then l at next [] y e = let z : next ≡ at = omega arith in rw z
  sets_then l at next (b ∷ x) y e = sets_then (set l at b) (suc at) next x y (omega arith)

  -- what a copy of s into `&mut d[at..]` leaves of d: ys is that part of d after the copy
  pub put_back : (d s ys : List A) (at : ℕ) → ys ≡ take (length s) s ++ drop (length s) (take (length d - at) (drop at d))
      → take at d ++ (ys ++ drop (length d - at) (drop at d)) ≡ take at d ++ s ++ drop (at + length s) d
  put_back d s ys at e =
      let none : drop (length d - at) (drop at d) ≡ [] =
      drop_of_length-le (drop at d) {i = length d - at} (omega (arith, length-drop at d)) in
      rw (e, tail_all at d, none, append-nil, take-length, drop-drop) (sym (append_assoc (take at d) s (drop (at + length s) d)))

  -- n items of l laid over the first of d
  module _ (n : ℕ) (l d : List A) (h : n ≤ length l) (g : n ≤ length d) where
    pub land_length : length (take n l ++ drop n d) ≡ length d
    land_length = omega (arith, length-append (take n l) (drop n d), length-take-le n l h, length-drop n d)

    pub land_take : take n (take n l ++ drop n d) ≡ take n l
    land_take = take_at (take n l) (drop n d) n (length-take-le n l h)

    pub land_head : (k : ℕ) → k ≤ n → take k (take n l ++ drop n d) ≡ take k l
    land_head k p = take-append-le k (take n l) (drop n d) (omega (arith, length-take-le n l h)) ∙ take-take k n l p

  -- an array's length, from what a parameter's relation says of its machine values
  pub length_mapped : {B : Type 0} (l : List A) (f : A → B) {n : ℕ} → length (map f l) ≡ n → length l ≡ n
  length_mapped l f e = sym (length-map l f) ∙ e
