-- Loops over the rows: what is left of them
use Prim.Native.Nat.{ℕ, zero, suc, ◌+◌, ◌<◌, ◌≤◌}
use mathlib.Core.Path.{◌≡◌, refl, ap, subst}
use mathlib.Core.Bool.{true}
use mathlib.Core.List.{List, [], ◌∷◌, ◌++◌}
use lib.ListN.{length, drop, get_or, drop_of_length-le, length-map}
use native.Mathlib.Omega.{arith}
use native.Mathlib.Numerals.{add-one}
use Rattle.wire_write.specs.Writing.{put_bytes}
use Rattle.decoder.specs.Rows.{Row}
use Rattle.writer_checks.specs.Grounds.{rows_within}
use Rattle.writer_checks.specs.Fours.{row_of}
use Rattle.writer.specs.Encoding.{put_entry, put_rows}
use Rattle.writer.specs.Straight.{Did, RowIn, fours, rows_sum}
use Rattle.writer.proofs.Stores.{Left, first_fits, steps, none_left}
use Rattle.writer.proofs.Measures.{row_and}

-- row i and those after it
left_rows : (rs : List (List ℕ)) (i : ℕ) (d : List ℕ) → i < length rs
    → drop i (fours rs) ≡ row_of (get_or rs i d) ∷ drop (suc i) (fours rs)
left_rows [] i d h = let z : ⊥ = omega arith in absurd z
left_rows (r ∷ rs) zero d h = refl
left_rows (r ∷ rs) (suc i) d h = left_rows rs i d (omega arith)

none_after : (rs : List (List ℕ)) (i : ℕ) → length rs ≤ i → drop i (fours rs) ≡ []
none_after rs i h = drop_of_length-le (fours rs) {i = i} (simp length-map h)

pub row_in : (size : ℕ) (rs : List (List ℕ)) (i : ℕ) (d : List ℕ) → i < length rs → rows_within size (fours rs) ≡ true
    → RowIn size (row_of (get_or rs i d))
row_in size [] i d h e = let z : ⊥ = omega arith in absurd z
row_in size (r ∷ rs) zero d h e = (row_and size (row_of r) (fours rs) e).0
row_in size (r ∷ rs) (suc i) d h e = row_in size rs i d (omega arith) (row_and size (row_of r) (fours rs) e).1

-- ---- a sum over the rows: what is done, and the rows that are left
module _ (f : Row → ℕ) (rs : List (List ℕ)) (i size : ℕ) (left : size + rows_sum f (drop i (fours rs)) ≡ rows_sum f (fours rs)) where
  pub sum_more : (d : List ℕ) → i < length rs → (r : ℕ) → r ≡ f (row_of (get_or rs i d))
      → size + r + rows_sum f (drop (i + 1) (fours rs)) ≡ rows_sum f (fours rs)
  unfolding rows_sum
  sum_more d h r is_r =
      let here : rows_sum f (drop i (fours rs)) ≡ f (row_of (get_or rs i d)) + rows_sum f (drop (suc i) (fours rs)) =
      ap (rows_sum f) (left_rows rs i d h) in
      rw (add-one i) (omega (arith, here, left, is_r))

  pub sum_all : length rs ≤ i → size ≡ rows_sum f (fours rs)
  unfolding rows_sum
  sum_all h = omega (arith, ap (rows_sum f) (none_after rs i h), left)

-- ---- the rows that are stored
module _ (rs : List (List ℕ)) (i : ℕ) (number : ℕ) (source : List ℕ) {all out₀ : List ℕ} {at₀ : ℕ} {out : List ℕ} {at : ℕ}
    (left : Left (put_rows source number (drop i (fours rs))) all out₀ at₀ out at) where
  next_row : (d : List ℕ) → i < length rs
      → Left (put_bytes number (put_entry source (row_of (get_or rs i d))) ++ put_rows source number (drop (suc i) (fours rs))) all out₀ at₀ out at
  unfolding put_rows
  next_row d h = subst (λ (x : List ℕ). Left x all out₀ at₀ out at) (ap (put_rows source number) (left_rows rs i d h)) left

  pub row_fits : (d : List ℕ) → i < length rs → at₀ + length all ≤ length out₀
      → at + length (put_bytes number (put_entry source (row_of (get_or rs i d)))) ≤ length out
  row_fits d h room = first_fits (put_bytes number (put_entry source (row_of (get_or rs i d)))) _ (next_row d h) room

  pub put_row : (d : List ℕ) → i < length rs → {next : ℕ} {after : List ℕ}
      → Did (put_bytes number (put_entry source (row_of (get_or rs i d)))) out at next after
      → Left (put_rows source number (drop (i + 1) (fours rs))) all out₀ at₀ after next
  put_row d h p = rw (add-one i) (steps (put_bytes number (put_entry source (row_of (get_or rs i d)))) _ (next_row d h) p)

  pub put_rows_all : length rs ≤ i → Did all out₀ at₀ at out
  unfolding put_rows
  put_rows_all h =
      none_left (subst (λ (x : List ℕ). Left x all out₀ at₀ out at) (ap (put_rows source number) (none_after rs i h)) left)
