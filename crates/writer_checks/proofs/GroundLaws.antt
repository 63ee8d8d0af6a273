-- The grounds as the code finds them. Loops go from the last row to the first: what is known of the rows from i on and of row i - 1 is
-- known of the rows from i - 1 on.
use Prim.Native.Nat.{ℕ, zero, suc, ◌+◌, ◌*◌, ◌-◌, ◌<◌, ◌≤◌}
use mathlib.Core.Path.{◌≡◌, refl, sym, ap, ap₂, ◌∙◌}
use mathlib.Core.Bool.{Bool, true, false, not, cond, ◌&&◌, ◌||◌, and-true, and_assoc}
use mathlib.Core.List.{List, [], ◌∷◌}
use native.Mathlib.Omega.{arith}
use native.Mathlib.Numerals.{add-one}
use borrow.Author.Tests.{leb-true, eq-eqb, ne_eqb, eqb-true, eqb-false}
use lib.Dec.{leb, eqb}
use lib.ListN.{length, drop, get_or, drop_of_length-le, length-drop}
use Rattle.laws.specs.Chains.{unless}
use Rattle.laws.proofs.Booleans.{both}
use Rattle.laws.proofs.Tests.{fails, holds}
use Rattle.schema.specs.declared.Kind.{Kind}
use Rattle.decoder.specs.Rows.{Row, rows_in, rows_lent}
use Rattle.decoder.specs.Fields.{part_of, same_bytes, key_place}
use Rattle.decoder.proofs.RowLaws.{length_rows_in, all_lent, row_at, rows_from}
use Rattle.decoder.proofs.PartEnds.{part_rest}
use Rattle.wire_read.specs.Part.{part}
use Rattle.writer_checks.specs.Grounds.{max_rows, has_map, rows_ok, rows_within, no_key, keys_differ}
use Rattle.writer_checks.specs.Marks.{none_after}

-- three fields, one after the other, of a definition that goes along a schema
pub three : {a b c x y z : Bool} → a ≡ x → b ≡ y → c ≡ z → a && b && c ≡ x && (y && (z && true))
three {x = x} {y = y} {z = z} e f g = rw (and-true, e, f, g) (and_assoc x y z)

-- ---- the rows
-- key and value of row i
abbrev row_within : (size : ℕ) (l : List ℕ) (i : ℕ) → Bool
row_within size l i = leb (get_or l (i * 4) 0 + get_or l (i * 4 + 1) 0) size && leb (get_or l (i * 4 + 2) 0 + get_or l (i * 4 + 3) 0) size

rows_drop : (size : ℕ) (rs : List Row) (i : ℕ) → rows_within size rs ≡ true → rows_within size (drop i rs) ≡ true
unfolding rows_within
rows_drop size rs zero e = e
rows_drop size [] (suc i) e = refl
rows_drop size (r ∷ rs) (suc i) e =
    rows_drop size rs i (both (leb (r.key + r.key_size) size && leb (r.value + r.value_size) size) (rows_within size rs) e).1

module _ (n : ℕ) (l : List ℕ) where
  -- nothing is left
  pub none_left : drop n (rows_in n l) ≡ []
  none_left = drop_of_length-le (rows_in n l) {i = n} (omega (arith, length_rows_in n l))

  module _ (i : ℕ) (some : i < n) where
    within_at : (size : ℕ) → rows_within size (drop i (rows_in n l)) ≡ row_within size l i && rows_within size (drop (i + 1) (rows_in n l))
    unfolding rows_within
    within_at size = rw (row_at n l i some, add-one i)

    differ_at : (source : List ℕ) → keys_differ source (drop i (rows_in n l))
        ≡ none_after source l n i && keys_differ source (drop (i + 1) (rows_in n l))
    unfolding keys_differ
    differ_at source = rw (row_at n l i some, add-one i)

    -- a row's key and value lie within
    pub row_in : (size : ℕ) → rows_within size (rows_in n l) ≡ true
        → (get_or l (i * 4) 0 + get_or l (i * 4 + 1) 0 ≤ size) × (get_or l (i * 4 + 2) 0 + get_or l (i * 4 + 3) 0 ≤ size)
    row_in size e =
        let key = leb (get_or l (i * 4) 0 + get_or l (i * 4 + 1) 0) size in
        let value = leb (get_or l (i * 4 + 2) 0 + get_or l (i * 4 + 3) 0) size in
        let a = both (key && value) _ (sym (within_at size) ∙ rows_drop size (rows_in n l) i e) in
        let b = both key value a.0 in
        (leb-true _ _ b.0, leb-true _ _ b.1)

  -- one more row than those from i on
  module _ (i : ℕ) (some : 0 < i) (most : i ≤ n) {r rest : Bool} where
    pub within_more : (size : ℕ) → r ≡ row_within size l (i - 1) → rest ≡ rows_within size (drop i (rows_in n l))
        → r && rest ≡ rows_within size (drop (i - 1) (rows_in n l))
    within_more size e f =
        let same : i - 1 + 1 ≡ i = omega arith in
        ap₂ ◌&&◌ e f ∙ sym (rw same at (within_at (i - 1) (omega arith) size))

    pub differ_more : (source : List ℕ) → r ≡ none_after source l n (i - 1)
        → rest ≡ keys_differ source (drop i (rows_in n l)) → r && rest ≡ keys_differ source (drop (i - 1) (rows_in n l))
    differ_more source e f =
        let same : i - 1 + 1 ≡ i = omega arith in
        ap₂ ◌&&◌ (rw same at e) f ∙ sym (rw same at (differ_at (i - 1) (omega arith) source))

-- one key differs from none
pub few_differ : (source : List ℕ) (n : ℕ) (l : List ℕ) → n < 2 → true ≡ keys_differ source (rows_in n l)
unfolding rows_in keys_differ no_key
few_differ source zero l h = refl
few_differ source (suc zero) l h = refl
few_differ source (suc (suc n)) l h = let z : ⊥ = omega arith in absurd z

-- two keys differ where the second is not the first
pub two_differ : (source l : List ℕ) {r : Bool} → r ≡ none_after source l 2 0 → r ≡ keys_differ source (rows_in 2 l)
unfolding rows_in keys_differ no_key
two_differ source l e = simp and-true (e ∙ and-true _)

-- ---- a key among the rows
suc_eqb : (a b : ℕ) → eqb (suc a) (suc b) ≡ eqb a b
suc_eqb a b = by (eqb a b) refl
  where
    by : (t : Bool) → eqb a b ≡ t → eqb (suc a) (suc b) ≡ t
    by true e = eq-eqb (suc a) (suc b) (ap suc (eqb-true a b e))
    by false e = ne_eqb (suc a) (suc b) (λ (q : suc a ≡ suc b). omega (arith, eqb-false a b e))

no_key_place : (source key : List ℕ) (rs : List Row) → no_key source key rs ≡ eqb (key_place source key rs) (length rs)
unfolding no_key key_place
no_key_place source key [] = refl
no_key_place source key (r ∷ rs) = by (same_bytes (part_of source r.key r.key_size) key) (no_key_place source key rs)
  where
    by : (t : Bool) → no_key source key rs ≡ eqb (key_place source key rs) (length rs)
        → not t && no_key source key rs ≡ eqb (cond t 0 (suc (key_place source key rs))) (suc (length rs))
    by true e = sym (ne_eqb 0 (suc (length rs)) (λ (q : 0 ≡ suc (length rs)). omega arith))
    by false e = e ∙ sym (suc_eqb (key_place source key rs) (length rs))

-- what `find_key` answers of the rows after row i
pub none_after_lem : (count i : ℕ) (source key numbers : List ℕ) (place : ℕ) → i < count → count * 4 ≤ length numbers
    → place ≡ key_place source key (rows_lent (count - (i + 1)) (part numbers (i * 4 + 4) (length numbers)))
    → eqb place (count - (i + 1)) ≡ no_key source key (drop (i + 1) (rows_in count numbers))
none_after_lem count i source key numbers place some lent e =
    let n = count - (i + 1) in
    let four : i * 4 + 4 ≡ (i + 1) * 4 = omega arith in
    let rest : part numbers (i * 4 + 4) (length numbers) ≡ drop ((i + 1) * 4) numbers = part_rest numbers (i * 4 + 4)
    ∙ ap (λ (k : ℕ). drop k numbers) four in
    let long = length-drop ((i + 1) * 4) numbers in
    let rows : rows_lent n (part numbers (i * 4 + 4) (length numbers)) ≡ drop (i + 1) (rows_in count numbers) =
    ap (rows_lent n) rest ∙ all_lent n (drop ((i + 1) * 4) numbers) (omega arith) ∙ sym (rows_from count (i + 1) numbers) in
    let size : length (drop (i + 1) (rows_in count numbers)) ≡ n = length-drop (i + 1) (rows_in count numbers)
    ∙ omega (arith, length_rows_in count numbers) in
    sym (no_key_place source key (drop (i + 1) (rows_in count numbers)) ∙ ap₂ eqb (sym (e ∙ ap (key_place source key) rows)) size)

-- ---- the chain of grounds
-- after `if !test(..)`: a ground that holds is the answer, and one that does not is passed
pub given : (m ok : Bool) (code later : ℕ) → m ≡ ok → not m ≡ true → code ≡ unless ok code later
given m ok code later e t = rw (fails e t)

pub passed : (m ok : Bool) (code later r : ℕ) → m ≡ ok → not m ≡ false → r ≡ later → r ≡ unless ok code later
passed m ok code later r e t z = rw (holds e t) z

pub rows_lent_lem : (kind : Kind) (count lent : ℕ) → rows_ok kind count lent ≡ true → count * 4 ≤ lent
unfolding rows_ok
rows_lent_lem kind count lent e = leb-true _ _ (both (leb count max_rows && (has_map kind || eqb count 0)) (leb (count * 4) lent) e).1
