-- The row numbers as rows: what is laid out reads back, and how an entry is stored.
use Prim.Native.Nat.{ℕ, zero, suc, ◌+◌, ◌*◌, ◌-◌, ◌/◌, ◌<◌, ◌≤◌, min}
use mathlib.Core.Path.{◌≡◌, refl, sym, ap, ◌∙◌}
use mathlib.Core.Bool.{Bool, true, false, ◌&&◌}
use mathlib.Core.List.{List, [], ◌∷◌, ◌++◌, append_assoc}
use lib.ListN.{length, drop, get_or, replicate, length-append, length-drop, length-replicate}
use lib.Seq.{drop_at, drop-drop, get_or-drop}
use lib.Dec.{eqb}
use native.Mathlib.Omega.{arith}
use borrow.Author.Tests.{eq-eqb, eqb-true}
use Rattle.decoder.specs.Rows.{Row, row_numbers, flat, laid_out, rows_in, rows_lent}
use Rattle.decoder.specs.Fields.{State, same_bytes}
use Rattle.decoder.specs.DecoderState.{state_of, Holds}
use Rattle.decoder.specs.declared.Slots.{Slots}

pub length_flat : (rs : List Row) → length (flat rs) ≡ 4 * length rs
length_flat [] = refl
length_flat (r ∷ rs) = omega (arith, length_flat rs)

pub rows_in_flat : (rs : List Row) (z : List ℕ) → rows_in (length rs) (flat rs ++ z) ≡ rs
unfolding rows_in
rows_in_flat [] z = refl
rows_in_flat (r ∷ rs) z = ap (λ (x : List Row). r ∷ x) (rows_in_flat rs z)

pub length_rows_in : (n : ℕ) (l : List ℕ) → length (rows_in n l) ≡ n
unfolding rows_in
length_rows_in zero l = refl
length_rows_in (suc n) l = ap suc (length_rows_in n (drop 4 l))

-- the numbers of the rows, zeros after them
abbrev front : List Row → List ℕ
front rs = flat rs ++ replicate (row_numbers - length (flat rs)) 0

length_front : (rs : List Row) → length rs ≤ 64 → length (front rs) ≡ 256
length_front rs h =
    length-append (flat rs) (replicate (row_numbers - length (flat rs)) 0)
    ∙ rw (length-replicate {A = ℕ} (row_numbers - length (flat rs)) 0) (omega (arith, length_flat rs))

pub drop_laid : (rs : List Row) (lent : List ℕ) → length rs ≤ 64 → drop 256 (laid_out rs lent) ≡ drop 256 lent
drop_laid rs lent h = drop_at (front rs) (drop 256 lent) 256 (length_front rs h)

pub length_laid : (rs : List Row) (lent : List ℕ) → length rs ≤ 64 → 256 ≤ length lent → length (laid_out rs lent) ≡ length lent
length_laid rs lent h k = length-append (front rs) (drop 256 lent) ∙ omega (arith, length_front rs h, length-drop 256 lent)

pub laid_split : (rs : List Row) (lent : List ℕ) → laid_out rs lent
    ≡ flat rs ++ (replicate (row_numbers - length (flat rs)) 0 ++ drop 256 lent)
laid_split rs lent = append_assoc (flat rs) (replicate (row_numbers - length (flat rs)) 0) (drop 256 lent)

-- all rows are lent
pub all_lent : (count : ℕ) (l : List ℕ) → count * 4 ≤ length l → rows_lent count l ≡ rows_in count l
all_lent count l h = let same : min count (length l / 4) ≡ count = omega arith in ap (λ (n : ℕ). rows_in n l) same

-- ---- a state that is held

module _ (st : State) (slots : Slots) (numbers lent : List ℕ) (h : Holds st slots numbers lent) where
  pub state_is : state_of slots numbers ≡ st
  state_is =
      let a = h.values_are in
      let b = h.rows_are in
      let c = h.entries_are in
      let d = h.laid in
      let e = rows_in_flat st.rows (replicate (row_numbers - length (flat st.rows)) 0 ++ drop 256 lent) in
      let f = laid_split st.rows lent in
      let rows_same : rows_in slots.rows numbers ≡ st.rows = cc in
      rw (a, rows_same, c) refl

  few_rows : length st.rows ≤ 64
  few_rows = let a = h.few in let b = h.counted in omega arith

  pub past_same : drop 256 numbers ≡ drop 256 lent
  past_same = rw h.laid (drop_laid st.rows lent few_rows)

  pub same_long : length numbers ≡ length lent
  same_long = rw h.laid (length_laid st.rows lent few_rows h.long)

  -- the same numbers, lent anew
  pub held : Holds (state_of slots numbers) slots numbers numbers
  held =
      rw state_is
      (record {
        values_are = h.values_are;
        values_long = h.values_long;
        rows_are = h.rows_are;
        entries_are = h.entries_are;
        few = h.few;
        counted = h.counted;
        laid = rw past_same h.laid;
        long = rw same_long h.long;
      })

-- what was lent with these numbers past the rows
pub relent : (st : State) (slots : Slots) (numbers lent lent' : List ℕ) → drop 256 lent ≡ drop 256 lent' → 256 ≤ length lent'
    → Holds st slots numbers lent → Holds st slots numbers lent'
relent st slots numbers lent lent' e k h =
    record {
      values_are = h.values_are;
      values_long = h.values_long;
      rows_are = h.rows_are;
      entries_are = h.entries_are;
      few = h.few;
      counted = h.counted;
      laid = rw (← e) h.laid;
      long = k;
    }

-- ---- keys

pub same_true : (a b : List ℕ) → a ≡ b → same_bytes a b ≡ true
unfolding same_bytes
same_true a b e = rw e (go b)
  where
    go : (b : List ℕ) → same_bytes b b ≡ true
    go [] = refl
    go (x ∷ b) = rw (eq-eqb x x refl, go b)

pub same_equal : (a b : List ℕ) → same_bytes a b ≡ true → a ≡ b
unfolding same_bytes
same_equal [] [] e = refl
same_equal [] (y ∷ b) e = let z : ◌≡◌ {A = Bool} false true = e in cc
same_equal (x ∷ a) [] e = let z : ◌≡◌ {A = Bool} false true = e in cc
same_equal (x ∷ a) (y ∷ b) e = by (eqb x y) refl (same_equal a b) e
  where
    by : (t : Bool) → eqb x y ≡ t → (same_bytes a b ≡ true → a ≡ b) → t && same_bytes a b ≡ true → x ∷ a ≡ y ∷ b
    by true p i q = rw (eqb-true x y p, i q)
    by false p i q = let z : ◌≡◌ {A = Bool} false true = q in cc

-- what `check::same` ensures is the test
pub same_test : (r : Bool) (a b : List ℕ) → (r ≡ true → a ≡ b) → (a ≡ b → r ≡ true) → r ≡ same_bytes a b
same_test true a b f g = sym (same_true a b (f refl))
same_test false a b f g = by (same_bytes a b) refl
  where
    by : (t : Bool) → same_bytes a b ≡ t → false ≡ t
    by false e = refl
    by true e = g (same_equal a b e)

-- ---- the row of a number

-- the row of number i
pub row_at : (n : ℕ) (l : List ℕ) (i : ℕ) → i < n
    → drop i (rows_in n l)
    ≡ record { key = get_or l (i * 4) 0; key_size = get_or l (i * 4 + 1) 0; value = get_or l (i * 4 + 2) 0; value_size = get_or l (i * 4 + 3) 0 }
    ∷ drop (suc i) (rows_in n l)
unfolding rows_in
row_at zero l i h = let z : ⊥ = omega arith in absurd z
row_at (suc n) l zero h = refl
row_at (suc n) l (suc i) h =
    let a : suc i * 4 ≡ 4 + i * 4 = omega arith in
    let b : suc i * 4 + 1 ≡ 4 + (i * 4 + 1) = omega arith in
    let c : suc i * 4 + 2 ≡ 4 + (i * 4 + 2) = omega arith in
    let d : suc i * 4 + 3 ≡ 4 + (i * 4 + 3) = omega arith in
    row_at n (drop 4 l) i (omega arith)
    ∙ cc (get_or-drop 4 l (i * 4) 0, get_or-drop 4 l (i * 4 + 1) 0, get_or-drop 4 l (i * 4 + 2) 0, get_or-drop 4 l (i * 4 + 3) 0)

-- the rows from number i on
pub rows_from : (n i : ℕ) (l : List ℕ) → drop i (rows_in n l) ≡ rows_in (n - i) (drop (i * 4) l)
unfolding rows_in
rows_from n zero l = let same : n ≡ n - 0 = omega arith in ap (λ (k : ℕ). rows_in k l) same
rows_from zero (suc i) l = let none : 0 - suc i ≡ 0 = omega arith in rw none
rows_from (suc n) (suc i) l =
    let left : suc n - suc i ≡ n - i = omega arith in
    let four : suc i * 4 ≡ 4 + i * 4 = omega arith in
    rows_from n i (drop 4 l) ∙ rw (left, four) (ap (rows_in (n - i)) (drop-drop (i * 4) 4 l))
