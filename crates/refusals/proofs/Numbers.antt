-- Promised: no number means two things. None is in use twice, none is retired twice, none is both, and none is 0, by which an entry says
-- that it did its work.
-- Not promised: that an entry gives its numbers on their grounds (`Exactly`, of each entry), and gives no others (crate `thm_numbers`).
-- Ruled out: a new number that is taken already, and one that comes back after it was retired.
use Prim.Native.Nat.{ℕ, zero, suc, ◌+◌, ◌<◌, ◌≤◌}
use mathlib.Core.Path.{◌≡◌, refl, subst}
use mathlib.Core.Logic.{inl, inr}
use mathlib.Core.Bool.{Bool, true, false, false≢true, not, ◌&&◌, ◌||◌}
use mathlib.Core.List.{List, [], ◌∷◌, ◌++◌}
use native.Mathlib.Omega.{arith}
use borrow.Author.Tests.{eqb-true, eqb-false, not-true}
use lib.Dec.{eqb}
use Rattle.laws.proofs.Booleans.{both}
use Rattle.refusals.specs.Grounds.{Ground, First, Verdict, refuses, works, by_number, number_of, Entry, Exactly}
use Rattle.refusals.specs.Numbers.{in_use, retired, Among, Usable, NoneTwice}

is_new : ℕ → List ℕ → Bool
is_new n [] = true
is_new n (m ∷ ms) = not (eqb n m) && is_new n ms

all_differ : List ℕ → Bool
all_differ [] = true
all_differ (n ∷ ns) = is_new n ns && all_differ ns

is_new_lem : (n : ℕ) (ns : List ℕ) → is_new n ns ≡ true → Among n ns → ⊥
unfolding is_new
is_new_lem n [] e h = h
is_new_lem n (m ∷ ms) e (inl same) = eqb-false n m (not-true (eqb n m) (both (not (eqb n m)) (is_new n ms) e).0) same
is_new_lem n (m ∷ ms) e (inr later) = is_new_lem n ms (both (not (eqb n m)) (is_new n ms) e).1 later

all_differ_lem : (ns : List ℕ) → all_differ ns ≡ true → NoneTwice ns
unfolding all_differ
all_differ_lem [] e = tt
all_differ_lem (n ∷ ns) e = let b = both (is_new n ns) (all_differ ns) e in (is_new_lem n ns b.0, all_differ_lem ns b.1)

pub none_twice : NoneTwice (0 ∷ in_use ++ retired)
unfolding is_new all_differ
none_twice = all_differ_lem (0 ∷ in_use ++ retired) refl

-- ---- a number that is in use is not retired
apart : (n : ℕ) (ms ns : List ℕ) → NoneTwice (ms ++ ns) → Among n ms → Among n ns → ⊥
apart n [] ns t a b = a
apart n (m ∷ ms) ns t (inl same) b = t.0 (subst (λ (x : ℕ). Among x (ms ++ ns)) same (after n ms ns b))
  where
    after : (n : ℕ) (ms ns : List ℕ) → Among n ns → Among n (ms ++ ns)
    after n [] ns b = b
    after n (m ∷ ms) ns b = inr (after n ms ns b)
apart n (m ∷ ms) ns t (inr a) b = apart n ms ns t.1 a b

pub not_retired : (n : ℕ) → Usable n → Among n retired → ⊥
not_retired n used = apart n (0 ∷ in_use) retired none_twice used

pub positive : (n : ℕ) → Among n in_use → 0 < n
unfolding is_new
positive n used = by (eqb n 0) refl
  where
    by : (b : Bool) → eqb n 0 ≡ b → 0 < n
    by true e = absurd (is_new_lem 0 in_use refl (subst (λ (x : ℕ). Among x in_use) (eqb-true n 0 e) used))
    by false e = let other : n ≡ 0 → ⊥ = eqb-false n 0 e in omega arith

-- ---- numbers that are in use, by computation
abbrev pub is_in : ℕ → List ℕ → Bool
is_in n [] = false
is_in n (m ∷ ms) = eqb n m || is_in n ms

pub is_in_lem : (n : ℕ) (ns : List ℕ) → is_in n ns ≡ true → Among n ns
is_in_lem n [] e = absurd (false≢true e)
is_in_lem n (m ∷ ms) e = by (eqb n m) refl (is_in_lem n ms) e
  where
    by : (b : Bool) → eqb n m ≡ b → (is_in n ms ≡ true → Among n ms) → b || is_in n ms ≡ true → Among n (m ∷ ms)
    by true same later e = inl (eqb-true n m same)
    by false other later e = inr (later e)

-- `count` numbers from `from` on
abbrev pub all_in_use : (from count : ℕ) → Bool
all_in_use from zero = true
all_in_use from (suc count) = is_in from in_use && all_in_use (suc from) count

pub in_range : (from count n : ℕ) → all_in_use from count ≡ true → from ≤ n → n < from + count → Among n in_use
in_range from zero n e low high = absurd (omega arith)
in_range from (suc count) n e low high =
    let each = both (is_in from in_use) (all_in_use (suc from) count) e in
    by (eqb n from) refl (is_in_lem from in_use each.0) (in_range (suc from) count n each.1)
  where
    by : (b : Bool) → eqb n from ≡ b → Among from in_use → (suc from ≤ n → n < suc from + count → Among n in_use) → Among n in_use
    by true same here later = rw (eqb-true n from same) here
    by false other here later = let above : n ≡ from → ⊥ = eqb-false n from other in later (omega arith) (omega arith)

-- those of a list of grounds
abbrev pub grounds_in_use : List Ground → Bool
grounds_in_use [] = true
grounds_in_use (g ∷ gs) = is_in g.number in_use && grounds_in_use gs

pub first_in_use : (gs : List Ground) → grounds_in_use gs ≡ true → (n : ℕ) → First gs n → Among n in_use
first_in_use [] e n f = absurd f
first_in_use (g ∷ gs) e n (inl f) = rw f.1 (is_in_lem g.number in_use (both (is_in g.number in_use) (grounds_in_use gs) e).0)
first_in_use (g ∷ gs) e n (inr f) = first_in_use gs (both (is_in g.number in_use) (grounds_in_use gs) e).1 n f.1

-- ---- the number in an answer that is given exactly on its ground
pub number_back : (n : ℕ) → number_of (by_number n) ≡ n
number_back zero = refl
number_back (suc n) = refl

pub answer_usable : {A : Type 0} (e : Entry A) (a : A) → Exactly e a → ((n : ℕ) → First e.grounds n → Among n in_use)
    → Usable (number_of (e.says a))
answer_usable e a x used = by (e.says a) refl
  where
    by : (v : Verdict) → e.says a ≡ v → Usable (number_of v)
    by works s = inl refl
    by (refuses n) s = inr (used n ((x.given n).0 s))
