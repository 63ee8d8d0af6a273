-- A test of a definition and the ground that it looks for
-- Assumes nothing.
use Prim.Native.Nat.{ℕ, ◌<◌, ◌≤◌}
use mathlib.Core.Path.{◌≡◌, refl}
use mathlib.Core.Logic.{◌⊎◌, inl, inr}
use mathlib.Core.Bool.{Bool, true, false, true≢false, not, cond, ◌&&◌, ◌||◌}
use mathlib.Core.List.{List, [], ◌∷◌}
use native.Mathlib.Omega.{arith}
use borrow.Author.Tests.{leb-true, leb-false, ltb-true, ltb-false, eqb-true, eqb-false}
use lib.Dec.{eqb, leb, ltb}
use Rattle.refusals.specs.Grounds.{Some}

-- the test finds the ground P: it is true where P holds, and false where it does not
abbrev pub Told : Bool → Type 0 → Type 0
Told true P = P
Told false P = P → ⊥

pub record Finds (found : Bool) (P : Type 0) : Type 0 where
  pub told : Told found P

-- the test passes where the ground P does not hold, and fails where it does
pub record Tests (ok : Bool) (P : Type 0) : Type 0 where
  pub told : Told (not ok) P

pub not_found : {b : Bool} {P : Type 0} → Finds b P → (P → ⊥) → b ≡ false
not_found {b} {P} t n = by b t.told
  where
    by : (b : Bool) → Told b P → b ≡ false
    by true p = absurd (n p)
    by false p = refl

pub found : {b : Bool} {P : Type 0} → Finds b P → ((P → ⊥) → ⊥) → b ≡ true
found {b} {P} t n = by b t.told
  where
    by : (b : Bool) → Told b P → b ≡ true
    by true p = refl
    by false p = absurd (n p)

-- ---- the same ground in other words
other_words : {P Q : Type 0} → (P → Q) → (Q → P) → (b : Bool) → Told b P → Told b Q
other_words f g true p = f p
other_words f g false p = λ y. p (g y)

pub reworded : {b : Bool} {P Q : Type 0} → (P → Q) → (Q → P) → Finds b P → Finds b Q
reworded {b} f g t = record { told = other_words f g b t.told }

pub restated : {ok : Bool} {P Q : Type 0} → (P → Q) → (Q → P) → Tests ok P → Tests ok Q
restated {ok} f g t = record { told = other_words f g (not ok) t.told }

-- ---- two tests
none_of_two : {P Q : Type 0} → (P → ⊥) → (Q → ⊥) → P ⊎ Q → ⊥
none_of_two p q (inl x) = p x
none_of_two p q (inr y) = q y

pub either_found : {a b : Bool} {P Q : Type 0} → Finds a P → Finds b Q → Finds (a || b) (P ⊎ Q)
either_found {a} {b} {P} {Q} p q = record { told = by a b p.told q.told }
  where
    by : (a b : Bool) → Told a P → Told b Q → Told (a || b) (P ⊎ Q)
    by true b p q = inl p
    by false true p q = inr q
    by false false p q = none_of_two p q

pub each : {a b : Bool} {P Q : Type 0} → Finds a P → Finds b Q → Finds (a && b) (P × Q)
each {a} {b} {P} {Q} p q = record { told = by a b p.told q.told }
  where
    by : (a b : Bool) → Told a P → Told b Q → Told (a && b) (P × Q)
    by true true p q = (p, q)
    by true false p q = λ r. q r.1
    by false b p q = λ r. p r.0

-- both pass where neither ground holds
pub both_pass : {a b : Bool} {P Q : Type 0} → Tests a P → Tests b Q → Tests (a && b) (P ⊎ Q)
both_pass {a} {b} {P} {Q} p q = record { told = by a b p.told q.told }
  where
    by : (a b : Bool) → Told (not a) P → Told (not b) Q → Told (not (a && b)) (P ⊎ Q)
    by true true p q = none_of_two p q
    by true false p q = inr q
    by false b p q = inl p

-- a test for what is right, as a test for the ground that it is not so
pub unlike : {ok : Bool} {P : Type 0} → Finds ok P → Tests ok (P → ⊥)
unlike {ok} {P} t = record { told = by ok t.told }
  where
    by : (ok : Bool) → Told ok P → Told (not ok) (P → ⊥)
    by true p = λ n. n p
    by false p = p

pub missing : {b : Bool} {P : Type 0} → Finds b P → Finds (not b) (P → ⊥)
missing t = record { told = (unlike t).told }

pub never : Tests true ⊥
never = record { told = λ g. g }

-- one test decides which of two others is made
pub found_by_choice : {c a b : Bool} {P Q : Type 0} → Finds c P → (P → Finds a Q) → ((P → ⊥) → Finds b Q) → Finds (cond c a b) Q
found_by_choice {c} {a} {b} {P} {Q} t f g = by c t.told
  where
    by : (c : Bool) → Told c P → Finds (cond c a b) Q
    by true p = f p
    by false p = g p

-- ---- lists
pub some : {A : Type 0} {test : A → Bool} {P : A → Type 0} → ((x : A) → Finds (test x) (P x)) → (any : List A → Bool)
    → any [] ≡ false → ((x : A) (xs : List A) → any (x ∷ xs) ≡ (test x || any xs)) → (xs : List A) → Finds (any xs) (Some P xs)
some f any z s [] = rw z (record { told = λ g. g })
some f any z s (x ∷ xs) = rw (s x xs) (either_found (f x) (some f any z s xs))

-- ---- numbers
pub equal : (a b : ℕ) → Finds (eqb a b) (a ≡ b)
equal a b = record { told = by (eqb a b) refl }
  where
    by : (t : Bool) → eqb a b ≡ t → Told t (a ≡ b)
    by true e = eqb-true a b e
    by false e = eqb-false a b e

pub below : (a b : ℕ) → Finds (ltb a b) (a < b)
below a b = record { told = by (ltb a b) refl }
  where
    by : (t : Bool) → ltb a b ≡ t → Told t (a < b)
    by true e = ltb-true a b e
    by false e = λ (g : a < b). omega (arith, ltb-false a b e)

pub up_to : (a b : ℕ) → Finds (leb a b) (a ≤ b)
up_to a b = record { told = by (leb a b) refl }
  where
    by : (t : Bool) → leb a b ≡ t → Told t (a ≤ b)
    by true e = leb-true a b e
    by false e = λ (g : a ≤ b). omega (arith, leb-false a b e)

pub at_most : (a b : ℕ) → Tests (leb a b) (b < a)
at_most a b = restated (λ (n : a ≤ b → ⊥). omega arith) (λ (g : b < a) (l : a ≤ b). omega arith) (unlike (up_to a b))

-- there are none unless they are allowed
pub none_unless : (allowed : Bool) (n : ℕ) → Tests (allowed || eqb n 0) ((allowed ≡ false) × (0 < n))
none_unless allowed n = record { told = by allowed (eqb n 0) refl }
  where
    by : (allowed ok : Bool) → eqb n 0 ≡ ok → Told (not (allowed || ok)) ((allowed ≡ false) × (0 < n))
    by true ok e = λ g. true≢false g.0
    by false true e = λ g. omega (arith, eqb-true n 0 e, g.1)
    by false false e = (refl, omega (arith, eqb-false n 0 e))
