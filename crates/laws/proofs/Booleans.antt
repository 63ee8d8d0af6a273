-- Booleans, and the choice that a boolean makes. More of them are in `mathlib.Core.Bool`: `and-true`, `or-false`, `and_comm`.
-- Assumes nothing.
use Prim.Native.Nat.{ℕ}
use mathlib.Core.Path.{◌≡◌, refl}
use mathlib.Core.Bool.{Bool, true, false, true≢false, false≢true, cond, ◌&&◌, ◌||◌}
use native.Mathlib.Omega.{arith}

-- an equation of two different constructors comes to 0 ≡ 1 by `cc`, and from it anything follows
pub clash : {A : Type 0} → ◌≡◌ {A = ℕ} 0 1 → A
clash e = let z : ⊥ = omega (arith, e) in absurd z

-- ---- two booleans
pub both : (a b : Bool) → a && b ≡ true → (a ≡ true) × (b ≡ true)
both true b e = (refl, e)
both false b e = absurd (false≢true e)

pub neither : (a b : Bool) → a || b ≡ false → (a ≡ false) × (b ≡ false)
neither true b e = absurd (true≢false e)
neither false b e = (refl, e)

pub or_right : (a b : Bool) → b ≡ true → a || b ≡ true
or_right true b e = refl
or_right false b e = e

-- ---- a choice
module _ {A : Type 0} (P : A → Type 0) where
  -- what holds of both cases of a test holds of the one that it chooses
  pub either : (b : Bool) {x y : A} → P x → P y → P (cond b x y)
  either true p q = p
  either false p q = q

  -- the same where each case may use what the test was
  pub choose : (b : Bool) (x y : A) → (b ≡ true → P x) → (b ≡ false → P y) → P (cond b x y)
  choose true x y f g = f refl
  choose false x y f g = g refl

-- ---- a chain of rules, `unless ok code later` of `specs.Chains`
-- no number: the rule is kept, and so are the later ones
pub kept : (ok : Bool) (code later : ℕ) → (code ≡ 0 → ⊥) → cond ok later code ≡ 0 → (ok ≡ true) × (later ≡ 0)
kept true code later n e = (refl, e)
kept false code later n e = absurd (n e)

-- and the other way
pub passes : (ok : Bool) (code : ℕ) {later : ℕ} → ok ≡ true → later ≡ 0 → cond ok later code ≡ 0
passes ok code e z = rw e z
