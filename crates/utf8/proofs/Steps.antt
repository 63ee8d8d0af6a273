-- One step of `tailed`, by the tests that the code makes.
use Prim.Native.Nat.{ℕ, zero, suc, ◌-◌, ◌≤◌, ◌<◌}
use mathlib.Core.Path.{◌≡◌, refl, sym, ap, ◌∙◌}
use mathlib.Core.Bool.{false}
use mathlib.Core.List.{List, [], ◌∷◌}
use native.Mathlib.Omega.{arith}
use borrow.Author.Tests.{le-leb, lt-leb}
use lib.Dec.{eqb, eqb-suc-zero}
use Rattle.utf8.specs.Grammar.{follows, lowest, highest, tailed}
use Rattle.utf8.proofs.Firsts.{alone}

-- where no byte is needed the range says nothing
pub any : (s : List ℕ) (lo hi lo' hi' : ℕ) → tailed s 0 lo hi ≡ tailed s 0 lo' hi'
unfolding tailed
any [] lo hi lo' hi' = refl
any (b ∷ s) lo hi lo' hi' = refl

pub ends : (need lo hi : ℕ) → eqb need 0 ≡ tailed [] need lo hi
unfolding tailed
ends zero lo hi = refl
ends (suc n) lo hi = eqb-suc-zero n

module _ (b : ℕ) (s : List ℕ) (need lo hi : ℕ) where
  pub leads : {n l h : ℕ} → need ≡ 0 → n ≡ follows b → n ≤ 3 → l ≡ lowest b → h ≡ highest b → tailed (b ∷ s) need lo hi ≡ tailed s n l h
  unfolding tailed
  leads z n t l h = rw (z, n, l, h, le-leb (follows b) 3 (omega arith))

  pub stray : {n : ℕ} → need ≡ 0 → n ≡ follows b → 3 < n → tailed (b ∷ s) need lo hi ≡ false
  unfolding tailed
  stray z n t = rw (z, lt-leb (follows b) 3 (omega arith))

  pub whole : need ≡ 0 → b < 0x80 → tailed (b ∷ s) need lo hi ≡ tailed s need lo hi
  whole z h =
      leads {n = 0} z (sym (alone b (omega arith))) (omega arith) refl refl ∙ rw z (any s (lowest b) (highest b) lo hi)

module _ (b : ℕ) (s : List ℕ) (lo hi : ℕ) where
  pub low : (need : ℕ) → (need ≡ 0 → ⊥) → b < lo → tailed (b ∷ s) need lo hi ≡ false
  unfolding tailed
  low zero more h = absurd (more refl)
  low (suc n) more h = rw (lt-leb lo b h)

  pub high : (need : ℕ) → (need ≡ 0 → ⊥) → lo ≤ b → hi < b → tailed (b ∷ s) need lo hi ≡ false
  unfolding tailed
  high zero more l h = absurd (more refl)
  high (suc n) more l h = rw (le-leb lo b l, lt-leb b hi h)

  pub next : (need : ℕ) → (need ≡ 0 → ⊥) → lo ≤ b → b ≤ hi → tailed (b ∷ s) need lo hi ≡ tailed s (need - 1) 0x80 0xBF
  unfolding tailed
  next zero more l h = absurd (more refl)
  next (suc n) more l h =
      let e : n ≡ suc n - 1 = omega arith in
      rw (le-leb lo b l, le-leb b hi h) (ap (λ (k : ℕ). tailed s k 0x80 0xBF) e)
