-- What the definitions say of a first byte, range by range.
use Prim.Native.Nat.{ℕ, ◌≤◌, ◌<◌}
use mathlib.Core.Path.{◌≡◌}
use mathlib.Core.Logic.{⊎_elim}
use native.Mathlib.Omega.{arith}
use borrow.Author.Tests.{le-leb, lt-leb, eq-eqb, ne_eqb}
use Rattle.utf8.specs.Grammar.{follows, lowest, highest}
use Rattle.utf8.proofs.Cases.{same_or_not}

module _ (b : ℕ) where
  pub alone : b ≤ 0x7F → follows b ≡ 0
  unfolding follows
  alone h = rw (le-leb b 0x7F h)

  pub between : 0x7F < b → b ≤ 0xC1 → follows b ≡ 4
  unfolding follows
  between g h = rw (lt-leb b 0x7F g, le-leb b 0xC1 h)

  pub one : 0xC1 < b → b ≤ 0xDF → follows b ≡ 1
  unfolding follows
  one g h = rw (lt-leb b 0x7F (omega arith), lt-leb b 0xC1 g, le-leb b 0xDF h)

  pub two : 0xDF < b → b ≤ 0xEF → follows b ≡ 2
  unfolding follows
  two g h = rw (lt-leb b 0x7F (omega arith), lt-leb b 0xC1 (omega arith), lt-leb b 0xDF g, le-leb b 0xEF h)

  pub three : 0xEF < b → b ≤ 0xF4 → follows b ≡ 3
  unfolding follows
  three g h =
      rw (
        lt-leb b 0x7F (omega arith),
        lt-leb b 0xC1 (omega arith),
        lt-leb b 0xDF (omega arith),
        lt-leb b 0xEF g,
        le-leb b 0xF4 h,
      )

  pub above : 0xF4 < b → follows b ≡ 4
  unfolding follows
  above g =
      rw (
        lt-leb b 0x7F (omega arith),
        lt-leb b 0xC1 (omega arith),
        lt-leb b 0xDF (omega arith),
        lt-leb b 0xEF (omega arith),
        lt-leb b 0xF4 g,
      )

  pub lowest_E0 : b ≡ 0xE0 → lowest b ≡ 0xA0
  unfolding lowest
  lowest_E0 e = rw (eq-eqb b 0xE0 e)

  pub lowest_F0 : b ≡ 0xF0 → lowest b ≡ 0x90
  unfolding lowest
  lowest_F0 e = rw (ne_eqb b 0xE0 (omega arith), eq-eqb b 0xF0 e)

  pub lowest_other : (b ≡ 0xE0 → ⊥) → (b ≡ 0xF0 → ⊥) → lowest b ≡ 0x80
  unfolding lowest
  lowest_other g h = rw (ne_eqb b 0xE0 g, ne_eqb b 0xF0 h)

  pub highest_ED : b ≡ 0xED → highest b ≡ 0x9F
  unfolding highest
  highest_ED e = rw (eq-eqb b 0xED e)

  pub highest_F4 : b ≡ 0xF4 → highest b ≡ 0x8F
  unfolding highest
  highest_F4 e = rw (ne_eqb b 0xED (omega arith), eq-eqb b 0xF4 e)

  pub highest_other : (b ≡ 0xED → ⊥) → (b ≡ 0xF4 → ⊥) → highest b ≡ 0xBF
  unfolding highest
  highest_other g h = rw (ne_eqb b 0xED g, ne_eqb b 0xF4 h)

  -- the range after a first byte is part of 80-BF
  pub lowest_least : 0x80 ≤ lowest b
  lowest_least =
      ⊎_elim (λ e. omega (arith, lowest_E0 e))
      (λ n. ⊎_elim (λ e. omega (arith, lowest_F0 e)) (λ m. omega (arith, lowest_other n m)) (same_or_not b 0xF0))
      (same_or_not b 0xE0)

  pub highest_most : highest b ≤ 0xBF
  highest_most =
      ⊎_elim (λ e. omega (arith, highest_ED e))
      (λ n. ⊎_elim (λ e. omega (arith, highest_F4 e)) (λ m. omega (arith, highest_other n m)) (same_or_not b 0xF4))
      (same_or_not b 0xED)

  -- a byte in 80-BF that the four special first bytes allow is in the range
  pub lowest_below : (x : ℕ) → 0x80 ≤ x → (b ≡ 0xE0 → 0xA0 ≤ x) → (b ≡ 0xF0 → 0x90 ≤ x) → lowest b ≤ x
  lowest_below x h p q =
      ⊎_elim (λ e. omega (arith, lowest_E0 e, p e))
      (λ n. ⊎_elim (λ e. omega (arith, lowest_F0 e, q e)) (λ m. omega (arith, lowest_other n m)) (same_or_not b 0xF0))
      (same_or_not b 0xE0)

  pub highest_above : (x : ℕ) → x ≤ 0xBF → (b ≡ 0xED → x ≤ 0x9F) → (b ≡ 0xF4 → x ≤ 0x8F) → x ≤ highest b
  highest_above x h p q =
      ⊎_elim (λ e. omega (arith, highest_ED e, p e))
      (λ n. ⊎_elim (λ e. omega (arith, highest_F4 e, q e)) (λ m. omega (arith, highest_other n m)) (same_or_not b 0xF4))
      (same_or_not b 0xED)
