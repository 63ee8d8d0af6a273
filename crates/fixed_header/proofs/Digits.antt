-- The bytes of a number that was put together of them, the low one first
use Prim.Native.Nat.{ℕ, ◌+◌, ◌*◌, ◌/◌, ◌%◌, ◌<◌}
use mathlib.Core.Path.{◌≡◌}
use native.Mathlib.Omega.{arith}

pub two_digits : (a b : ℕ) → a < 256 → b < 256 → ((b * 256 + a) % 256 ≡ a) × ((b * 256 + a) / 256 ≡ b)
two_digits a b p q = (omega arith, omega arith)

module _ (a b c d : ℕ) (p : a < 256) (q : b < 256) (r : c < 256) (s : d < 256) where
  abbrev joined : ℕ
  joined = a + b * 256 + (c + d * 256) * 65536

  pub four_digits : (joined % 256 ≡ a) × (joined / 256 % 256 ≡ b) × (joined / 65536 % 256 ≡ c) × (joined / 16777216 % 256 ≡ d)
  four_digits = (omega arith, omega arith, omega arith, omega arith)
