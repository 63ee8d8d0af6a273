-- What is left of the total without the 16 bytes is at most what is left of the ceiling: a total under 16 wraps to more.
use Prim.Native.Nat.{ℕ, ◌+◌, ◌-◌, ◌%◌, ◌^◌, ◌<◌, ◌≤◌}
use mathlib.Core.Path.{◌≡◌, refl}
use mathlib.Core.Bool.{◌&&◌}
use native.Mathlib.Omega.{arith}
use native.Mathlib.Decide.{dec_le}
use borrow.Author.Rules.{rules}
use borrow.Author.Tests.{le-leb, lt-leb}
use lib.Dec.{leb}
use Rattle.fixed_header.specs.Header.{total_ok}
use Rattle.fixed_header.proofs.header.total_ok.Goals as goal

module _ (c content total : ℕ) (low : 16 ≤ c) (high : c < 2 ^ 32) (small : content < 2 ^ 32)
    (wraps : (content + 16) % 2 ^ 32 ≡ total) where
  at_once : leb content (c - 16) ≡ leb 16 total && leb total c
  at_once = by (dec_le content (c - 16)) (dec_le 16 total)
    where
      by : Dec (content ≤ c - 16) → Dec (16 ≤ total) → leb content (c - 16) ≡ leb 16 total && leb total c
      by (yes p) q =
          rw (le-leb content (c - 16) p, le-leb 16 total (omega (arith, wraps)), le-leb total c (omega (arith, wraps)))
      by (no p) (yes q) =
          rw (lt-leb content (c - 16) (omega arith), le-leb 16 total q, lt-leb total c (omega (arith, wraps)))
      by (no p) (no q) = rw (lt-leb content (c - 16) (omega arith), lt-leb 16 total (omega arith))

pub returns : goal.returns
unfolding total_ok
returns c = at_once _ _ _ c.requires.0 (search rules) c.requires.1 refl
