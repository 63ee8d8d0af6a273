-- `good_tag` meets its contract. Each test is one of the definition's.
use Prim.Native.Nat.{ℕ, ◌+◌, ◌*◌, ◌^◌, ◌<◌, ◌≤◌}
use mathlib.Core.Path.{◌≡◌}
use mathlib.Core.Bool.{false}
use lib.Dec.{ltb}
use native.Mathlib.Omega.{arith}
use borrow.Author.Tests.{lt-ltb, le-ltb}
use Rattle.wire_write.specs.Writing.{good_tag}
use Rattle.wire_write.proofs.grounds.good_tag.Goals as goal

module _ (n w : ℕ) where
  by_type : n * 8 + w ≤ 4294967295 → 0 < n → ltb w 6 ≡ good_tag n w
  unfolding good_tag
  by_type h some = rw (lt-ltb (n * 8 + w) (2 ^ 32) (omega arith), lt-ltb 0 n some)

  bad-number : n * 8 + w ≤ 4294967295 → n ≤ 0 → ltb 0 n ≡ good_tag n w
  unfolding good_tag
  bad-number h none = rw (lt-ltb (n * 8 + w) (2 ^ 32) (omega arith), le-ltb 0 n none)

  too_large : 4294967295 < n * 8 + w → false ≡ good_tag n w
  unfolding good_tag
  too_large h = rw (le-ltb (n * 8 + w) (2 ^ 32) (omega arith))

pub returns-then-number-gt0 : goal.returns-then-number-gt0
returns-then-number-gt0 c =
    by_type _ _ c.if-number-wire_type-le4294967295.true c.if-number-gt0.true

pub returns-else-number-gt0 : goal.returns-else-number-gt0
returns-else-number-gt0 c =
    bad-number _ _ c.if-number-wire_type-le4294967295.true c.if-number-gt0.false

pub returns : goal.returns
returns c =
    too_large _ _ c.if-number-wire_type-le4294967295.false
