-- `split_tag` meets its contract. The shift and the mask split the value as the division by 8 does, and each test is one of the
-- definition's.
use Prim.Native.Nat.{ℕ, ◌/◌, ◌%◌, ◌^◌, ◌<◌, ◌≤◌}
use mathlib.Core.Path.{◌≡◌}
use mathlib.Core.Bool.{◌&&◌, false}
use lib.Bits.{bit_and, and_mask}
use lib.Dec.{ltb}
use native.Mathlib.Nat.{add-zero}
use native.Mathlib.Omega.{arith}
use borrow.Author.Tests.{lt-ltb, le-ltb}
use Rattle.std.specs.Prelude.{Some, Ok, Err}
use Rattle.wire_read.specs.Placed.{tag_at}
use Rattle.wire_read.specs.Tags.{split}
use Rattle.wire_read.specs.Varint.{got}
use Rattle.wire_read.proofs.split_tag.Goals as goal
use Rattle.wire_read.proofs.split_tag.Goals.{else-number-gt0-via-then-number-gt0+else-wire_type-lt6, else-number-gt0-via-else-number-gt0}

module _ (v after : ℕ) where
  low_bits : bit_and v 7 ≡ v % 8
  low_bits = and_mask v 3

  good : v ≤ 4294967295 → 0 < v / 8 → bit_and v 7 < 6 → Ok (Some (record { number = v / 8; wire_type = bit_and v 7; next = after })) ≡ tag_at after (split (got v 0))
  unfolding split tag_at
  good a b w =
      let w' : v % 8 < 6 = rw low_bits at w in
      rw (lt-ltb v (2 ^ 32) (omega arith), lt-ltb 0 (v / 8) b, low_bits, lt-ltb (v % 8) 6 w', add-zero after)

  refusal : ltb v (2 ^ 32) && (ltb 0 (v / 8) && ltb (v % 8) 6) ≡ false → Err 11 ≡ tag_at after (split (got v 0))
  unfolding split tag_at
  refusal z = rw z

  too_large : 4294967295 < v → Err 11 ≡ tag_at after (split (got v 0))
  too_large a = refusal (rw (le-ltb v (2 ^ 32) (omega arith)))

  bad-number : v ≤ 4294967295 → v / 8 ≤ 0 → Err 11 ≡ tag_at after (split (got v 0))
  bad-number a b = refusal (rw (lt-ltb v (2 ^ 32) (omega arith), le-ltb 0 (v / 8) b))

  bad-type : v ≤ 4294967295 → 0 < v / 8 → 6 ≤ bit_and v 7 → Err 11 ≡ tag_at after (split (got v 0))
  bad-type a b w =
      let w' : 6 ≤ v % 8 = rw low_bits at w in
      refusal (rw (lt-ltb v (2 ^ 32) (omega arith), lt-ltb 0 (v / 8) b, le-ltb (v % 8) 6 w'))

pub returns-then-wire_type-lt6 : goal.returns-then-wire_type-lt6
returns-then-wire_type-lt6 c =
    good _ _ c.if-v-le4294967295.true c.if-number-gt0.true c.if-wire_type-lt6.true

pub returns-else-number-gt0 : goal.returns-else-number-gt0
returns-else-number-gt0 c =
    elim c.else-number-gt0.branch [
      | else-number-gt0-via-then-number-gt0+else-wire_type-lt6 w ↦
          bad-type _ _ c.if-v-le4294967295.true w.if-number-gt0.true w.if-wire_type-lt6.false
      | else-number-gt0-via-else-number-gt0 w ↦ bad-number _ _ c.if-v-le4294967295.true w.if-number-gt0.false
    ]

pub returns-else-v-le4294967295 : goal.returns-else-v-le4294967295
returns-else-v-le4294967295 c =
    too_large _ _ c.if-v-le4294967295.false
