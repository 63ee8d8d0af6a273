-- The first two lengths in line.
use Prim.Native.Nat.{ℕ, ◌/◌, ◌≤◌, ◌<◌}
use mathlib.Core.Path.{◌≡◌}
use lib.ListN.{length}
use native.Mathlib.Omega.{arith}
use Rattle.wire_write.specs.Writing.{put_varint}
use Rattle.wire_write.proofs.Encoding.{shortest_last, shortest_more, varint_bounds}
use Rattle.writer.proofs.sizes.length_of.Goals as goal

one : (v : ℕ) → v < 128 → 1 ≡ length (put_varint v)
unfolding put_varint
one v h = rw (shortest_last 9 v h)

two : (v : ℕ) → 128 ≤ v → v < 16384 → 2 ≡ length (put_varint v)
unfolding put_varint
two v l h = rw (shortest_more 9 v l, shortest_last 8 (v / 128) (omega arith))

pub returns : goal.returns
returns c = (c.varint_len.ensures, omega (arith, c.varint_len.ensures, varint_bounds c.args.v))

pub returns-then-v-lt128 : goal.returns-then-v-lt128
returns-then-v-lt128 c =
    (one _ c.if-v-lt128.true, omega arith)

pub returns-then-v-lt16384 : goal.returns-then-v-lt16384
returns-then-v-lt16384 c =
    (two _ c.if-v-lt128.false c.if-v-lt16384.true, omega arith)
