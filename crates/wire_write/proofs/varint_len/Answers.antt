-- `varint_len` meets its contract. The loop counts the bytes passed; with those of what is left they are the bytes of `v`. It ends
-- because what is left falls.
use Prim.Native.Nat.{ℕ, zero, suc, ◌+◌, ◌*◌, ◌/◌, ◌^◌, ◌<◌, ◌≤◌}
use mathlib.Core.Path.{◌≡◌}
use lib.ListN.{length}
use native.Mathlib.Omega.{arith}
use Rattle.wire_write.specs.Writing.{shortest, put_varint}
use Rattle.wire_write.proofs.Encoding.{shortest_last, shortest_more, left_fits}
use Rattle.wire_write.proofs.varint_len.Invariants.{Counting}
use Rattle.wire_write.proofs.varint_len.Goals as goal

start : (v : ℕ) → v < 18446744073709551616 → Counting v v 1
unfolding put_varint
start v h = record { room = 9; fits = h; count = omega arith; left = omega arith }

again : (v rest n : ℕ) → Counting v rest n → 128 ≤ rest → Counting v (rest / 128) (n + 1)
again v rest n k h = step k.room k.fits k.count k.left
  where
    step : (room : ℕ) → rest < 2 * 128 ^ room → n + room ≡ 10 → n + length (shortest (suc room) rest) ≡ length (put_varint v) + 1
        → Counting v (rest / 128) (n + 1)
    step zero f c l = let z : ⊥ = omega arith in absurd z
    step (suc room) f c l =
        record {
          room = room;
          fits = left_fits room rest f;
          count = omega arith;
          left = omega (arith, rw (shortest_more (suc room) rest h) at l);
        }

counted : (v rest n : ℕ) → Counting v rest n → rest < 128 → n ≡ length (put_varint v)
counted v rest n k h = omega (arith, rw (shortest_last k.room rest h) at k.left)

pub loop-rest-init : goal.loop-rest-init
loop-rest-init c =
    start _ (omega arith)

pub overflow_add-n : goal.overflow_add-n
overflow_add-n c =
    omega (arith, c.loop-rest.invariant.count)

pub loop-rest-smaller : goal.loop-rest-smaller
loop-rest-smaller c =
    omega arith

pub loop-rest-preserved : goal.loop-rest-preserved
loop-rest-preserved c =
    again _ _ _ c.loop-rest.invariant c.loop-rest-test.true

pub returns : goal.returns
returns c =
    counted _ _ _ c.loop-rest.invariant c.loop-rest-test.false
