-- `varint_len` meets its contract. The loop counts the bytes passed; with those of what is left they are the bytes of `v`. It ends
-- because what is left falls.
use Prim.Native.Nat.{ℕ, suc, ◌+◌, ◌*◌, ◌^◌, ◌<◌}
use mathlib.Core.Path.{◌≡◌}
use lib.ListN.{length}
use Rattle.wire_write.specs.Writing.{shortest, put_varint}
use Rattle.wire_write.proofs.varint_len.Given as goal

-- `n` bytes with the one to come, and what is left takes at most `room` bytes more
pub record Counting (v rest n : ℕ) : Type 0 where
  pub room : ℕ
  pub fits : rest < 2 * 128 ^ room
  pub count : n + room ≡ 10
  pub left : n + length (shortest (suc room) rest) ≡ length (put_varint v) + 1

abbrev pub invariant-loop-rest : goal.invariant-loop-rest
invariant-loop-rest l = Counting l.v l.rest l.n

abbrev pub decreases-loop-rest : goal.decreases-loop-rest
decreases-loop-rest l = l.rest
