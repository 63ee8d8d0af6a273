-- `read_varint` meets its contract. The loop keeps the groups joined so far, below what the later bytes give (`Joining`); it ends
-- because the part does.
use Prim.Native.Nat.{◌-◌}
use Rattle.wire_read.proofs.Joining.{Joining}
use Rattle.wire_read.proofs.read_varint.Given as goal

abbrev pub invariant-loop-i : goal.invariant-loop-i
invariant-loop-i l = Joining l.s l.at l.end l.stop l.value l.shift l.i

abbrev pub decreases-loop-i : goal.decreases-loop-i
decreases-loop-i l = l.stop - l.i
