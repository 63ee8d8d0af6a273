-- `put_varint` meets its contract: `VarintLoop`. The loop ends because what is left falls.
use Rattle.wire_write.proofs.VarintLoop.{Putting}
use Rattle.wire_write.proofs.storing.put_varint.Given as goal

abbrev pub invariant-loop-rest : goal.invariant-loop-rest
invariant-loop-rest l = Putting l.v l.initial.out l.at l.out l.rest l.i

abbrev pub decreases-loop-rest : goal.decreases-loop-rest
decreases-loop-rest l = l.rest
