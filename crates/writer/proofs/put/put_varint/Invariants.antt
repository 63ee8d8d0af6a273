-- The loop of `wire_write`: `VarintLoop` there.
use Rattle.wire_write.proofs.VarintLoop.{Putting}
use Rattle.writer.proofs.put.put_varint.Given as goal

abbrev pub invariant-loop-rest : goal.invariant-loop-rest
invariant-loop-rest l = Putting l.v l.initial.out l.at l.out l.rest l.i

abbrev pub decreases-loop-rest : goal.decreases-loop-rest
decreases-loop-rest l = l.rest
