-- The loop of `wire_write`: `VarintLoop` there.
use lib.ListN.{length-set}
use lib.Dec.{lit<}
use native.Mathlib.Omega.{arith}
use Rattle.wire_write.proofs.VarintLoop.{group_fits, start, in_out, again, done}
use Rattle.writer.proofs.put.put_varint.Goals as goal

pub returns : goal.returns
returns c =
    let end = done _ _ _ _ _ _ c.loop-rest.invariant c.loop-rest-test.false in
    record { place = end.0; bytes = end.1 }

pub loop-rest-init : goal.loop-rest-init
loop-rest-init c =
    start _ _ _ (omega arith) c.requires

pub overflow_cast-out : goal.overflow_cast-out
overflow_cast-out c =
    group_fits c.loop-rest.rest _ (lit< tt)

pub bounds-out-i : goal.bounds-out-i
bounds-out-i c =
    in_out _ _ _ _ _ _ c.loop-rest.invariant

pub overflow_add-i : goal.overflow_add-i
overflow_add-i c =
    omega (arith, in_out _ _ _ _ _ _ c.loop-rest.invariant)

pub loop-rest-smaller : goal.loop-rest-smaller
loop-rest-smaller c =
    omega arith

pub loop-rest-preserved : goal.loop-rest-preserved
loop-rest-preserved c =
    again _ _ _ _ _ _ c.loop-rest.invariant c.loop-rest-test.true

pub bounds-out-i-2 : goal.bounds-out-i-2
bounds-out-i-2 c =
    in_out _ _ _ _ _ _ c.loop-rest.invariant

pub overflow_add-result : goal.overflow_add-result
overflow_add-result c =
    omega (arith, in_out _ _ _ _ _ _ c.loop-rest.invariant)

pub shape_of-out : goal.shape_of-out
shape_of-out c =
    simp length-set c.loop-rest.invariant.size
