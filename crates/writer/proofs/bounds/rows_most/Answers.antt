-- What is done and the rows that are left have the sum of all rows; a row has at most `most_row`.
use mathlib.Core.List.{[]}
use native.Mathlib.Omega.{arith}
use Rattle.writer.specs.Straight.{row_most}
use Rattle.writer.proofs.RowLoop.{sum_more, sum_all}
use Rattle.writer.proofs.bounds.rows_most.Goals as goal

pub loop-row-preserved : goal.loop-row-preserved
loop-row-preserved c =
    let inv = c.loop-row.invariant in (
      omega arith,
      sum_more row_most c.args.m.now.rows.now c.loop-row.row-index _ inv.1 [] c.loop-row-test.true _ c.row_most-most.ensures.0,
    )

pub overflow_add-most : goal.overflow_add-most
overflow_add-most c = let few = c.args.m.now.few in omega arith

pub returns : goal.returns
returns c =
    let few = c.args.m.now.few in
    (sum_all _ c.args.m.now.rows.now _ _ c.loop-row.invariant.1 c.loop-row-test.false, omega arith)
