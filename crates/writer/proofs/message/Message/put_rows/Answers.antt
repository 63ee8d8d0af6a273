-- The rows that are left, stored from the place reached, give what all of them give.
use mathlib.Core.List.{[]}
use Rattle.writer.proofs.Stores.{starts}
use Rattle.writer.proofs.RowLoop.{row_in, row_fits, put_row, put_rows_all}
use Rattle.writer.proofs.message.Message.put_rows.Goals as goal

pub loop-row-init : goal.loop-row-init
loop-row-init c = starts _ _ _

pub put_entry-next-requires : goal.put_entry-next-requires
put_entry-next-requires c =
    let rows = c.args.self.now.rows.now in
    let i = c.loop-row.row-index in (
      c.requires.0,
      row_in _ rows i [] c.loop-row-test.true c.args.self.now.rows_in,
      row_fits rows i _ _ c.loop-row.invariant [] c.loop-row-test.true c.requires.1,
    )

pub loop-row-preserved : goal.loop-row-preserved
loop-row-preserved c = put_row c.args.self.now.rows.now _ _ _ c.loop-row.invariant [] c.loop-row-test.true c.put_entry-next.ensures

pub returns : goal.returns
returns c = put_rows_all c.args.self.now.rows.now _ _ _ c.loop-row.invariant c.loop-row-test.false

pub shape_of-out : goal.shape_of-out
shape_of-out c = c.loop-row.invariant.same_length
