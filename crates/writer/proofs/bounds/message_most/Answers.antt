-- With the rows.
use native.Mathlib.Omega.{arith}
use Rattle.writer.specs.Straight.{fours}
use Rattle.writer.proofs.bounds.message_most.Goals as goal

pub returns : goal.returns
returns c =
    (omega (arith, c.fields_most.ensures.0 (fours c.args.m.now.rows.now)), omega arith)
