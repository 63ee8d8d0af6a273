-- By whether it is left out.
use native.Mathlib.Omega.{arith}
use Rattle.writer.proofs.Measures.{size_none, size_some}
use Rattle.writer.proofs.sizes.size_if.Goals as goal

pub returns-then-mark-eq0 : goal.returns-then-mark-eq0
returns-then-mark-eq0 c =
    (size_none _ c.args.size c.if-mark-eq0.true, omega arith)

pub returns-else-mark-eq0 : goal.returns-else-mark-eq0
returns-else-mark-eq0 c =
    (omega (arith, size_some _ c.args.size c.if-mark-eq0.false), omega arith)
