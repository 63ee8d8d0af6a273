-- The sum of its fields, by the schema.
use native.Mathlib.Omega.{arith}
use Rattle.writer.specs.Straight.{size_by}
use Rattle.writer.proofs.sizes.close_size.Goals as goal

pub returns : goal.returns
unfolding size_by
returns c = (omega arith, omega arith)
