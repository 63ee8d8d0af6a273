-- The tag, the length of what is inside, and that.
use mathlib.Core.Path.{ap, ◌∙◌}
use native.Mathlib.Omega.{arith}
use Rattle.writer.specs.Straight.{tagged}
use Rattle.writer.proofs.sizes.row_size.Goals as goal

pub returns : goal.returns
returns c = (c.tagged.ensures.0 ∙ ap tagged c.entry_size.ensures.0, omega arith)
