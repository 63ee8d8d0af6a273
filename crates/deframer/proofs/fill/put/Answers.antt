-- There is room, so all of the source is stored.
use mathlib.Core.Path.{◌∙◌}
use Rattle.copying.proofs.Outputs.{stored_all}
use Rattle.deframer.proofs.fill.put.Goals as goal

pub returns : goal.returns
returns c =
    c.copy_to.ensures.1 ∙ stored_all c.args.buffer.now c.args.held c.args.source.now c.requires
