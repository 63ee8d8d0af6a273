-- The end of the stream, as numbers.
use mathlib.Core.Path.{ap, ◌∙◌}
use Rattle.bekurapi.specs.Answers.{end_error, end_short}
use Rattle.bekurapi.proofs.trpc_finish.Goals as goal

pub returns : goal.returns
returns c =
    let end = c.finish-end.ensures in
    (c.end_error.ensures ∙ ap end_error end, c.end_short.ensures ∙ ap end_short end)
