-- Each number where the definition has it.
use mathlib.Core.Path.{◌∙◌}
use Rattle.message.specs.Spans.{spans_given}
use Rattle.bekurapi.proofs.NumberLaws.{to_numbers}
use Rattle.bekurapi.proofs.numbers.numbers_of.Goals as goal

pub returns : goal.returns
returns c =
    let is = c.slots_in-outline.ensures in
    c.with_fields.ensures ∙ to_numbers (spans_given c.args.reading) is.0 is.1 is.2 is.3
