-- `clear_rows` meets its contract: the two cases of the definition.
use mathlib.Core.Path.{sym, ◌∙◌}
use Rattle.decoder.proofs.Answers.{all_cleared, none_cleared}
use Rattle.decoder.proofs.clear_rows.Goals as goal

pub returns-then-rows-ge-ROW_NUMBERS : goal.returns-then-rows-ge-ROW_NUMBERS
returns-then-rows-ge-ROW_NUMBERS c =
    c.clear.ensures ∙ sym (all_cleared _ c.if-rows-ge-ROW_NUMBERS.true)

pub returns-else-rows-ge-ROW_NUMBERS : goal.returns-else-rows-ge-ROW_NUMBERS
returns-else-rows-ge-ROW_NUMBERS c =
    sym (none_cleared _ c.if-rows-ge-ROW_NUMBERS.false)
