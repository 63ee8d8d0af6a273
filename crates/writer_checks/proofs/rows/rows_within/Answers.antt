-- All of the rows, each as its four numbers.
use mathlib.Core.Path.{refl}
use Rattle.decoder.specs.Rows.{rows_in}
use Rattle.std.proofs.Common.{rules, tests, ◌∙◌, ap}
use Rattle.std.proofs.lemmas.Iterator.{YieldsList-from_slice}
use Rattle.std.proofs.lemmas.Iterator.Search.{all_from_yields_List}
use Rattle.writer_checks.specs.Grounds.{rows_within}
use Rattle.writer_checks.specs.Fours.{row_within}
use Rattle.writer_checks.proofs.RowFours.{fours_lent, all_within}
use Rattle.writer_checks.proofs.rows.rows_within.Goals as goal

pub returns-then-count-eq0 : goal.returns-then-count-eq0
unfolding rows_within rows_in
returns-then-count-eq0 c = rw c.if-count-eq0.true refl

pub returns : goal.returns
returns c =
    let rows = c.as_chunks.result.0.now in
    all_from_yields_List (row_within c.args.size) _ _ _ c.all.ensures.ran (YieldsList-from_slice rows cc) (λ x b q k. search (rules, tests))
    ∙ all_within c.args.size rows
    ∙ ap (rows_within c.args.size) (fours_lent c.args.count c.args.rows.now c.requires rows c.as_chunks.ensures.front)
