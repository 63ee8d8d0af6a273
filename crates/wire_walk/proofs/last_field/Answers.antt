-- `last_field` meets its contract: what is found so far and the fields from the place on give what all of them give, and the bytes left
-- fall.
use mathlib.Core.Path.{refl, ap, ◌∙◌}
use Rattle.std.specs.Prelude.{Ok}
use Rattle.wire_read.proofs.Answers.{found_as, refused_as, refused_by}
use Rattle.wire_walk.specs.Last.{last_field}
use Rattle.wire_walk.proofs.LastLaws.{none_left, refusal, goes_on, less_left}
use Rattle.wire_walk.proofs.last_field.Goals as goal

pub loop-step-init : goal.loop-step-init
unfolding last_field
loop-step-init c = refl

pub loop-step-preserved : goal.loop-step-preserved
loop-step-preserved c =
    let turn = c.loop-step in
    goes_on _ _ _ turn.found turn.invariant (found_as c.field_at.ensures (c.in_ok-step.was ∙ ap Ok c.in-Some.is)) c.later-found.ensures

pub loop-step-smaller : goal.loop-step-smaller
loop-step-smaller c =
    let turn = c.loop-step in
    less_left _ _ _ turn.found turn.invariant (found_as c.field_at.ensures (c.in_ok-step.was ∙ ap Ok c.in-Some.is))

pub returns-in_err-step : goal.returns-in_err-step
returns-in_err-step c =
    let turn = c.loop-step in
    refused_by _ _ c.from_residual.ensures
    ∙ refusal _ _ _ turn.found turn.invariant (refused_as c.field_at.ensures c.in_err-step.was)

pub returns : goal.returns
returns c =
    let turn = c.loop-step in
    none_left _ _ _ turn.found turn.invariant (found_as c.field_at.ensures (c.in_ok-step.was ∙ ap Ok c.in_default.is))
