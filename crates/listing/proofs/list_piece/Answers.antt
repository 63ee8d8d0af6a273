-- Each pass adds a step to those before it.
use Rattle.std.proofs.Common.{refl, inl, arith}
use Rattle.listing.specs.Steps.{none, another}
use Rattle.listing.proofs.list_piece.Goals as goal

pub loop-from-init : goal.loop-from-init
loop-from-init c = (refl, refl, omega arith, omega arith, none)

pub loop-from-preserved : goal.loop-from-preserved
loop-from-preserved c =
    let called = c.deframe_rest-step.ensures in
    let step = another c.loop-from.invariant.4 called.value called.buffer_after c.list_step-listed.ensures.2 in
    (omega arith, omega arith, omega arith, omega arith, step)

pub returns-then-listed-clause-lists_piece : goal.returns-then-listed-clause-lists_piece
returns-then-listed-clause-lists_piece c =
    let called = c.deframe_rest-step.ensures in
    record {
      taken = _;
      steps = another c.loop-from.invariant.4 called.value called.buffer_after c.list_step-listed.ensures.2;
      to_its_end = inl c.if-listed.true;
    }
