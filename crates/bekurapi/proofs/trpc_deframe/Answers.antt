-- What the deframer gives, as numbers.
use mathlib.Core.Path.{ap, ◌∙◌}
use Rattle.deframer.specs.Step.{Step}
use Rattle.bekurapi.specs.Answers.{progress_error, progress_size}
use Rattle.bekurapi.proofs.trpc_deframe.Goals as goal

pub returns : goal.returns
returns c =
    let gave = c.deframe-step.ensures in
    let answer = ap (λ (x : Step). x.progress) gave.value in
    record {
      code_is = c.progress_error.ensures ∙ ap progress_error answer;
      size_is = c.progress_size.ensures ∙ ap progress_size answer;
      state_is = ap (λ (x : Step). x.next) gave.value;
      taken_is = ap (λ (x : Step). x.taken) gave.value;
      buffer_is = gave.buffer_after;
    }
