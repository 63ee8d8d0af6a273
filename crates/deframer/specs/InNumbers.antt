-- The code's answers, whose refusals have names, in the papers' numbers. "For an answer that is an enum, a definition gives this paper's
-- number and values for each of its cases."
-- Assumes nothing: these are definitions.
use Rattle.refusals.specs.Refusals.{number}
use Rattle.deframer.specs.Progress.{Progress, Frame, NeedMore, Refused}
use Rattle.deframer.specs.End.{End}
use Rattle.deframer.specs.End as end
use Rattle.deframer.specs.Step.{Step}
use Rattle.deframer.specs.declared.Progress as code_progress
use Rattle.deframer.specs.declared.Progress.TheVariants as progress
use Rattle.deframer.specs.declared.End as code_end
use Rattle.deframer.specs.declared.End.TheVariants as ends
use Rattle.deframer.specs.declared.Step as code_step

abbrev pub progress_in_numbers : code_progress.Progress → Progress
progress_in_numbers (progress.Frame size) = Frame size
progress_in_numbers progress.NeedMore = NeedMore
progress_in_numbers (progress.Refused refusal) = Refused (number refusal)

abbrev pub step_in_numbers : code_step.Step → Step
step_in_numbers step = record { progress = progress_in_numbers step.progress; next = step.next; taken = step.taken }

abbrev pub end_in_numbers : code_end.End → End
end_in_numbers ends.Clean = end.Clean
end_in_numbers (ends.Short count) = end.Short count
end_in_numbers (ends.Refused refusal) = end.Refused (number refusal)
