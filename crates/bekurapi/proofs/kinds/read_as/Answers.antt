-- What the reader gives, as numbers.
use mathlib.Core.Path.{◌≡◌, refl, ap, ◌∙◌}
use Rattle.std.specs.Prelude.{Result, Ok, Err}
use Rattle.refusals.specs.Refusals.{in_numbers, code_of}
use Rattle.refusals.specs.declared.Refusal.{Refusal}
use Rattle.records.specs.declared.Record.{Record}
use Rattle.message.specs.Spans.{Spans}
use Rattle.bekurapi.specs.Answers.{answer_error}
use Rattle.bekurapi.specs.Numbers.{numbers_of}
use Rattle.bekurapi.proofs.kinds.read_as.Goals as goal

same_error : (answer : Result Record Refusal) → code_of answer ≡ answer_error (in_numbers answer)
same_error (Ok r) = refl
same_error (Err refusal) = refl

pub returns : goal.returns
returns c =
    let read = c.read_spans-reading.ensures in
    record {
      code_is = c.error_of.ensures ∙ same_error _ ∙ ap (λ (x : Spans). answer_error x.answer) read.0;
      rows_are = read.1;
      numbers_are = c.numbers_of.ensures ∙ ap numbers_of read.0;
    }
