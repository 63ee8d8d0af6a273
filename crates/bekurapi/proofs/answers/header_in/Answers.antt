-- Case by case, the definition.
use mathlib.Core.Path.{◌≡◌, refl, ◌∙◌}
use Rattle.std.specs.Prelude.{Result, Ok, Err}
use Rattle.std.specs.Result.{result_unwrap_or}
use Rattle.refusals.specs.Refusals.{in_numbers}
use Rattle.refusals.specs.declared.Refusal.{Refusal}
use Rattle.fixed_header.specs.declared.FixedHeader.{FixedHeader}
use Rattle.fixed_header.specs.declared.FrameType.TheVariants as types
use Rattle.bekurapi.specs.Answers.{header_given}
use Rattle.bekurapi.proofs.answers.header_in.Goals as goal

given : (answer : Result FixedHeader Refusal)
    → result_unwrap_or answer (record { frame_type = types.Unary; total = 0; header_size = 0; id = 0; version = 0 })
    ≡ header_given (in_numbers answer)
given (Ok header) = refl
given (Err refusal) = refl

pub returns : goal.returns
returns c = c.unwrap_or.ensures ∙ given c.args.parsed
