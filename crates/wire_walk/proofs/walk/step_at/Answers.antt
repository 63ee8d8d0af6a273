-- `step_at` meets its contract. In each case the answer names the place after it.
use mathlib.Core.Path.{ap, ◌∙◌}
use native.Mathlib.Omega.{arith}
use Rattle.std.specs.Prelude.{Some, Ok}
use Rattle.wire_read.proofs.Answers.{found_as, passed_on, goes_on}
use Rattle.wire_walk.proofs.StepLaws.{step_made, bytes_within}
use Rattle.wire_walk.proofs.walk.step_at.Goals as goal

pub returns-in_err-field : goal.returns-in_err-field
returns-in_err-field c =
    passed_on c.next_field.ensures _ (step_made _ _) c.in_err-field.was _ c.from_residual.ensures

pub returns-in_default : goal.returns-in_default
returns-in_default c =
    goes_on c.next_field.ensures _ (step_made _ _) (c.in_ok-field.was ∙ ap Ok c.in_default.is)

pub overflow_add-next : goal.overflow_add-next
overflow_add-next c =
    let is = c.in_ok-field.was ∙ ap Ok (c.in-Some.is ∙ ap Some c.in-Bytes.is) in
    omega (arith, bytes_within c.args.bytes.now c.args.at (found_as c.next_field.ensures is))

pub returns-in-Varint : goal.returns-in-Varint
returns-in-Varint c =
    goes_on c.next_field.ensures _ (step_made _ _) (c.in_ok-field.was ∙ ap Ok (c.in-Some.is ∙ ap Some c.in-Varint.is))

pub returns-in-Fixed64 : goal.returns-in-Fixed64
returns-in-Fixed64 c =
    goes_on c.next_field.ensures _ (step_made _ _) (c.in_ok-field.was ∙ ap Ok (c.in-Some.is ∙ ap Some c.in-Fixed64.is))

pub returns-in-Bytes : goal.returns-in-Bytes
returns-in-Bytes c =
    goes_on c.next_field.ensures _ (step_made _ _) (c.in_ok-field.was ∙ ap Ok (c.in-Some.is ∙ ap Some c.in-Bytes.is))

pub returns-in-Group : goal.returns-in-Group
returns-in-Group c =
    goes_on c.next_field.ensures _ (step_made _ _) (c.in_ok-field.was ∙ ap Ok (c.in-Some.is ∙ ap Some c.in-Group.is))

pub returns-in-Fixed32 : goal.returns-in-Fixed32
returns-in-Fixed32 c =
    goes_on c.next_field.ensures _ (step_made _ _) (c.in_ok-field.was ∙ ap Ok (c.in-Some.is ∙ ap Some c.in-Fixed32.is))
