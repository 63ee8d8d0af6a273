-- What a header says, as numbers.
use Prim.Native.Nat.{ℕ}
use mathlib.Core.Path.{◌≡◌, refl, ap, ◌∙◌}
use Rattle.std.specs.Prelude.{Result, Ok, Err}
use Rattle.refusals.specs.Refusals.{in_numbers, code_of}
use Rattle.refusals.specs.declared.Refusal.{Refusal}
use Rattle.fixed_header.specs.Put.{stream_type_of}
use Rattle.fixed_header.specs.declared.FixedHeader.{FixedHeader}
use Rattle.fixed_header.specs.declared.FrameType.{FrameType}
use Rattle.fixed_header.specs.declared.FrameType.TheVariants.{Unary, Init, Data, Feedback, Close}
use Rattle.bekurapi.specs.Answers.{type_number, parsed_error, header_given}
use Rattle.bekurapi.proofs.trpc_header_parse.Goals as goal

same_type : (t : FrameType) → stream_type_of t ≡ type_number t
same_type Unary = refl
same_type Init = refl
same_type Data = refl
same_type Feedback = refl
same_type Close = refl

same_error : (answer : Result FixedHeader Refusal) → code_of answer ≡ parsed_error (in_numbers answer)
same_error (Ok header) = refl
same_error (Err refusal) = refl

pub returns : goal.returns
returns c =
    let answer = c.parse_header-answer.ensures in
    let header = c.header_in-header.ensures ∙ ap header_given answer in
    record {
      code_is = c.error_of.ensures ∙ same_error _ ∙ ap parsed_error answer;
      type_is = c.stream_type.ensures ∙ same_type _ ∙ ap (λ (h : FixedHeader). type_number h.frame_type) header;
      total_is = ap (λ (h : FixedHeader). h.total) header;
      header_size_is = ap (λ (h : FixedHeader). h.header_size) header;
      id_is = ap (λ (h : FixedHeader). h.id) header;
      version_is = ap (λ (h : FixedHeader). h.version) header;
    }
