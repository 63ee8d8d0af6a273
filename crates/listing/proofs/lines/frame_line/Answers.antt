-- The parts of the line, one after the other.
use Rattle.std.proofs.Common.{◌≤◌, ◌∙◌, length, arith}
use Rattle.fixed_header.specs.declared.FrameType.{FrameType}
use Rattle.fixed_header.specs.declared.FrameType.TheVariants.{Unary, Init, Data, Feedback, Close}
use Rattle.text.proofs.Adding.{adds_as, adds_few, adds_then}
use Rattle.text.proofs.Decimal.{adds_decimal}
use Rattle.listing.specs.Lines.{type_name}
use Rattle.listing.proofs.lines.frame_line.Goals as goal

short : (t : FrameType) → length (type_name t) ≤ 8
short Unary = omega arith
short Init = omega arith
short Data = omega arith
short Feedback = omega arith
short Close = omega arith

pub returns : goal.returns
returns c =
    let header = c.args.header in
    let number = adds_decimal c.args.count _ _ _ _ (omega arith) (omega arith) c.add_decimal.ensures.text in
    let space = adds_few 1 _ _ _ _ _ (omega arith) (omega arith) c.add_byte.ensures.text in
    let few : length c.type_name.result.now ≤ 8 = rw c.type_name.ensures (short header.frame_type) in
    let name = adds_few 8 c.type_name.result.now _ _ _ _ few (omega arith) c.add.ensures.text in
    let space_2 = adds_few 1 _ _ _ _ _ (omega arith) (omega arith) c.add_byte-2.ensures.text in
    let id = adds_decimal header.id _ _ _ _ (omega arith) (omega arith) c.add_decimal-2.ensures.text in
    let space_3 = adds_few 1 _ _ _ _ _ (omega arith) (omega arith) c.add_byte-3.ensures.text in
    let total = adds_decimal header.total _ _ _ _ (omega arith) (omega arith) c.add_decimal-3.ensures.text in
    let end = adds_few 1 _ _ _ _ _ (omega arith) (omega arith) c.add_byte-4.ensures.text in
    let kind = adds_then (omega arith) (adds_then (omega arith) space.0 (adds_as c.type_name.ensures name.0)) space_2.0 in
    let to_id = adds_then (omega arith) (adds_then (omega arith) number.0 kind) id.0 in
    let to_total = adds_then (omega arith) (adds_then (omega arith) to_id space_3.0) total.0 in
    record {
      adds = adds_then (omega arith) to_total end.0;
      short = omega arith;
      same_length = omega arith;
      same_buffer =
          c.add_byte-4.ensures.same_buffer ∙ c.add_decimal-3.ensures.same_buffer ∙ c.add_byte-3.ensures.same_buffer ∙ c.add_decimal-2.ensures.same_buffer
          ∙ c.add_byte-2.ensures.same_buffer ∙ c.add.ensures.same_buffer ∙ c.add_byte.ensures.same_buffer ∙ c.add_decimal.ensures.same_buffer;
    }
