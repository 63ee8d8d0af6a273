-- The word, the number and the line's end, one after the other.
use Rattle.std.proofs.Common.{◌∙◌, arith}
use Rattle.text.proofs.Adding.{adds_few, adds_then}
use Rattle.text.proofs.Decimal.{adds_decimal}
use Rattle.listing.proofs.lines.counted.Goals as goal

pub returns : goal.returns
returns c =
    let word = adds_few 20 c.args.word.now _ _ _ _ (omega arith) (omega arith) c.add.ensures.text in
    let number = adds_decimal c.args.n _ _ _ _ (omega arith) (omega arith) c.add_decimal.ensures.text in
    let end = adds_few 1 _ _ _ _ _ (omega arith) (omega arith) c.add-2.ensures.text in
    record {
      adds = adds_then (omega arith) (adds_then (omega arith) word.0 number.0) end.0;
      short = omega arith;
      same_length = omega arith;
      same_buffer = c.add-2.ensures.same_buffer ∙ c.add_decimal.ensures.same_buffer ∙ c.add.ensures.same_buffer;
    }
