-- The line of a clean end.
use Rattle.std.proofs.Common.{sym, ap, arith}
use Rattle.deframer.specs.InNumbers.{end_in_numbers}
use Rattle.deframer.specs.declared.End.{End}
use Rattle.listing.specs.Lines.{end_line}
use Rattle.text.proofs.Adding.{adds_as, adds_few}
use Rattle.listing.proofs.lines.end_line.Goals as goal

pub returns-in-Clean : goal.returns-in-Clean
returns-in-Clean c =
    let line = adds_few 10 _ _ _ _ _ (omega arith) (omega arith) c.add.ensures.text in
    record {
      adds = adds_as (ap (λ (e : End). end_line (end_in_numbers e)) (sym c.in-Clean.is)) line.0;
      short = omega arith;
      same_length = omega arith;
      same_buffer = c.add.ensures.same_buffer;
    }
