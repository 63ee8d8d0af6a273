-- What the read came to: it failed, or it was at the end, or some bytes came.
use Rattle.std.proofs.Common.{arith}
use Rattle.listing.specs.Reads.{failed, at_end, came}
use Rattle.listing.proofs.list_next.Goals as goal

pub returns-in-Err : goal.returns-in-Err
returns-in-Err c = (omega arith, failed c.input_failed.ensures.1)

pub returns-then-n-eq0 : goal.returns-then-n-eq0
returns-then-n-eq0 c = (omega (arith, c.list_end.ensures.1), at_end c.list_end.ensures)

pub returns : goal.returns
returns c =
    (omega (arith, c.print.ensures.0), came c.in-Ok.n c.list_piece-listed.ensures.lists_piece c.print.ensures)
