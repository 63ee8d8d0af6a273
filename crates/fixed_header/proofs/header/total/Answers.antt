-- The four bytes at place 4.
use Rattle.std.proofs.Common.{rules}
use Rattle.fixed_header.specs.Header.{total_of}
use Rattle.fixed_header.proofs.header.total.Goals as goal

pub returns : goal.returns
unfolding total_of
returns c = search rules
