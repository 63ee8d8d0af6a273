-- The two bytes at place 8.
use native.Mathlib.Omega.{arith}
use Rattle.fixed_header.specs.Header.{be16_of, header_size_of}
use Rattle.fixed_header.proofs.header.header_size.Goals as goal

pub returns : goal.returns
unfolding header_size_of be16_of
returns c = (omega arith, omega arith)
