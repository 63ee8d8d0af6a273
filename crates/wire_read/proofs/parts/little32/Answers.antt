-- `little32` meets its contract. Four bytes, each 256 times the one before.
use native.Mathlib.Omega.{arith}
use Rattle.wire_read.proofs.LittleEndian.{little_four, little_none}
use Rattle.wire_read.proofs.parts.little32.Goals as goal

pub returns : goal.returns
returns c =
    omega (arith, c.from_le_bytes.ensures, little_four c.args.s.now c.args.at 0 c.requires, little_none)
