-- `little64` meets its contract. Eight bytes, each 256 times the one before.
use native.Mathlib.Omega.{arith}
use Rattle.wire_read.proofs.LittleEndian.{little_eight}
use Rattle.wire_read.proofs.parts.little64.Goals as goal

pub returns : goal.returns
returns c =
    omega (arith, c.from_le_bytes.ensures, little_eight c.args.s.now c.args.at c.requires)
