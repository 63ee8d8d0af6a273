-- The two halves of 16 bits, as one number.
use Prim.Native.Nat.{◌+◌}
use mathlib.Core.Path.{◌≡◌}
use native.Mathlib.Omega.{arith}
use Rattle.fixed_header.specs.Header.{be16_of, be32_of}
use Rattle.fixed_header.proofs.header.be32.Goals as goal

pub returns : goal.returns
unfolding be32_of be16_of
returns c =
    let last : c.args.at + 2 + 1 ≡ c.args.at + 3 = omega arith in rw last (omega arith)
