-- `low_i32` meets its contract. The low 32 bits, read as a signed number, are the two's complement (`SignedLaws`).
use mathlib.Core.Path.{ap, ◌∙◌}
use native.Mathlib.Omega.{arith}
use mir.Syntax.{w32}
use Rattle.std.proofs.lemmas.Int.{of_z-to_z}
use Rattle.wire_read.specs.Varint.{twos_complement}
use Rattle.wire_read.proofs.SignedLaws.{signed_is}
use Rattle.wire_read.proofs.low_i32.Goals as goal

pub returns : goal.returns
returns c =
    let low = c.low_u32.result in
    rw (c.cast_signed.ensures, of_z-to_z w32 low (omega (arith, c.low_u32.ensures)))
    (signed_is low ∙ ap twos_complement c.low_u32.ensures)
