-- `sign_extend` meets its contract. The 64 bits of a number are its two's complement (`SignedLaws`).
use mathlib.Core.Path.{◌∙◌}
use Rattle.wire_write.proofs.SignedLaws.{bits_value}
use Rattle.wire_write.proofs.sign_extend.Goals as goal

pub returns : goal.returns
returns c = c.cast_unsigned.ensures ∙ bits_value c.args.v c.ranges.v
