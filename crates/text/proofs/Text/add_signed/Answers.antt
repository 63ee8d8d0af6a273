-- What std prints of the signed number with these bits.
use Rattle.std.proofs.Common.{rules}
use Rattle.text.proofs.Decimal.{printed_signed}
use Rattle.text.proofs.Text.add_signed.Goals as goal

pub returns : goal.returns
returns c = search (rules, printed_signed)
