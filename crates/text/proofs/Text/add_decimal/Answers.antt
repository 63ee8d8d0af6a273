-- What std prints of a number is its decimal.
use Rattle.std.proofs.Common.{rules}
use Rattle.text.proofs.Decimal.{printed_decimal}
use Rattle.text.proofs.Text.add_decimal.Goals as goal

pub returns : goal.returns
returns c = search (rules, printed_decimal)
