-- `skip_varint` meets its contract. What is skipped is what `read_varint` read.
use Rattle.wire_read.proofs.Answers.{passed_on, goes_on}
use Rattle.wire_read.proofs.MadeOf.{varint_skipped}
use Rattle.wire_read.proofs.skipping.skip_varint.Goals as goal

pub returns-in_err-v : goal.returns-in_err-v
returns-in_err-v c =
    passed_on c.read_varint.ensures _ (varint_skipped _ _) c.in_err-v.was _ c.from_residual.ensures

pub returns : goal.returns
returns c =
    goes_on c.read_varint.ensures _ (varint_skipped _ _) c.in_ok-v.was
