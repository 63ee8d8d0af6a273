-- `skip_bytes` meets its contract. What is skipped is the length and the bytes that `read_length` found.
use native.Mathlib.Omega.{arith}
use Rattle.wire_read.proofs.Answers.{found_as, passed_on, goes_on}
use Rattle.wire_read.proofs.Places.{bytes_place}
use Rattle.wire_read.proofs.MadeOf.{bytes_skipped}
use Rattle.wire_read.proofs.skipping.skip_bytes.Goals as goal

pub returns-in_err-l : goal.returns-in_err-l
returns-in_err-l c =
    passed_on c.read_length.ensures _ (bytes_skipped _ _) c.in_err-l.was _ c.from_residual.ensures

pub overflow_add-result : goal.overflow_add-result
overflow_add-result c =
    omega (arith, bytes_place _ _ _ (found_as c.read_length.ensures c.in_ok-l.was))

pub returns : goal.returns
returns c =
    goes_on c.read_length.ensures _ (bytes_skipped _ _) c.in_ok-l.was
