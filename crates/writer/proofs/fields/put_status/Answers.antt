-- One field after the other.
use native.Mathlib.Omega.{arith}
use Rattle.writer.proofs.Stores.{then}
use Rattle.writer.proofs.fields.put_status.Goals as goal

pub returns : goal.returns
returns c =
    (search then, omega arith)
