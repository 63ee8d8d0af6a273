-- `from` meets its contract: each number's wire type is the definition's.
use Prim.Native.Nat.{ℕ, suc, ◌-◌}
use mathlib.Core.Path.{◌≡◌, sym, ap}
use native.Mathlib.Omega.{arith}
use Rattle.wire_read.specs.Tags.{reserved, wire_type}
use Rattle.wire_read.proofs.wire_types.WireTypeFromU32.from.Goals as goal

from_six : (w k : ℕ) → w ≡ suc (suc (suc (suc (suc (suc k))))) → reserved ≡ wire_type w
unfolding wire_type
from_six w k e = rw e

pub returns-in-0 : goal.returns-in-0
unfolding wire_type
returns-in-0 c = ap wire_type (sym c.in-0.is)

pub returns-in-1 : goal.returns-in-1
unfolding wire_type
returns-in-1 c = ap wire_type (sym c.in-1.is)

pub returns-in-2 : goal.returns-in-2
unfolding wire_type
returns-in-2 c = ap wire_type (sym c.in-2.is)

pub returns-in-3 : goal.returns-in-3
unfolding wire_type
returns-in-3 c = ap wire_type (sym c.in-3.is)

pub returns-in-4 : goal.returns-in-4
unfolding wire_type
returns-in-4 c = ap wire_type (sym c.in-4.is)

pub returns-in-5 : goal.returns-in-5
unfolding wire_type
returns-in-5 c = ap wire_type (sym c.in-5.is)

pub returns-in_default : goal.returns-in_default
returns-in_default c = from_six c.args.number (c.args.number - 6) (omega arith)
