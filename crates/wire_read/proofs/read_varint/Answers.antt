-- `read_varint` meets its contract. The loop keeps the groups joined so far, below what the later bytes give (`Joining`); it ends
-- because the part does.
use mathlib.Core.Path.{refl}
use native.Mathlib.Omega.{arith}
use Rattle.wire_read.proofs.Joining.{joining_starts, cut_off, too_big, found, again}
use Rattle.wire_read.proofs.read_varint.Goals as goal

pub loop-i-init : goal.loop-i-init
loop-i-init c =
    joining_starts _ _ _ _ c.part_end-stop.ensures

pub loop-i-preserved : goal.loop-i-preserved
loop-i-preserved c =
    again _ _ _ _ _ _ _ c.loop-i.invariant _ refl c.if-i-stop.false (λ e. omega (arith, e)) c.if-b-lt128.false

pub overflow_shl-value : goal.overflow_shl-value
overflow_shl-value c =
    omega (arith, c.loop-i.invariant.top)

pub returns-then-i-stop : goal.returns-then-i-stop
returns-then-i-stop c =
    cut_off _ _ _ _ _ _ _ c.loop-i.invariant c.if-i-stop.true

pub returns-then-b-gt1 : goal.returns-then-b-gt1
returns-then-b-gt1 c =
    too_big _ _ _ _ _ _ _ c.loop-i.invariant _ refl c.if-i-stop.false (omega arith) c.if-b-gt1.true

pub returns-then-b-lt128 : goal.returns-then-b-lt128
returns-then-b-lt128 c =
    found _ _ _ _ _ _ _ c.loop-i.invariant _ refl c.if-i-stop.false (λ e. omega (arith, e)) c.if-b-lt128.true
