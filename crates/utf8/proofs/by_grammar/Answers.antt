-- `by_grammar` meets its contract: `Judged` is kept by each way through a turn. Assumes nothing.
use Prim.Native.Nat.{◌+◌}
use mathlib.Core.Path.{refl}
use native.Mathlib.Omega.{arith}
use lib.ListN.{drop}
use Rattle.utf8.proofs.Goes.{next_byte}
use Rattle.utf8.proofs.Judged.{at_end}
use Rattle.utf8.proofs.by_grammar.Goals as goal

pub loop-b-init : goal.loop-b-init
loop-b-init c = record { within = omega arith; same = refl }

pub returns-in_default : goal.returns-in_default
returns-in_default c =
    next_byte _ _ _ _ _ c.loop-b.invariant.same c.loop-b-test.true (c.after.ensures (drop (c.loop-b.b-index + 1) c.args.s.now)) c.in_default.is

pub loop-b-preserved : goal.loop-b-preserved
loop-b-preserved c =
    let rest = drop (c.loop-b.b-index + 1) c.args.s.now in
    record {
      within = omega (arith, c.loop-b-test.true);
      same = next_byte _ _ _ _ _ c.loop-b.invariant.same c.loop-b-test.true (c.after.ensures rest) c.in-Some.is;
    }

pub returns : goal.returns
returns c = at_end c.loop-b.invariant (omega arith)
