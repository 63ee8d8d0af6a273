-- A field is left out, or is its tag and its varint.
use native.Mathlib.Omega.{arith}
use borrow.Author.Tests.{eq-eqb, ne_eqb}
use Rattle.writer.proofs.Stores.{none}
use Rattle.writer.proofs.put.put_wide.Goals as goal

pub returns-then-v-eq0 : goal.returns-then-v-eq0
returns-then-v-eq0 c = rw (eq-eqb _ 0 c.if-v-eq0.true) (none c.args.out.now c.args.at)

pub put_head-requires : goal.put_head-requires
put_head-requires c = omega (arith, rw (ne_eqb _ 0 c.if-v-eq0.false) at c.requires.1)

pub returns : goal.returns
returns c = rw (ne_eqb _ 0 c.if-v-eq0.false) c.put_head.ensures
