-- It is left out, or its tag and its size are stored, and its fields after them.
use mathlib.Core.Path.{sym}
use borrow.Author.Tests.{eq-eqb}
use native.Mathlib.Omega.{arith}
use Rattle.writer.specs.Straight.{fours}
use Rattle.writer.proofs.Stores.{none, then, told}
use Rattle.writer.proofs.Parts.{response_whole, response_room}
use Rattle.writer.proofs.init.put_response_part.Goals as goal

pub returns-then-n-eq0 : goal.returns-then-n-eq0
returns-then-n-eq0 c =
    rw (eq-eqb _ 0 c.if-n-eq0.true) (none c.args.out.now c.args.at)

pub put_head-inside-requires : goal.put_head-inside-requires
put_head-inside-requires c =
    omega (
      arith,
      response_room c.args.m.now.slots.now (fours c.args.m.now.rows.now) c.args.m.now.source.now c.args.m.now.rows_in c.requires.0
          c.if-n-eq0.false _ c.response_meta_size-size.ensures.0,
      c.requires.1,
    )

pub put_response_meta-requires : goal.put_response_meta-requires
put_response_meta-requires c =
    let room = response_room c.args.m.now.slots.now (fours c.args.m.now.rows.now) c.args.m.now.source.now c.args.m.now.rows_in c.requires.0
    c.if-n-eq0.false _ c.response_meta_size-size.ensures.0 in
    (c.requires.0, omega (arith, room))

pub returns : goal.returns
returns c =
    told (sym (response_whole c.args.m.now.slots.now (fours c.args.m.now.rows.now) c.args.m.now.source.now c.args.m.now.rows_in c.requires.0
    c.if-n-eq0.false _ c.response_meta_size-size.ensures.0))
    (then c.put_head-inside.ensures c.put_response_meta.ensures)
