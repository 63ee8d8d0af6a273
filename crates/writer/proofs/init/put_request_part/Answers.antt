-- It is left out, or its tag and its size are stored, and its fields after them.
use mathlib.Core.Path.{sym}
use borrow.Author.Tests.{eq-eqb}
use native.Mathlib.Omega.{arith}
use Rattle.writer.specs.Straight.{fours}
use Rattle.writer.proofs.Stores.{none, then, told}
use Rattle.writer.proofs.Parts.{request_whole, request_room}
use Rattle.writer.proofs.init.put_request_part.Goals as goal

pub returns-then-n-eq0 : goal.returns-then-n-eq0
returns-then-n-eq0 c =
    rw (eq-eqb _ 0 c.if-n-eq0.true) (none c.args.out.now c.args.at)

pub put_head-inside-requires : goal.put_head-inside-requires
put_head-inside-requires c =
    omega (
      arith,
      request_room c.args.m.now.slots.now (fours c.args.m.now.rows.now) c.args.m.now.source.now c.args.m.now.rows_in c.requires.0
          c.if-n-eq0.false _ c.request_meta_size-size.ensures.0,
      c.requires.1,
    )

pub put_request_meta-requires : goal.put_request_meta-requires
put_request_meta-requires c =
    let room = request_room c.args.m.now.slots.now (fours c.args.m.now.rows.now) c.args.m.now.source.now c.args.m.now.rows_in c.requires.0
    c.if-n-eq0.false _ c.request_meta_size-size.ensures.0 in
    (c.requires.0, omega (arith, room))

pub returns : goal.returns
returns c =
    told (sym (request_whole c.args.m.now.slots.now (fours c.args.m.now.rows.now) c.args.m.now.source.now c.args.m.now.rows_in c.requires.0
    c.if-n-eq0.false _ c.request_meta_size-size.ensures.0))
    (then c.put_head-inside.ensures c.put_request_meta.ensures)
