-- A field is left out, or written whole.
use Rattle.writer.proofs.Pieces.{some_out, some_in}
use Rattle.writer.proofs.Stores.{none}
use Rattle.writer.proofs.put.put_some.Goals as goal

pub returns-then-size-eq0 : goal.returns-then-size-eq0
returns-then-size-eq0 c =
    rw (some_out _ c.args.source.now c.args.start c.args.size c.if-size-eq0.true) (none c.args.out.now c.args.at)

pub put_bytes-requires : goal.put_bytes-requires
put_bytes-requires c =
    let same = some_in c.args.number c.args.source.now c.args.start c.args.size c.requires.1 c.if-size-eq0.false in
    (c.requires.0, c.requires.1, rw same at c.requires.2)

pub returns : goal.returns
returns c =
    rw (some_in _ c.args.source.now c.args.start c.args.size c.requires.1 c.if-size-eq0.false) c.put_bytes.ensures
