-- All of the piece went in (`fill_all`), or as much as there was room for (`fill_some`).
use Prim.Native.Nat.{◌-◌}
use mathlib.Core.Path.{sym}
use native.Mathlib.Omega.{arith}
use lib.Seq.{length-take-le}
use Rattle.deframer.proofs.Lists.{fill_all, fill_some}
use Rattle.deframer.proofs.fill.fill.Goals as goal

pub returns-then-piece-room : goal.returns-then-piece-room
returns-then-piece-room c =
    fill_all c.args.buffer.now c.args.piece.now _ c.args.held c.args.goal c.requires.0 c.requires.1
    (omega arith) c.put.ensures

pub slice_bounds-put-end : goal.slice_bounds-put-end
slice_bounds-put-end c =
    sym (length-take-le _ c.args.piece.now (omega arith))

pub put-requires-2 : goal.put-requires-2
put-requires-2 c =
    omega (arith, length-take-le (c.args.goal - c.args.held) c.args.piece.now (omega arith))

pub returns : goal.returns
returns c =
    fill_some c.args.buffer.now c.args.piece.now _ c.args.held c.args.goal c.requires.0 c.requires.1
    (omega arith) c.put-2.ensures
