-- The stream's frame is unfinished (`content_more`) or whole (`content_whole`).
use Prim.Native.Nat.{◌-◌}
use native.Mathlib.Omega.{arith}
use lib.ListN.{length, take, drop}
use Rattle.laws.proofs.Lists.{tail_all}
use Rattle.deframer.specs.Deframe.{stream}
use Rattle.deframer.proofs.Advance.{content_more, content_whole}
use Rattle.deframer.proofs.Lists.{stream_length}
use Rattle.deframer.proofs.fill.content.Goals as goal

pub overflow_sub-result : goal.overflow_sub-result
overflow_sub-result c =
    let past = c.args.held - c.args.old in
    let rest = take (length c.args.piece.now - past) (drop past c.args.piece.now) in
    omega (arith, c.fill-filled.ensures.0, stream_length c.args.buffer.now rest c.args.held (omega arith))

pub returns-then-filled-total : goal.returns-then-filled-total
returns-then-filled-total c =
    let l = stream c.args.held c.args.buffer.now (drop (c.args.held - c.args.old) c.args.piece.now) in
    let m = content_more c.args.buffer.now l _ c.args.old _ c.args.total
    (rw tail_all at c.fill-filled.ensures.0) (rw tail_all at c.fill-filled.ensures.1) c.if-filled-total.true in
    record { value = m.0; buffer_after = m.1 }

pub returns : goal.returns
returns c =
    let l = stream c.args.held c.args.buffer.now (drop (c.args.held - c.args.old) c.args.piece.now) in
    let m = content_whole c.args.buffer.now l _ c.args.old _ c.args.total
    (rw tail_all at c.fill-filled.ensures.0) (rw tail_all at c.fill-filled.ensures.1) c.if-filled-total.false in
    record { value = m.0; buffer_after = m.1 }
