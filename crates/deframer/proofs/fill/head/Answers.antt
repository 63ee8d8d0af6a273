-- The stream has no 16 bytes yet (`head_short`), a bad header (`head_bad`), or goes on after a good one (`head_on`).
use mathlib.Core.Path.{sym, ap, ◌∙◌}
use native.Mathlib.Omega.{arith}
use Prim.Native.Nat.{◌-◌, ◌≤◌}
use lib.ListN.{length, take, drop}
use lib.Seq.{length-take-le}
use Rattle.refusals.specs.Refusals.{code_of}
use Rattle.refusals.proofs.Answers.{number_not_0}
use Rattle.fixed_header.proofs.Codes.{good_total, declared}
use Rattle.deframer.specs.Deframe.{stream}
use Rattle.deframer.proofs.Advance.{begins, content_moved, head_short, head_bad, head_room, head_on}
use Rattle.deframer.proofs.Lists.{stream_length}
use Rattle.deframer.proofs.fill.head.Goals as goal

pub overflow_sub-result : goal.overflow_sub-result
overflow_sub-result c =
    omega (arith, c.fill-filled.ensures.0, stream_length c.args.buffer.now c.args.piece.now c.args.held (omega arith))

pub returns-then-filled-lt-HEADER : goal.returns-then-filled-lt-HEADER
returns-then-filled-lt-HEADER c =
    let filled = c.fill-filled.ensures in
    let m = head_short c.args.ceiling c.args.buffer.now c.args.piece.now _ c.args.held _ (omega arith) c.requires.2 filled.0 filled.1
    c.if-filled-lt-HEADER.true in
    record { value = m.0; buffer_after = m.1 }

pub slice_bounds-check_header-end-2 : goal.slice_bounds-check_header-end-2
slice_bounds-check_header-end-2 c =
    sym (length-take-le 16 c.fill-filled.new.buffer (omega (arith, c.fill-filled.auto.buffer)))

pub returns-in-Err : goal.returns-in-Err
returns-in-Err c =
    let filled = c.fill-filled.ensures in
    let m = head_bad c.args.ceiling c.args.buffer.now c.args.piece.now _ c.args.held _ (omega arith) c.requires.2 filled.0 filled.1
    c.if-filled-lt-HEADER.false _ c.in-Err.ensures (number_not_0 c.in-Err.refusal) in
    rw c.number.ensures (record { value = m.0; buffer_after = m.1 })

pub content-requires : goal.content-requires
content-requires c =
    let filled = c.fill-filled.ensures in
    let ys = c.fill-filled.new.buffer in
    let big : c.args.ceiling ≤ length ys = omega (arith, c.fill-filled.auto.buffer) in
    let good = sym c.check_header-checked.ensures ∙ ap code_of c.in-Ok.is in
    let is = c.declared_size-total.ensures ∙ declared ys (omega arith) in
    let total = good_total c.args.ceiling (take 16 ys) good in (
      omega (arith, is, total),
      omega (arith, is, total),
      omega arith,
      head_room c.args.ceiling c.args.buffer.now c.args.piece.now _ c.args.held _ (omega arith) c.requires.2
          filled.0 filled.1 c.if-filled-lt-HEADER.false,
    )

pub returns-in-Ok : goal.returns-in-Ok
returns-in-Ok c =
    let filled = c.fill-filled.ensures in
    let ys = c.fill-filled.new.buffer in
    let rest = drop (16 - c.args.held) c.args.piece.now in
    let size = c.declared_size-total.result in
    let big : 16 ≤ length ys = omega (arith, c.fill-filled.auto.buffer) in
    let good = sym c.check_header-checked.ensures ∙ ap code_of c.in-Ok.is in
    let is = c.declared_size-total.ensures ∙ declared ys big in
    let begun = begins c.args.ceiling ys rest 16 size (omega arith) big good is in
    let m = head_on c.args.ceiling c.args.buffer.now c.args.piece.now _ c.args.held _ (omega arith) c.requires.2 filled.0 filled.1
    c.if-filled-lt-HEADER.false _ _
    (content_moved c.args.ceiling size _ _ ys (stream 16 ys rest) c.args.held begun.0 begun.1 begun.2
    (c.content.ensures.value, c.content.ensures.buffer_after)) in
    record { value = m.0; buffer_after = m.1 }
