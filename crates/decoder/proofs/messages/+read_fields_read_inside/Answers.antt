-- `read_fields` and `read_inside` meet their contracts together, by the laws of the loop (`FieldLoop`) and of one field's bytes
-- (`StateLaws`).
use mathlib.Core.Path.{ap, ◌∙◌}
use Rattle.std.proofs.Common.{arith}
use Rattle.std.specs.Prelude.{Ok}
use Rattle.wire_read.proofs.Answers.{found_as, refused_as}
use Rattle.std.proofs.lemmas.Result.{err_from_is_err_and}
use Rattle.decoder.proofs.Targets.{target_is, target_fits}
use Rattle.decoder.proofs.Walk.{varint_bounds, bytes_bounds, bytes_place}
use Rattle.decoder.proofs.RowLaws.{held}
use Rattle.decoder.proofs.StateLaws.{mark_held, inside_bytes, inside_number, inside_unknown, inside_entry, inside_message}
use Rattle.decoder.proofs.FieldLoop.{reading, reading_end, reading_error, reading_varint, reading_passed, reading_taken, reading_refused}
use Rattle.decoder.proofs.messages.+read_fields_read_inside.Goals as goal

pub read_fields-loop-step-init : goal.read_fields-loop-step-init
read_fields-loop-step-init t c =
    let pre = c.requires in
    reading _ _ _ _ _ _ pre.0 pre.1 pre.2 pre.3

pub read_fields-read_inside-requires : goal.read_fields-read_inside-requires
read_fields-read_inside-requires t c =
    let inv = c.loop-step.invariant in
    let bounds = bytes_bounds _ _ _ _ _ _ _ inv.walk (found_as c.step_in.ensures (c.in_ok-step.was ∙ ap Ok c.in-Some.is)) _ _ _ c.in-Bytes.is in (
      omega (arith, c.decreases, inv.from),
      (omega (arith, inv.walk.long), inv.small, held _ _ _ _ inv.holds),
    )

pub read_fields-loop-step-smaller-in-Varint : goal.read_fields-loop-step-smaller-in-Varint
read_fields-loop-step-smaller-in-Varint t c =
    omega (arith, varint_bounds _ _ _ _ _ _ _ c.loop-step.invariant.walk (found_as c.step_in.ensures (c.in_ok-step.was ∙ ap Ok c.in-Some.is)) c.in-Varint.is)

pub read_fields-loop-step-preserved-in-Varint : goal.read_fields-loop-step-preserved-in-Varint
read_fields-loop-step-preserved-in-Varint t c =
    let inv = c.loop-step.invariant in
    let is-s = found_as c.step_in.ensures (c.in_ok-step.was ∙ ap Ok c.in-Some.is) in
    let moves = varint_bounds _ _ _ _ _ _ _ inv.walk is-s c.in-Varint.is in
    reading_varint _ _ _ _ _ _ _ _ _ inv is-s _ _ _ c.in-Varint.is moves.0 _ c.set_number-slots.ensures

pub read_fields-loop-step-smaller : goal.read_fields-loop-step-smaller
read_fields-loop-step-smaller t c =
    omega (arith, reading_passed _ _ _ _ _ _ _ _ _ c.loop-step.invariant (found_as c.step_in.ensures (c.in_ok-step.was ∙ ap Ok c.in-Some.is)) c.in-Fixed64.is)

pub read_fields-loop-step-preserved : goal.read_fields-loop-step-preserved
read_fields-loop-step-preserved t c =
    (reading_passed _ _ _ _ _ _ _ _ _ c.loop-step.invariant (found_as c.step_in.ensures (c.in_ok-step.was ∙ ap Ok c.in-Some.is)) c.in-Fixed64.is).2

pub read_fields-returns : goal.read_fields-returns
read_fields-returns t c =
    reading_end _ _ _ _ _ _ _ _ _ c.loop-step.invariant (found_as c.step_in.ensures (c.in_ok-step.was ∙ ap Ok c.in_default.is))

pub read_fields-returns-in_err-step : goal.read_fields-returns-in_err-step
read_fields-returns-in_err-step t c =
    let p = err_from_is_err_and c.from_residual.result c.from_residual.ensures.1 in
    rw (p.1, p.2)
    (reading_error _ _ _ _ _ _ _ _ _ c.loop-step.invariant _ (refused_as c.step_in.ensures c.in_err-step.was))

pub read_fields-returns-in_err-slots-in-Bytes : goal.read_fields-returns-in_err-slots-in-Bytes
read_fields-returns-in_err-slots-in-Bytes t c =
    let call = c.read_inside in
    let p = err_from_is_err_and c.from_residual-in_err-slots-in-Bytes.result c.from_residual-in_err-slots-in-Bytes.ensures.1 in
    rw (p.1, p.2)
    (reading_refused _ _ _ _ _ _ _ _ _ c.loop-step.invariant (found_as c.step_in.ensures (c.in_ok-step.was ∙ ap Ok c.in-Some.is)) _ _ _ c.in-Bytes.is _ call.new.rows call.ensures
    _ c.in_err-slots-in-Bytes.was)

pub read_fields-loop-step-smaller-in_ok-slots-in-Bytes : goal.read_fields-loop-step-smaller-in_ok-slots-in-Bytes
read_fields-loop-step-smaller-in_ok-slots-in-Bytes t c =
    let inv = c.loop-step.invariant in
    let is-s = found_as c.step_in.ensures (c.in_ok-step.was ∙ ap Ok c.in-Some.is) in
    let found = c.in-Bytes.is in
    omega (arith, bytes_bounds _ _ _ _ _ _ _ inv.walk is-s _ _ _ found, bytes_place _ _ _ _ _ _ _ inv.walk is-s _ _ _ found)

pub read_fields-loop-step-preserved-in_ok-slots-in-Bytes : goal.read_fields-loop-step-preserved-in_ok-slots-in-Bytes
read_fields-loop-step-preserved-in_ok-slots-in-Bytes t c =
    let call = c.read_inside in
    reading_taken _ _ _ _ _ _ _ _ _ c.loop-step.invariant (found_as c.step_in.ensures (c.in_ok-step.was ∙ ap Ok c.in-Some.is)) _ _ _ c.in-Bytes.is _ call.new.rows call.ensures
    _ c.in_ok-slots-in-Bytes.was

pub read_inside-set_bytes-requires : goal.read_inside-set_bytes-requires
read_inside-set_bytes-requires t c =
    (target_fits c.field_target.ensures c.in-Bytes.is, omega (arith, c.requires.0, c.requires.1))

pub read_inside-read_fields-requires : goal.read_inside-read_fields-requires
read_inside-read_fields-requires t c =
    let pre = c.requires in
    (omega (arith, c.decreases), (omega arith, pre.0, pre.1, mark_held c.args.slots c.args.rows.now pre.2 _))

pub read_inside-returns-in-Bytes : goal.read_inside-returns-in-Bytes
read_inside-returns-in-Bytes t c =
    let args = c.args in
    let pre = c.requires in
    inside_bytes args.frame.now args.start args.size args.slots args.rows.now pre.0 _ pre.2 _
    (target_is c.field_target.ensures c.in-Bytes.is) _ c.set_bytes.ensures

pub read_inside-returns-in-Entry : goal.read_inside-returns-in-Entry
read_inside-returns-in-Entry t c =
    let args = c.args in
    let pre = c.requires in
    let call = c.add_entry in
    inside_entry args.frame.now args.start args.size args.slots args.rows.now pre.0 _ _ call.new.rows
    (target_is c.field_target.ensures c.in-Entry.is) call.ensures

pub read_inside-returns-in-Message : goal.read_inside-returns-in-Message
read_inside-returns-in-Message t c =
    let args = c.args in
    let pre = c.requires in
    let is-t = c.field_target.ensures in
    let call = c.read_fields in
    let fits = target_fits is-t c.in-Message.is in
    inside_message args.frame.now args.start args.size args.slots args.rows.now pre.0 _ _ _
    (target_is is-t c.in-Message.is) fits.1 _ call.new.rows call.ensures

pub read_inside-returns-in-Number : goal.read_inside-returns-in-Number
read_inside-returns-in-Number t c =
    let args = c.args in
    let pre = c.requires in
    inside_number args.frame.now args.start args.size args.slots args.rows.now pre.0 _ pre.2 _
    (target_is c.field_target.ensures c.in-Number.is)

pub read_inside-returns-in-Unknown : goal.read_inside-returns-in-Unknown
read_inside-returns-in-Unknown t c =
    let args = c.args in
    let pre = c.requires in
    inside_unknown args.frame.now args.start args.size args.slots args.rows.now pre.0 _ pre.2
    (target_is c.field_target.ensures c.in-Unknown.is)
