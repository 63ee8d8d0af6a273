-- The decoder reads the header that the definition reads; what its answer comes to is said in `Messages`.
use native.Mathlib.Omega.{arith}
use Rattle.std.proofs.lemmas.Result.{err_from_is_err_and}
use Rattle.message.proofs.PartPlaces.{header_size_lem, frame_size, within}
use Rattle.message.proofs.Messages.{few_decoded, fields_refused, attachment_refused, message_read}
use Rattle.message.proofs.frames.read_message.Goals as goal

pub body_at-body-requires : goal.body_at-body-requires
body_at-body-requires c =
    let header = c.args.header in
    omega (
      arith,
      header_size_lem c.args.kind c.args.frame.now header.header_size header.id header.version c.requires.1,
      frame_size c.args.kind c.args.frame.now header.header_size header.id header.version c.requires.1,
    )

pub returns-in_err-slots : goal.returns-in_err-slots
returns-in_err-slots c =
    let decoded = c.decode.ensures in
    let p = err_from_is_err_and c.from_residual.result c.from_residual.ensures.1 in
    rw (p.1, p.2)
    (fields_refused _ _ _ _ _ _ _ _ _ _ c.requires.0 c.requires.1 c.body_at-body.ensures
    c.schema_number.ensures (decoded.value, decoded.rows_after) _ c.in_err-slots.was)

pub overflow_sub-size : goal.overflow_sub-size
overflow_sub-size c =
    let header = c.args.header in
    (within c.args.kind c.args.frame.now header.header_size header.id header.version c.requires.1 _ c.body_at-body.ensures).1

pub returns-then-size-body : goal.returns-then-size-body
returns-then-size-body c =
    let decoded = c.decode.ensures in
    attachment_refused _ _ _ _ _ _ _ _ _ _ c.requires.0 c.requires.1 c.body_at-body.ensures
    c.schema_number.ensures (decoded.value, decoded.rows_after) _ c.in_ok-slots.was
    c.attachment_size-attachment.ensures c.if-size-body.true c.clear_rows.ensures

pub overflow_cast-count : goal.overflow_cast-count
overflow_cast-count c =
    let decoded = c.decode.ensures in
    omega (
      arith,
      few_decoded _ _ _ _ _ _ _ _ _ _ c.requires.0 c.requires.1 c.body_at-body.ensures
          c.schema_number.ensures (decoded.value, decoded.rows_after) _ c.in_ok-slots.was,
    )

pub returns : goal.returns
returns c =
    let decoded = c.decode.ensures in
    message_read _ _ _ _ _ _ _ _ _ _ c.requires.0 c.requires.1 c.body_at-body.ensures
    c.schema_number.ensures (decoded.value, decoded.rows_after) _ c.in_ok-slots.was
    c.attachment_size-attachment.ensures c.if-size-body.false c.record_of.ensures
