-- The error of the sizes is that of the message; where there is none, the frame fits.
use mathlib.Core.Path.{refl}
use lib.ListN.{length}
use Rattle.std.proofs.lemmas.Result.{err_from_is_err_and}
use Rattle.refusals.proofs.Answers.{number_not_0}
use Rattle.writer.specs.Straight.{message_bytes}
use Rattle.writer.proofs.Refusals.{refused_size, framed}
use Rattle.writer.proofs.Frames.{of_message, ready}
use Rattle.writer.proofs.encode.write_frame.Goals as goal

pub returns-in_err-fits : goal.returns-in_err-fits
returns-in_err-fits c =
    let p = err_from_is_err_and c.from_residual.result c.from_residual.ensures.1 in
    rw (p.1, p.2)
    (refused_size c.args.ceiling c.args.m.now.kind c.args.id c.args.version (message_bytes c.args.m.now.kind c.args.m.now.slots.now c.args.m.now.rows.now c.args.m.now.source.now) c.args.body.now c.args.out.now _
    (of_message c.args.m.now.kind c.args.m.now.slots.now c.args.m.now.rows.now c.args.m.now.source.now c.args.m.now.rows_in c.args.m.now.spans_in
    (length c.args.body.now) (length c.args.out.now) c.args.ceiling c.in_err-fits.ensures)
    (number_not_0 _))

pub put_frame-requires : goal.put_frame-requires
put_frame-requires c =
    ready c.args.m.now.kind c.args.m.now.slots.now c.args.m.now.rows.now c.args.m.now.source.now c.args.m.now.rows_in c.args.m.now.spans_in
    (length c.args.body.now) (length c.args.out.now) c.args.ceiling c.in_ok-fits.ensures c.requires refl

pub returns : goal.returns
returns c =
    framed c.args.ceiling c.args.m.now.kind c.args.id c.args.version (message_bytes c.args.m.now.kind c.args.m.now.slots.now c.args.m.now.rows.now c.args.m.now.source.now) c.args.body.now c.args.out.now _
    (of_message c.args.m.now.kind c.args.m.now.slots.now c.args.m.now.rows.now c.args.m.now.source.now c.args.m.now.rows_in c.args.m.now.spans_in
    (length c.args.body.now) (length c.args.out.now) c.args.ceiling c.in_ok-fits.ensures)
    refl c.put_frame.ensures
