-- The message and the body, and the 16 bytes in front of them.
use Rattle.writer.specs.Straight.{message_bytes}
use Rattle.writer.proofs.Frames.{framed_message}
use Rattle.writer.proofs.encode.put_frame.Goals as goal

pub returns : goal.returns
returns c =
    framed_message c.args.m.now.kind c.args.id c.args.version
    (message_bytes c.args.m.now.kind c.args.m.now.slots.now c.args.m.now.rows.now c.args.m.now.source.now) c.args.body.now
    c.args.out.now c.requires.1 c.put-end.ensures c.put_body-total.ensures
    _ c.frame_type-header_type.ensures _ c.header_size.ensures c.put_header.ensures.1
