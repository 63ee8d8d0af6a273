-- The tag, then the varint after it.
use Rattle.writer.proofs.Stores.{byte, then}
use Rattle.writer.proofs.put.put_head.Goals as goal

pub returns : goal.returns
returns c =
    then (byte c.args.tag c.args.out.now c.args.at) c.put_varint.ensures
