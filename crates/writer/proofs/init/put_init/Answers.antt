-- The parts, one after the other, are the message.
use Rattle.writer.proofs.Stores.{then, told}
use Rattle.writer.proofs.Pieces.{init_is}
use Rattle.writer.proofs.init.put_init.Goals as goal

pub returns : goal.returns
returns c =
    told (init_is _ _ _) (search then)
