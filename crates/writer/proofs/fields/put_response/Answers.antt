-- The parts, one after the other, are the message.
use Rattle.writer.proofs.Stores.{then, told}
use Rattle.writer.proofs.Pieces.{response_is}
use Rattle.writer.proofs.fields.put_response.Goals as goal

pub returns : goal.returns
returns c =
    told (response_is _ _ _) (search then)
