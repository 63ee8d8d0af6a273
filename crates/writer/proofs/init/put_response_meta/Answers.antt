-- One field after the other.
use Rattle.writer.proofs.Stores.{then, told}
use Rattle.writer.proofs.Pieces.{response_meta_is}
use Rattle.writer.proofs.init.put_response_meta.Goals as goal

pub returns : goal.returns
returns c =
    told (response_meta_is _ _ _) (search then)
