-- One field after the other.
use Rattle.writer.proofs.Stores.{then, told}
use Rattle.writer.proofs.Pieces.{request_meta_is}
use Rattle.writer.proofs.init.put_request_meta.Goals as goal

pub returns : goal.returns
returns c =
    told (request_meta_is _ _ _) (search then)
