-- `write_raw` has room.
use mathlib.Core.Path.{refl}
use Rattle.writer.proofs.Stores.{did}
use Rattle.writer.proofs.encode.put_body.Goals as goal

pub returns : goal.returns
returns c =
    did c.requires refl c.write_raw.ensures.1
