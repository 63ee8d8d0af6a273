-- It is written as its two's complement, which is 0 where it is.
use Rattle.schema.specs.Schema.{int32}
use Rattle.writer.proofs.Pieces.{number_as}
use Rattle.writer.proofs.Stores.{told}
use Rattle.writer.proofs.put.put_signed.Goals as goal

pub put_wide-requires : goal.put_wide-requires
put_wide-requires c =
    (c.requires.0, rw (number_as c.args.number c.requires.0 int32 c.args.bits _ c.extended.ensures.0 c.extended.ensures.1) c.requires.1)

pub returns : goal.returns
returns c =
    told (number_as c.args.number c.requires.0 int32 c.args.bits _ c.extended.ensures.0 c.extended.ensures.1) c.put_wide.ensures
