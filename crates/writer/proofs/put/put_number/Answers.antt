-- It is written as it is.
use mathlib.Core.Path.{refl}
use Rattle.schema.specs.Schema.{uint32}
use Rattle.writer.specs.Encoding.{wide}
use Rattle.writer.proofs.Pieces.{number_as}
use Rattle.writer.proofs.Stores.{told}
use Rattle.writer.proofs.put.put_number.Goals as goal

pub put_wide-requires : goal.put_wide-requires
unfolding wide
put_wide-requires c = (c.requires.0, rw (number_as c.args.number c.requires.0 uint32 c.args.v c.args.v refl refl) c.requires.1)

pub returns : goal.returns
unfolding wide
returns c = told (number_as c.args.number c.requires.0 uint32 c.args.v c.args.v refl refl) c.put_wide.ensures
