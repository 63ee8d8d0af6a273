-- It is written as it is.
use Rattle.writer.specs.Encoding.{wide}
use Rattle.writer.specs.Straight.{number_size}
use Rattle.writer.proofs.sizes.number_size.Goals as goal

pub returns : goal.returns
unfolding number_size wide
returns c = c.varint_size.ensures
