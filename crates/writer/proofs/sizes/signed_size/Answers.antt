-- It is 0 where what it is written as is 0.
use Rattle.writer.specs.Straight.{number_size}
use Rattle.writer.proofs.sizes.signed_size.Goals as goal

pub returns : goal.returns
unfolding number_size
returns c = (rw (c.extended.ensures.1, c.extended.ensures.0) at c.varint_size.ensures.0, c.varint_size.ensures.1)
