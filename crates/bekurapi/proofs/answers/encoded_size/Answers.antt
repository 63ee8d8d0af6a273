-- Case by case, the definition.
use mathlib.Core.Path.{refl}
use Rattle.writer.specs.Writing.{count_of}
use Rattle.bekurapi.proofs.answers.encoded_size.Goals as goal

pub returns-in-Ok : goal.returns-in-Ok
unfolding count_of
returns-in-Ok c = rw c.in-Ok.is refl

pub returns-in-Err : goal.returns-in-Err
unfolding count_of
returns-in-Err c = rw c.in-Err.is refl
