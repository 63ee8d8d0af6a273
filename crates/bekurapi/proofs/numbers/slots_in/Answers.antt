-- Case by case, the definition.
use mathlib.Core.Path.{refl}
use Rattle.bekurapi.proofs.numbers.slots_in.Goals as goal

pub returns-in-Ok : goal.returns-in-Ok
returns-in-Ok c = let is = c.slots_of.ensures in rw c.in-Ok.is (is.1, is.2, is.3, is.4)

pub returns-in-Err : goal.returns-in-Err
returns-in-Err c =
    rw c.in-Err.is (refl, refl, refl, refl)
