-- Demand 1: no public entry of this crate asks anything of its caller. `tests/entries` compares the list with the sources.
-- Assumes nothing.
use mathlib.Core.Path.{refl}
use Rattle.laws.specs.Asking.{AsksNothing}
use Rattle.deframer.specs.contracts as entry

pub deframe : AsksNothing entry.deframe.signature (λ M 𝓤. entry.deframe.spec)
deframe M 𝓤 𝓛 mem run κs a = (tt, refl)

pub finish : AsksNothing entry.finish.signature (λ M 𝓤. entry.finish.spec)
finish M 𝓤 𝓛 mem run κs a = (tt, refl)
