-- Demand 1: no public entry of this crate asks anything of its caller. `tests/entries` compares the list with the sources.
-- Assumes nothing.
use mathlib.Core.Path.{refl}
use Rattle.laws.specs.Asking.{AsksNothing}
use Rattle.reader.specs.contracts as entry

pub read : AsksNothing entry.read.signature (λ M 𝓤. entry.read.spec)
read M 𝓤 𝓛 mem run κs a = (tt, refl)
