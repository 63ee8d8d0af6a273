-- Demand 1: no public entry of this crate asks anything of its caller. `tests/entries` compares the list with the sources.
-- Assumes nothing.
use mathlib.Core.Path.{refl}
use Rattle.laws.specs.Asking.{AsksNothing}
use Rattle.test_cases.specs.contracts as entry

pub read_part : AsksNothing entry.read_part.signature (λ M 𝓤. entry.read_part.spec)
read_part M 𝓤 𝓛 mem run κs a = (tt, refl)
