-- Demand 1: no public entry of this crate asks anything of its caller. `tests/entries` compares the list with the sources.
-- Assumes nothing.
use mathlib.Core.Path.{refl}
use Rattle.laws.specs.Asking.{AsksNothing}
use Rattle.refusals.specs.contracts as entry

pub refusal_number : AsksNothing entry.Refusal.number.signature (λ M 𝓤. entry.Refusal.number.spec)
refusal_number M 𝓤 𝓛 mem run κs a = (tt, refl)
