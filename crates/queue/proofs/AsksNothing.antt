-- Demand 1: no public entry of this crate asks anything of its caller. `tests/entries` compares the list with the sources.
-- Assumes nothing.
use mathlib.Core.Path.{refl}
use Rattle.laws.specs.Asking.{AsksNothing}
use Rattle.queue.specs.contracts as entry

pub job_of : AsksNothing entry.job_of.signature (λ M 𝓤. entry.job_of.spec)
job_of M 𝓤 𝓛 mem run κs a = (tt, refl)

pub empty : AsksNothing entry.empty.signature (λ M 𝓤. entry.empty.spec)
empty M 𝓤 𝓛 mem run κs a = (tt, refl)

pub add : AsksNothing entry.add.signature (λ M 𝓤. entry.add.spec)
add M 𝓤 𝓛 mem run κs a = (tt, refl)

pub take : AsksNothing entry.take.signature (λ M 𝓤. entry.take.spec)
take M 𝓤 𝓛 mem run κs a = (tt, refl)

pub cancel : AsksNothing entry.cancel.signature (λ M 𝓤. entry.cancel.spec)
cancel M 𝓤 𝓛 mem run κs a = (tt, refl)
