-- Demand 1: no public entry of this crate asks anything of its caller. `tests/entries` compares the list with the sources.
-- Assumes nothing.
use mathlib.Core.Path.{refl}
use Rattle.laws.specs.Asking.{AsksNothing}
use Rattle.writer.specs.contracts as entry

pub write : AsksNothing entry.write.signature (λ M 𝓤. entry.write.spec)
write M 𝓤 𝓛 mem run κs a = (tt, refl)

pub write_slots : AsksNothing entry.write_slots.signature (λ M 𝓤. entry.write_slots.spec)
write_slots M 𝓤 𝓛 mem run κs a = (tt, refl)
