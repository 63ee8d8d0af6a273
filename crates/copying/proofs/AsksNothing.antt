-- Demand 1: no public entry of this crate asks anything of its caller. `tests/entries` compares the list with the sources.
-- Assumes nothing.
use mathlib.Core.Path.{refl}
use Rattle.laws.specs.Asking.{AsksNothing}
use Rattle.copying.specs.contracts as entry

pub has_room : AsksNothing entry.has_room.signature (λ M 𝓤. entry.has_room.spec)
has_room M 𝓤 𝓛 mem run κs a = (tt, refl)

pub copy_to : AsksNothing entry.copy_to.signature (λ M 𝓤. entry.copy_to.spec)
copy_to M 𝓤 𝓛 mem run κs a = (tt, refl)

pub copy_short_to : AsksNothing entry.copy_short_to.signature (λ M 𝓤. entry.copy_short_to.spec)
copy_short_to M 𝓤 𝓛 mem run κs a = (tt, refl)
