-- Demand 1: no public entry of this crate asks anything of its caller. `tests/entries` compares the list with the sources.
-- Assumes nothing.
use mathlib.Core.Path.{refl}
use Rattle.laws.specs.Asking.{AsksNothing}
use Rattle.utf8.specs.contracts as entry

pub is_ascii : AsksNothing entry.is_ascii.signature (λ M 𝓤. entry.is_ascii.spec)
is_ascii M 𝓤 𝓛 mem run κs a = (tt, refl)

pub is_utf8 : AsksNothing entry.is_utf8.signature (λ M 𝓤. entry.is_utf8.spec)
is_utf8 M 𝓤 𝓛 mem run κs a = (tt, refl)
