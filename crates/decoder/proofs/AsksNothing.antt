-- Demand 1: no public entry of this crate asks anything of its caller. `tests/entries` compares the list with the sources.
-- Assumes nothing.
use mathlib.Core.Path.{refl}
use Rattle.laws.specs.Asking.{AsksNothing}
use Rattle.decoder.specs.contracts as entry

pub decode : AsksNothing entry.decode.signature (λ M 𝓤. entry.decode.spec)
decode M 𝓤 𝓛 mem run κs a = (tt, refl)

pub clear_rows : AsksNothing entry.clear_rows.signature (λ M 𝓤. entry.clear_rows.spec)
clear_rows M 𝓤 𝓛 mem run κs a = (tt, refl)

pub same_key : AsksNothing entry.same_key.signature (λ M 𝓤. entry.same_key.spec)
same_key M 𝓤 𝓛 mem run κs a = (tt, refl)

pub find_key : AsksNothing entry.find_key.signature (λ M 𝓤. entry.find_key.spec)
find_key M 𝓤 𝓛 mem run κs a = (tt, refl)
