-- Demand 1: no public entry of this crate asks anything of its caller. `tests/entries` compares the list with the sources.
-- Assumes nothing.
use mathlib.Core.Path.{refl}
use Rattle.laws.specs.Asking.{AsksNothing}
use Rattle.message.specs.contracts as entry

pub read_spans : AsksNothing entry.read_spans.signature (λ M 𝓤. entry.read_spans.spec)
read_spans M 𝓤 𝓛 mem run κs a = (tt, refl)

pub bytes_at : AsksNothing entry.bytes_at.signature (λ M 𝓤. entry.bytes_at.spec)
bytes_at M 𝓤 𝓛 mem run κs a = (tt, refl)
