-- Demand 1: no public entry of this crate asks anything of its caller. `tests/entries` compares the list with the sources.
-- Assumes nothing.
use mathlib.Core.Path.{refl}
use Rattle.laws.specs.Asking.{AsksNothing}
use Rattle.writer_checks.specs.contracts as entry

pub content_error : AsksNothing entry.content_error.signature (λ M 𝓤. entry.content_error.spec)
content_error M 𝓤 𝓛 mem run κs a = (tt, refl)
