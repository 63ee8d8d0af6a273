-- Demand 1: no public entry of this crate asks anything of its caller. `tests/entries` compares the list with the sources.
-- Assumes nothing.
use mathlib.Core.Path.{refl}
use Rattle.laws.specs.Asking.{AsksNothing}
use Rattle.schema.specs.contracts as entry

pub schema_number : AsksNothing entry.schema_number.signature (λ M 𝓤. entry.schema_number.spec)
schema_number M 𝓤 𝓛 mem run κs a = (tt, refl)

pub field_target : AsksNothing entry.field_target.signature (λ M 𝓤. entry.field_target.spec)
field_target M 𝓤 𝓛 mem run κs a = (tt, refl)

pub message_schema : AsksNothing entry.message_schema.signature (λ M 𝓤. entry.message_schema.spec)
message_schema M 𝓤 𝓛 mem run κs a = (tt, refl)
