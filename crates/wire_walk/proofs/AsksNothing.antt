-- Demand 1: no public entry of this crate asks anything of its caller. `tests/entries` compares the list with the sources.
-- Assumes nothing.
use mathlib.Core.Path.{refl}
use Rattle.laws.specs.Asking.{AsksNothing}
use Rattle.wire_walk.specs.contracts as entry

pub reader_new : AsksNothing entry.FieldReader.new.signature (λ M 𝓤. entry.FieldReader.new.spec)
reader_new M 𝓤 𝓛 mem run κs a = (tt, refl)

pub reader_next : AsksNothing entry.FieldReader.next.signature (λ M 𝓤. entry.FieldReader.next.spec)
reader_next M 𝓤 𝓛 mem run κs a = (tt, refl)

pub reader_place : AsksNothing entry.FieldReader.place.signature (λ M 𝓤. entry.FieldReader.place.spec)
reader_place M 𝓤 𝓛 mem run κs a = (tt, refl)

pub field_at : AsksNothing entry.field_at.signature (λ M 𝓤. entry.field_at.spec)
field_at M 𝓤 𝓛 mem run κs a = (tt, refl)

pub last_field : AsksNothing entry.last_field.signature (λ M 𝓤. entry.last_field.spec)
last_field M 𝓤 𝓛 mem run κs a = (tt, refl)
