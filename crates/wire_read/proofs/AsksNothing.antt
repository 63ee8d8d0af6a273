-- Demand 1: no public entry of this crate asks anything of its caller. `tests/entries` compares the list with the sources.
-- Assumes nothing.
use mathlib.Core.Path.{refl}
use Rattle.laws.specs.Asking.{AsksNothing}
use Rattle.wire_read.specs.contracts as entry

pub read_varint : AsksNothing entry.read_varint.signature (λ M 𝓤. entry.read_varint.spec)
read_varint M 𝓤 𝓛 mem run κs a = (tt, refl)

pub read_tag : AsksNothing entry.read_tag.signature (λ M 𝓤. entry.read_tag.spec)
read_tag M 𝓤 𝓛 mem run κs a = (tt, refl)

pub read_length : AsksNothing entry.read_length.signature (λ M 𝓤. entry.read_length.spec)
read_length M 𝓤 𝓛 mem run κs a = (tt, refl)

pub skip_field : AsksNothing entry.skip_field.signature (λ M 𝓤. entry.skip_field.spec)
skip_field M 𝓤 𝓛 mem run κs a = (tt, refl)

pub next_field : AsksNothing entry.next_field.signature (λ M 𝓤. entry.next_field.spec)
next_field M 𝓤 𝓛 mem run κs a = (tt, refl)

pub low_u32 : AsksNothing entry.low_u32.signature (λ M 𝓤. entry.low_u32.spec)
low_u32 M 𝓤 𝓛 mem run κs a = (tt, refl)

pub low_i32 : AsksNothing entry.low_i32.signature (λ M 𝓤. entry.low_i32.spec)
low_i32 M 𝓤 𝓛 mem run κs a = (tt, refl)
