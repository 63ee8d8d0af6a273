-- Demand 1: no public entry of this crate asks anything of its caller. `tests/entries` compares the list with the sources.
-- Assumes nothing.
use mathlib.Core.Path.{refl}
use Rattle.laws.specs.Asking.{AsksNothing}
use Rattle.wire_write.specs.contracts as entry

pub sign_extend : AsksNothing entry.sign_extend.signature (λ M 𝓤. entry.sign_extend.spec)
sign_extend M 𝓤 𝓛 mem run κs a = (tt, refl)

pub varint_len : AsksNothing entry.varint_len.signature (λ M 𝓤. entry.varint_len.spec)
varint_len M 𝓤 𝓛 mem run κs a = (tt, refl)

pub write_varint : AsksNothing entry.write_varint.signature (λ M 𝓤. entry.write_varint.spec)
write_varint M 𝓤 𝓛 mem run κs a = (tt, refl)

pub write_tag : AsksNothing entry.write_tag.signature (λ M 𝓤. entry.write_tag.spec)
write_tag M 𝓤 𝓛 mem run κs a = (tt, refl)

pub write_raw : AsksNothing entry.write_raw.signature (λ M 𝓤. entry.write_raw.spec)
write_raw M 𝓤 𝓛 mem run κs a = (tt, refl)

pub write_bytes : AsksNothing entry.write_bytes.signature (λ M 𝓤. entry.write_bytes.spec)
write_bytes M 𝓤 𝓛 mem run κs a = (tt, refl)
