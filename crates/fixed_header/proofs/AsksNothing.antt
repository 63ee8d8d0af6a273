-- Demand 1: no public entry of this crate asks anything of its caller. `tests/entries` compares the list with the sources.
-- Assumes nothing.
use mathlib.Core.Path.{refl}
use Rattle.laws.specs.Asking.{AsksNothing}
use Rattle.fixed_header.specs.contracts as entry

pub ceiling_ok : AsksNothing entry.ceiling_ok.signature (λ M 𝓤. entry.ceiling_ok.spec)
ceiling_ok M 𝓤 𝓛 mem run κs a = (tt, refl)

pub check_header : AsksNothing entry.check_header.signature (λ M 𝓤. entry.check_header.spec)
check_header M 𝓤 𝓛 mem run κs a = (tt, refl)

pub header_good : AsksNothing entry.header_good.signature (λ M 𝓤. entry.header_good.spec)
header_good M 𝓤 𝓛 mem run κs a = (tt, refl)

pub declared_size : AsksNothing entry.declared_size.signature (λ M 𝓤. entry.declared_size.spec)
declared_size M 𝓤 𝓛 mem run κs a = (tt, refl)

pub parse_header : AsksNothing entry.parse_header.signature (λ M 𝓤. entry.parse_header.spec)
parse_header M 𝓤 𝓛 mem run κs a = (tt, refl)

pub put_header : AsksNothing entry.put_header.signature (λ M 𝓤. entry.put_header.spec)
put_header M 𝓤 𝓛 mem run κs a = (tt, refl)

pub frame_type_stream_type : AsksNothing entry.FrameType.stream_type.signature (λ M 𝓤. entry.FrameType.stream_type.spec)
frame_type_stream_type M 𝓤 𝓛 mem run κs a = (tt, refl)
