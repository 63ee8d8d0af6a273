-- Demand 1: no public entry of this crate asks anything of its caller. `tests/entries` compares the list with the sources.
-- Assumes nothing.
use mathlib.Core.Path.{refl}
use Rattle.laws.specs.Asking.{AsksNothing}
use Rattle.records.specs.contracts as entry

pub record_of : AsksNothing entry.record_of.signature (λ M 𝓤. entry.record_of.spec)
record_of M 𝓤 𝓛 mem run κs a = (tt, refl)

pub slots_of : AsksNothing entry.slots_of.signature (λ M 𝓤. entry.slots_of.spec)
slots_of M 𝓤 𝓛 mem run κs a = (tt, refl)

pub from_request : AsksNothing entry.slots.ArrayU3216FromRequest.from.signature (λ M 𝓤. entry.slots.ArrayU3216FromRequest.from.spec)
from_request M 𝓤 𝓛 mem run κs a = (tt, refl)

pub from_response : AsksNothing entry.slots.ArrayU3216FromResponse.from.signature (λ M 𝓤. entry.slots.ArrayU3216FromResponse.from.spec)
from_response M 𝓤 𝓛 mem run κs a = (tt, refl)

pub from_init : AsksNothing entry.slots.ArrayU3216FromInit.from.signature (λ M 𝓤. entry.slots.ArrayU3216FromInit.from.spec)
from_init M 𝓤 𝓛 mem run κs a = (tt, refl)

pub from_feedback : AsksNothing entry.slots.ArrayU3216FromFeedback.from.signature (λ M 𝓤. entry.slots.ArrayU3216FromFeedback.from.spec)
from_feedback M 𝓤 𝓛 mem run κs a = (tt, refl)

pub from_close : AsksNothing entry.slots.ArrayU3216FromClose.from.signature (λ M 𝓤. entry.slots.ArrayU3216FromClose.from.spec)
from_close M 𝓤 𝓛 mem run κs a = (tt, refl)
