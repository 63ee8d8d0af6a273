-- Demand 1: no public entry of this crate asks anything of its caller. `tests/entries` compares the list with the sources.
-- Assumes nothing.
use mathlib.Core.Path.{refl}
use Rattle.laws.specs.Asking.{AsksNothing}
use Rattle.queue_in_place_c.specs.contracts as entry

pub trpc_queue_init : AsksNothing entry.trpc_queue_init.signature (λ M 𝓤. entry.trpc_queue_init.spec)
trpc_queue_init M 𝓤 𝓛 mem run κs a = (tt, refl)

pub trpc_queue_add : AsksNothing entry.trpc_queue_add.signature (λ M 𝓤. entry.trpc_queue_add.spec)
trpc_queue_add M 𝓤 𝓛 mem run κs a = (tt, refl)

pub trpc_queue_take : AsksNothing entry.trpc_queue_take.signature (λ M 𝓤. entry.trpc_queue_take.spec)
trpc_queue_take M 𝓤 𝓛 mem run κs a = (tt, refl)

pub trpc_queue_cancel : AsksNothing entry.trpc_queue_cancel.signature (λ M 𝓤. entry.trpc_queue_cancel.spec)
trpc_queue_cancel M 𝓤 𝓛 mem run κs a = (tt, refl)
