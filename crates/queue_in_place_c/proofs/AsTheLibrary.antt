-- The contract of each export is, word for word, that of the function of `queue_in_place` that it calls. So the theorems, which
-- cite the library's contracts, are about what C calls.
-- Assumes nothing.
use mathlib.Core.Path.{◌≡◌, refl}
use Rattle.laws.specs.Asking.{Contract}
use Rattle.queue_in_place.specs.contracts as library
use Rattle.queue_in_place_c.specs.contracts as entry

pub trpc_queue_init :
    ◌≡◌ {A = Contract entry.trpc_queue_init.signature}
    (λ M 𝓤. entry.trpc_queue_init.spec) (λ M 𝓤. library.trpc_queue_init.spec)
trpc_queue_init = refl

pub trpc_queue_add :
    ◌≡◌ {A = Contract entry.trpc_queue_add.signature}
    (λ M 𝓤. entry.trpc_queue_add.spec) (λ M 𝓤. library.trpc_queue_add.spec)
trpc_queue_add = refl

pub trpc_queue_take :
    ◌≡◌ {A = Contract entry.trpc_queue_take.signature}
    (λ M 𝓤. entry.trpc_queue_take.spec) (λ M 𝓤. library.trpc_queue_take.spec)
trpc_queue_take = refl

pub trpc_queue_cancel :
    ◌≡◌ {A = Contract entry.trpc_queue_cancel.signature}
    (λ M 𝓤. entry.trpc_queue_cancel.spec) (λ M 𝓤. library.trpc_queue_cancel.spec)
trpc_queue_cancel = refl
