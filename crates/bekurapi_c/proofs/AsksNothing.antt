-- Demand 1: no public entry of this crate asks anything of its caller. `tests/entries` compares the list with the sources.
-- Assumes nothing.
use mathlib.Core.Path.{refl}
use Rattle.laws.specs.Asking.{AsksNothing}
use Rattle.bekurapi_c.specs.contracts as entry

pub trpc_header_check : AsksNothing entry.trpc_header_check.signature (λ M 𝓤. entry.trpc_header_check.spec)
trpc_header_check M 𝓤 𝓛 mem run κs a = (tt, refl)

pub trpc_header_parse : AsksNothing entry.trpc_header_parse.signature (λ M 𝓤. entry.trpc_header_parse.spec)
trpc_header_parse M 𝓤 𝓛 mem run κs a = (tt, refl)

pub trpc_deframe : AsksNothing entry.trpc_deframe.signature (λ M 𝓤. entry.trpc_deframe.spec)
trpc_deframe M 𝓤 𝓛 mem run κs a = (tt, refl)

pub trpc_finish : AsksNothing entry.trpc_finish.signature (λ M 𝓤. entry.trpc_finish.spec)
trpc_finish M 𝓤 𝓛 mem run κs a = (tt, refl)

pub trpc_read_request : AsksNothing entry.trpc_read_request.signature (λ M 𝓤. entry.trpc_read_request.spec)
trpc_read_request M 𝓤 𝓛 mem run κs a = (tt, refl)

pub trpc_read_response : AsksNothing entry.trpc_read_response.signature (λ M 𝓤. entry.trpc_read_response.spec)
trpc_read_response M 𝓤 𝓛 mem run κs a = (tt, refl)

pub trpc_read_init : AsksNothing entry.trpc_read_init.signature (λ M 𝓤. entry.trpc_read_init.spec)
trpc_read_init M 𝓤 𝓛 mem run κs a = (tt, refl)

pub trpc_read_data : AsksNothing entry.trpc_read_data.signature (λ M 𝓤. entry.trpc_read_data.spec)
trpc_read_data M 𝓤 𝓛 mem run κs a = (tt, refl)

pub trpc_read_feedback : AsksNothing entry.trpc_read_feedback.signature (λ M 𝓤. entry.trpc_read_feedback.spec)
trpc_read_feedback M 𝓤 𝓛 mem run κs a = (tt, refl)

pub trpc_read_close : AsksNothing entry.trpc_read_close.signature (λ M 𝓤. entry.trpc_read_close.spec)
trpc_read_close M 𝓤 𝓛 mem run κs a = (tt, refl)

pub trpc_write_request : AsksNothing entry.trpc_write_request.signature (λ M 𝓤. entry.trpc_write_request.spec)
trpc_write_request M 𝓤 𝓛 mem run κs a = (tt, refl)

pub trpc_write_response : AsksNothing entry.trpc_write_response.signature (λ M 𝓤. entry.trpc_write_response.spec)
trpc_write_response M 𝓤 𝓛 mem run κs a = (tt, refl)

pub trpc_write_init : AsksNothing entry.trpc_write_init.signature (λ M 𝓤. entry.trpc_write_init.spec)
trpc_write_init M 𝓤 𝓛 mem run κs a = (tt, refl)

pub trpc_write_data : AsksNothing entry.trpc_write_data.signature (λ M 𝓤. entry.trpc_write_data.spec)
trpc_write_data M 𝓤 𝓛 mem run κs a = (tt, refl)

pub trpc_write_feedback : AsksNothing entry.trpc_write_feedback.signature (λ M 𝓤. entry.trpc_write_feedback.spec)
trpc_write_feedback M 𝓤 𝓛 mem run κs a = (tt, refl)

pub trpc_write_close : AsksNothing entry.trpc_write_close.signature (λ M 𝓤. entry.trpc_write_close.spec)
trpc_write_close M 𝓤 𝓛 mem run κs a = (tt, refl)
