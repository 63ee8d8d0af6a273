-- The contract of each export is, word for word, that of the function of `bekurapi` that it calls. So the theorems, which cite the
-- library's contracts, are about what C calls.
-- Assumes nothing.
use mathlib.Core.Path.{◌≡◌, refl}
use Rattle.laws.specs.Asking.{Contract}
use Rattle.bekurapi.specs.contracts as library
use Rattle.bekurapi_c.specs.contracts as entry

pub trpc_header_check :
    ◌≡◌ {A = Contract entry.trpc_header_check.signature}
    (λ M 𝓤. entry.trpc_header_check.spec) (λ M 𝓤. library.trpc_header_check.spec)
trpc_header_check = refl

pub trpc_header_parse :
    ◌≡◌ {A = Contract entry.trpc_header_parse.signature}
    (λ M 𝓤. entry.trpc_header_parse.spec) (λ M 𝓤. library.trpc_header_parse.spec)
trpc_header_parse = refl

pub trpc_deframe :
    ◌≡◌ {A = Contract entry.trpc_deframe.signature}
    (λ M 𝓤. entry.trpc_deframe.spec) (λ M 𝓤. library.trpc_deframe.spec)
trpc_deframe = refl

pub trpc_finish :
    ◌≡◌ {A = Contract entry.trpc_finish.signature}
    (λ M 𝓤. entry.trpc_finish.spec) (λ M 𝓤. library.trpc_finish.spec)
trpc_finish = refl

pub trpc_read_request :
    ◌≡◌ {A = Contract entry.trpc_read_request.signature}
    (λ M 𝓤. entry.trpc_read_request.spec) (λ M 𝓤. library.trpc_read_request.spec)
trpc_read_request = refl

pub trpc_read_response :
    ◌≡◌ {A = Contract entry.trpc_read_response.signature}
    (λ M 𝓤. entry.trpc_read_response.spec) (λ M 𝓤. library.trpc_read_response.spec)
trpc_read_response = refl

pub trpc_read_init :
    ◌≡◌ {A = Contract entry.trpc_read_init.signature}
    (λ M 𝓤. entry.trpc_read_init.spec) (λ M 𝓤. library.trpc_read_init.spec)
trpc_read_init = refl

pub trpc_read_data :
    ◌≡◌ {A = Contract entry.trpc_read_data.signature}
    (λ M 𝓤. entry.trpc_read_data.spec) (λ M 𝓤. library.trpc_read_data.spec)
trpc_read_data = refl

pub trpc_read_feedback :
    ◌≡◌ {A = Contract entry.trpc_read_feedback.signature}
    (λ M 𝓤. entry.trpc_read_feedback.spec) (λ M 𝓤. library.trpc_read_feedback.spec)
trpc_read_feedback = refl

pub trpc_read_close :
    ◌≡◌ {A = Contract entry.trpc_read_close.signature}
    (λ M 𝓤. entry.trpc_read_close.spec) (λ M 𝓤. library.trpc_read_close.spec)
trpc_read_close = refl

pub trpc_write_request :
    ◌≡◌ {A = Contract entry.trpc_write_request.signature}
    (λ M 𝓤. entry.trpc_write_request.spec) (λ M 𝓤. library.trpc_write_request.spec)
trpc_write_request = refl

pub trpc_write_response :
    ◌≡◌ {A = Contract entry.trpc_write_response.signature}
    (λ M 𝓤. entry.trpc_write_response.spec) (λ M 𝓤. library.trpc_write_response.spec)
trpc_write_response = refl

pub trpc_write_init :
    ◌≡◌ {A = Contract entry.trpc_write_init.signature}
    (λ M 𝓤. entry.trpc_write_init.spec) (λ M 𝓤. library.trpc_write_init.spec)
trpc_write_init = refl

pub trpc_write_data :
    ◌≡◌ {A = Contract entry.trpc_write_data.signature}
    (λ M 𝓤. entry.trpc_write_data.spec) (λ M 𝓤. library.trpc_write_data.spec)
trpc_write_data = refl

pub trpc_write_feedback :
    ◌≡◌ {A = Contract entry.trpc_write_feedback.signature}
    (λ M 𝓤. entry.trpc_write_feedback.spec) (λ M 𝓤. library.trpc_write_feedback.spec)
trpc_write_feedback = refl

pub trpc_write_close :
    ◌≡◌ {A = Contract entry.trpc_write_close.signature}
    (λ M 𝓤. entry.trpc_write_close.spec) (λ M 𝓤. library.trpc_write_close.spec)
trpc_write_close = refl
