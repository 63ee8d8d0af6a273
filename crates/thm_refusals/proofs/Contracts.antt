-- What `header_check_exactly` takes a call of `check_header` to ensure is the `ensures` of its contract: the two are the same by
-- computation, so neither can be changed without the other. The same is said of `deframe`, `finish` and `read` in `thm_stream`, of `write`
-- in `thm_round_trip`, of the field writers in FieldWriter, of `trpc_queue_add` and its kin in `thm_queue`, of the other functions for C in
-- `thm_c`, and of all others that give a number in `thm_numbers`.
-- Assumes nothing.
use Prim.Native.Nat.{ℕ}
use mathlib.Core.Path.{◌≡◌, refl}
use mathlib.Core.List.{List}
use seplogic.Ra.Ura.{Ura}
use base.Logic.{SProp}
use base.Fml.{Lft}
use prog.Memory.{Memory}
use prog.Routine.{Routine}
use types.Logic.{Logic}
use contract.Monad.{Fun, fact}
use denote.Ref.{Bor}
use denote.Triple.Clauses.{at_exit}
use Rattle.std.specs.Prelude.{Result}
use Rattle.refusals.specs.Refusals.{code_of}
use Rattle.refusals.specs.declared.Refusal.{Refusal}
use Rattle.fixed_header.specs.Header.{header_error}
use Rattle.fixed_header.specs.contracts.check_header as check

pub header_ensures : {M : Type 1} {𝓤 : Ura M} (𝓛 : Logic 𝓤) (mem : Memory → SProp 𝓤) (run : Routine → Fun 𝓤) (κ : Lft)
    (bytes : Bor (List ℕ)) (c : ℕ) (r : Result (Unit {0}) Refusal)
    → (check.clauses 𝓛 mem run (κ, tt) (bytes, (c, tt))).ensures tt r (at_exit check.ended (κ, tt) (bytes, (c, tt)) (tt, (tt, tt)))
    ≡ fact 𝓤 (code_of r ≡ header_error c bytes.now)
header_ensures 𝓛 mem run κ bytes c r = refl
