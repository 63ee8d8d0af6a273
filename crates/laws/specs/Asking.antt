-- Demand 1, of one public entry. A contract asks of a caller what its `requires` says, and a value of what it binds outside its clauses.
-- Assumes nothing: these are definitions.
use Rattle.std.specs.Prelude.{◌≡◌}
use seplogic.Ra.Ura.{Ura}
use base.Logic.{SProp, emp}
use prog.Memory.{Memory}
use prog.Routine.{Routine}
use types.Logic.{Logic}
use contract.Monad.{Fun}
use contract.Lifetimes.{Lfts}
use denote.Signature.{Signature}
use denote.Triple.Entry.{Args}
use denote.Triple.Spec.{Spec}

-- the contract of a function of this signature, as the function's theorem takes it: in every model of the logic
abbrev pub Contract : Signature → Type 2
Contract S = (M : Type 1) (𝓤 : Ura M) (𝓛 : Logic 𝓤) → (Memory → SProp 𝓤) → (Routine → Fun 𝓤) → Spec 𝓤 S

-- whatever the lifetimes and the arguments are, the `requires` is the one that every state meets
abbrev pub AsksNothing : (S : Signature) → Contract S → Type 2
AsksNothing S c =
    (M : Type 1) (𝓤 : Ura M) (𝓛 : Logic 𝓤) (mem : Memory → SProp 𝓤) (run : Routine → Fun 𝓤) (κs : Lfts S.lifetimes)
    (a : Args S κs)
    → (bound : (c M 𝓤 𝓛 mem run κs a).ghost) × ((c M 𝓤 𝓛 mem run κs a).requires bound ≡ emp 𝓤)
