-- What the promise takes a call to ensure (`Ensured`) is the `ensures` of that function's contract, for all four functions. The
-- two are the same by computation, so neither can be changed without the other.
-- Assumes nothing.
use Prim.Native.Nat.{ℕ}
use mathlib.Core.Path.{◌≡◌, refl}
use seplogic.Ra.Ura.{Ura}
use base.Logic.{SProp}
use base.Fml.{Lft}
use prog.Memory.{Memory}
use prog.Routine.{Routine}
use types.Logic.{Logic}
use contract.Monad.{Fun, fact}
use denote.Ref.{MutBor}
use denote.Triple.Clauses.{at_exit}
use Rattle.queue.specs.declared.Job.{Job}
use Rattle.queue.specs.declared.Queue.{Queue}
use Rattle.thm_queue.specs.Calls as calls
use Rattle.thm_queue.specs.Calls.{Call, Seen, Ensured}
use Rattle.queue_in_place.specs.contracts.trpc_queue_init as init
use Rattle.queue_in_place.specs.contracts.trpc_queue_add as add
use Rattle.queue_in_place.specs.contracts.trpc_queue_take as take
use Rattle.queue_in_place.specs.contracts.trpc_queue_cancel as cancel

-- the queue and the job lent, the queue and the job afterwards, and the number returned
module _
    {M : Type 1} {𝓤 : Ura M} (𝓛 : Logic 𝓤) (mem : Memory → SProp 𝓤) (run : Routine → Fun 𝓤) (κ ι : Lft)
    (lent : MutBor Queue) (room : MutBor Job) (queue : Queue) (job : Job) (error : ℕ) where
  abbrev seen : Call → Seen
  seen c = record { call = c; queue = queue; job = job; error = error }

  pub init_ensures :
      (init.clauses 𝓛 mem run (κ, tt) (lent, tt)).ensures tt tt (at_exit init.ended (κ, tt) (lent, tt) (queue, tt))
      ≡ fact 𝓤 (Ensured lent.now calls.init (seen calls.init))
  init_ensures = refl

  pub add_ensures :
      (c r t a : ℕ)
      → (add.clauses 𝓛 mem run (κ, tt) (lent, (c, (r, (t, (a, tt)))))).ensures tt error
      (at_exit add.ended (κ, tt) (lent, (c, (r, (t, (a, tt))))) (queue, (tt, (tt, (tt, (tt, tt))))))
      ≡ fact 𝓤 (Ensured lent.now (calls.add c r t a) (seen (calls.add c r t a)))
  add_ensures c r t a = refl

  pub take_ensures :
      (take.clauses 𝓛 mem run (κ, (ι, tt)) (lent, (room, tt))).ensures tt error
      (at_exit take.ended (κ, (ι, tt)) (lent, (room, tt)) (queue, (job, tt)))
      ≡ fact 𝓤 (Ensured lent.now calls.take (seen calls.take))
  take_ensures = refl

  pub cancel_ensures :
      (c r : ℕ)
      → (cancel.clauses 𝓛 mem run (κ, (ι, tt)) (lent, (c, (r, (room, tt))))).ensures tt error
      (at_exit cancel.ended (κ, (ι, tt)) (lent, (c, (r, (room, tt)))) (queue, (tt, (tt, (job, tt)))))
      ≡ fact 𝓤 (Ensured lent.now (calls.cancel c r) (seen (calls.cancel c r)))
  cancel_ensures c r = refl
