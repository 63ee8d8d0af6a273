-- The promise of each call, by one step along the list.
-- Assumes nothing.
use Prim.Native.Nat.{ℕ}
use mathlib.Core.Path.{◌≡◌, sym, subst}
use mathlib.Core.Bool.{Bool, true, false, true≢false}
use mathlib.Core.List.{List, [], ◌∷◌, ◌++◌}
use Rattle.queue.specs.declared.Job.{Job}
use Rattle.queue.specs.declared.Queue.{Queue}
use Rattle.queue.specs.Waiting.{waiting, invalid}
use Rattle.queue.specs.Calls.{Added, Removed, new_job, empty_queue, added, taken, cancelled}
use Rattle.queue.proofs.Valid.{not_invalid}
use Rattle.queue.proofs.Changes.{Sound, sound}
use Rattle.refusals.specs.Grounds.{numbered, Exactly}
use Rattle.refusals.proofs.Tests.{Told, not_found}
use Rattle.thm_refusals.specs.Queue.{Invalid}
use Rattle.thm_refusals.proofs.Queue.{invalid_queue}
use Rattle.thm_queue.specs.History.{Event, queue_emptied, waits, started_with}
use Rattle.thm_queue.specs.Calls.{Call, init, add, take, cancel, Seen, Ensured, InPlace, event_of, event}
use Rattle.thm_queue.specs.Promise.{DueFirst, Named, add_grounds, take_grounds, cancel_grounds, Removes}
use Rattle.thm_queue.specs.Promise.{Answers, Promised, Promise, Usable}
use Rattle.thm_queue.proofs.History.{waits_start}
use Rattle.thm_queue.proofs.Steps.{Next, add_answers, add_next, take_answers, take_next, cancel_answers, cancel_next, init_next}

-- ---- valid queues
usable : {q : Queue} → Sound q → Usable q
usable {q} s = (s.places, none (invalid q) (not_invalid q s.checked) (invalid_queue q).told)
  where
    none : (b : Bool) → b ≡ false → Told b (Invalid q) → Invalid q → ⊥
    none true e t p = true≢false e
    none false e t p = t p

-- ---- one call
record Step (past : List Event) (s : Seen) : Type 0 where
  promised : Promised past s
  stays : Sound s.queue

made :
    {past : List Event} {s : Seen} → Answers (waits past) s.call s.job s.error
    → Next past (event s) s.queue → Step past s
made a n =
    record {
      promised = record { answers = a; waiting_is = n.waiting_is; stays_usable = usable n.stays };
      stays = n.stays;
    }

module _ (q : Queue) (ok : Sound q) (past : List Event) (is : waiting q ≡ waits past) where
  step_add :
      (c r t a : ℕ) (job : Job) (x : Added) → x ≡ added q (new_job c r t a)
      → Step past (record { call = add c r t a; queue = x.queue; job = job; error = x.error })
  step_add c r t a job x e =
      made (rw e (subst (λ (w : List Job). Exactly (numbered (add_grounds w j)) (added q j).error) is (add_answers q ok past is j)))
      (rw e (add_next q ok past is j))
    where
      j : Job
      j = new_job c r t a

  step_take : (x : Removed) → x ≡ taken q → Step past (record { call = take; queue = x.queue; job = x.job; error = x.error })
  step_take x e = made (rw e (subst Takes is (take_answers q ok past is))) (rw e (take_next q ok past is))
    where
      Takes : List Job → Type 0
      Takes w = Removes (take_grounds w) (DueFirst w) (taken q).job (taken q).error

  step_cancel :
      (c r : ℕ) (x : Removed) → x ≡ cancelled q c r
      → Step past (record { call = cancel c r; queue = x.queue; job = x.job; error = x.error })
  step_cancel c r x e = made (rw e (subst Cancels is (cancel_answers q ok past is c r))) (rw e (cancel_next q ok past is c r))
    where
      Cancels : List Job → Type 0
      Cancels w = Removes (cancel_grounds w c r) (Named w c r) (cancelled q c r).job (cancelled q c r).error

step_init :
    (past : List Event) (p : Queue) (job : Job) (error : ℕ) → p ≡ empty_queue
    → Step past (record { call = init; queue = p; job = job; error = error })
step_init past p job error e = made tt (rw e (init_next past))

step :
    (q : Queue) → Sound q → (past : List Event) → waiting q ≡ waits past → (c : Call) (p : Queue) (job : Job) (error : ℕ)
    → Ensured q c (record { call = c; queue = p; job = job; error = error })
    → Step past (record { call = c; queue = p; job = job; error = error })
step q ok past is init p job error e = step_init past p job error e
step q ok past is (add c r t a) p job error e = step_add q ok past is c r t a job (record { queue = p; error = error }) e
step q ok past is take p job error e = step_take q ok past is (record { queue = p; job = job; error = error }) e
step q ok past is (cancel c r) p job error e = step_cancel q ok past is c r (record { queue = p; job = job; error = error }) e

-- ---- all calls
all_calls :
    (q : Queue) → Sound q → (past : List Event) → waiting q ≡ waits past → (ss : List Seen) → InPlace q ss
    → Promise past ss
all_calls q ok past is [] called = tt
all_calls q ok past is (s ∷ ss) called =
    let one : Step past s = step q ok past is s.call s.queue s.job s.error called.0 in
    (one.promised, all_calls s.queue one.stays (past ++ (event s ∷ [])) one.promised.waiting_is ss called.1)

-- ---- from any valid queue
pub each_call : (q : Queue) → Usable q → (ss : List Seen) → InPlace q ss → Promise (started_with (waiting q)) ss
each_call q ok ss called =
    all_calls q (sound q ok.0 (not_found (invalid_queue q) ok.1)) (started_with (waiting q)) (sym (waits_start (waiting q)))
    ss called

-- ---- from any memory, valid or not, and after any history: init empties it
pub from_init :
    (q : Queue) (past : List Event) (s : Seen) (ss : List Seen) → s.call ≡ init → InPlace q (s ∷ ss) → Promise past (s ∷ ss)
from_init q past s ss e called =
    (one.promised, all_calls s.queue one.stays (past ++ (event s ∷ [])) one.promised.waiting_is ss called.1)
  where
    emptied : s.queue ≡ empty_queue
    emptied = subst (λ (c : Call). Ensured q c s) e called.0

    next : Next past queue_emptied s.queue
    next = subst (Next past queue_emptied) (sym emptied) (init_next past)

    one : Step past s
    one =
        made (subst (λ (c : Call). Answers (waits past) c s.job s.error) (sym e) tt)
        (subst (λ (c : Call). Next past (event_of c s.job s.error) s.queue) (sym e) next)
