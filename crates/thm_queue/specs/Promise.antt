-- The promise (document 01, "Waiting jobs"; demand 2): what each call does, by the history before it.
-- Assumes nothing.
use Rattle.std.specs.Prelude.{ℕ, ◌<◌, ◌≡◌, List, [], ◌∷◌, ◌++◌, map, length}
use Rattle.queue.specs.declared.Job.{Job}
use Rattle.queue.specs.declared.Queue.{Queue}
use Rattle.queue.specs.Waiting.{capacity, zero_job, waiting}
use Rattle.queue.specs.Calls.{new_job}
use Rattle.refusals.specs.Grounds.{Ground, ground_of, Some, Every, numbered, Exactly}
use Rattle.thm_refusals.specs.Queue.{HasPair, Late, Invalid}
use Rattle.thm_queue.specs.Due.{DueBefore, EquallyDue}
use Rattle.thm_queue.specs.History.{Event, waits, started_with}
use Rattle.thm_queue.specs.Calls.{Call, init, add, take, cancel, Seen, InPlace, event, reported, call_of}

-- "Take removes the earliest due, ties by acceptance": of the waiting jobs w, take hands out j
pub record DueFirst (w : List Job) (j : Job) : Type 0 where
  pub before : List Job
  pub after : List Job
  pub waited : w ≡ before ++ j ∷ after
  -- no waiting job is due before it
  pub none_sooner : Every (λ k. DueBefore k j → ⊥) w
  -- of those equally due it was accepted first
  pub none_tied : Every (λ k. EquallyDue k j → ⊥) before

-- "Cancel removes the named pair": of the waiting jobs w, cancel hands out j
pub record Named (w : List Job) (c r : ℕ) (j : Job) : Type 0 where
  pub before : List Job
  pub after : List Job
  pub waited : w ≡ before ++ j ∷ after
  pub has_pair_lem : HasPair c r j
  pub no_other : Every (λ k. HasPair c r k → ⊥) (before ++ after)

-- ---- the grounds, by what waits. 24 is none of them: a valid queue stays valid.
-- "add 22, 25, 21": "arrival above 2^62"; "that pair waits already"; "64 jobs wait"
abbrev pub add_grounds : List Job → Job → List Ground
add_grounds w j =
    ground_of 22 (Late j)
    ∷ ground_of 25 (Some (HasPair j.connection j.request) w)
    ∷ ground_of 21 (length w ≡ capacity)
    ∷ []

-- 23, "nothing waits"
abbrev pub take_grounds : List Job → List Ground
take_grounds w = ground_of 23 (w ≡ []) ∷ []

-- 26, "that pair doesn't wait"
abbrev pub cancel_grounds : List Job → (c r : ℕ) → List Ground
cancel_grounds w c r = ground_of 26 (Some (HasPair c r) w → ⊥) ∷ []

-- ---- what a call returns and hands out, where the jobs w wait
pub record Removes (gs : List Ground) (Handed : Job → Type 0) (job : Job) (error : ℕ) : Type 0 where
  pub number : Exactly (numbered gs) error
  pub handed : error ≡ 0 → Handed job
  -- "A refused record or job is all zero"
  pub no_job : 0 < error → job ≡ zero_job

abbrev pub Answers : (w : List Job) → Call → Job → (error : ℕ) → Type 0
Answers w init job error = Unit {0}
Answers w (add c r t a) job error = Exactly (numbered (add_grounds w (new_job c r t a))) error
Answers w take job error = Removes (take_grounds w) (DueFirst w) job error
Answers w (cancel c r) job error = Removes (cancel_grounds w c r) (Named w c r) job error

-- A queue that may be worked on: none of 24's grounds holds, "count over 64, a waiting pair twice, or a waiting arrival above
-- 2^62". Its array holds 64 jobs, as its type says.
abbrev pub Usable : Queue → Type 0
Usable q = (length q.jobs ≡ capacity) × (Invalid q → ⊥)

-- one call, after that history
pub record Promised (past : List Event) (s : Seen) : Type 0 where
  pub answers : Answers (waits past) s.call s.job s.error
  -- what waits afterwards is what was accepted and not removed since, in order of acceptance
  pub waiting_is : waiting s.queue ≡ waits (past ++ (event s ∷ []))
  -- and the queue is valid, so that the next call does not give 24
  pub stays_usable : Usable s.queue

-- all calls, one after the other
abbrev pub Promise : (past : List Event) → List Seen → Type 0
Promise past [] = Unit {0}
Promise past (s ∷ ss) = Promised past s × Promise (past ++ (event s ∷ [])) ss

-- ---- the theorem's statement: the calls ss on a queue q
pub record QueuePromise (q : Queue) (ss : List Seen) : Type 0 where
  -- each call, by the history before it; the jobs that wait at the start were accepted in their order
  pub each : Promise (started_with (waiting q)) ss
  -- only the history decides: the same calls on any other memory in which the same jobs wait report the same
  pub decided :
      (p : Queue) (ts : List Seen) → Usable p → waiting p ≡ waiting q → InPlace p ts
      → map call_of ts ≡ map call_of ss → map reported ts ≡ map reported ss
