-- For a user: what a controller is promised of its queue (document 01, "Waiting jobs"; demand 2).
--
-- Promised, of any calls of `trpc_queue_init`, `trpc_queue_add`, `trpc_queue_take` and `trpc_queue_cancel` on one queue, with any
-- arguments, refused calls among them (`Promise`, specs/Promise):
--   take      returns 0 unless nothing waits, and hands out a waiting job: no waiting job is due before it, and of those equally
--             due it was accepted first. A job without a deadline comes after all that have one.
--   cancel    returns 0 exactly when the named pair waits, and hands out the job that has it.
--   add       returns 22, 25 or 21 exactly on their grounds, in that order, and else accepts the job.
--   after any call, what waits is what was accepted and not removed since, in order of acceptance, and the queue is valid.
--   only the history decides: any run with the same start and the same calls reports the same.
-- The theorems:
--   `queue_promise`     from any valid queue.
--   `from_init`         from any memory, once init was called (proofs/Promise).
--   `same_from_init`    from init on the calls decide, whatever the memory held.
--   `never_invalid`     24 is never returned.
--   `sooner_first`      no take hands out a job while one that is due before it waits.
--   `can_be_called`     there are such calls, of any queue: the promise is about something.
-- What each call leaves in the whole of the queue's memory is its contract (`Ensured`, tied in proofs/Contracts): a refused call
-- leaves all of it as it was, and a place freed is zero.
-- Not promised: when a job is taken, since the clock is the caller's; anything of a queue that is changed between two calls; of an
-- invalid queue more than that each call returns 24 (`thm_refusals`).
-- Ruled out: a queue that always hands out its first job (`first_always`, proofs/Examples), one that compares due times by a signed
-- difference or in 32 bits, one that hands out the later of two that are equally due, one that loses a job or hands it out twice.
-- Assumes nothing but that the array of a queue holds 64 jobs, as its type says.
use Prim.Native.Nat.{ℕ, zero, suc}
use mathlib.Core.Path.{◌≡◌, refl, sym, ap, subst, ◌∙◌}
use mathlib.Core.Logic.{inl, inr}
use mathlib.Core.List.{List, [], ◌∷◌, ◌++◌, append-nil, map}
use native.Mathlib.Omega.{arith}
use lib.Seq.{append_snoc}
use Rattle.laws.proofs.Booleans.{clash}
use Rattle.queue.specs.declared.Job.{Job}
use Rattle.queue.specs.declared.Queue.{Queue}
use Rattle.queue.specs.Waiting.{zero_job, waiting}
use Rattle.queue.specs.Calls.{new_job, empty_queue, added, taken, cancelled}
use Rattle.refusals.specs.Grounds.{Ground, numbered, Every, First, refuses, Exactly}
use Rattle.thm_queue.specs.Due.{DueBefore}
use Rattle.thm_queue.specs.History.{Event, job_accepted, job_taken, job_cancelled, call_refused, waits, started_with}
use Rattle.thm_queue.specs.Calls.{Call, init, add, take, cancel, Seen, Ensured, InPlace, did, event_of, event, reported, call_of}
use Rattle.thm_queue.specs.Promise.{add_grounds, take_grounds, cancel_grounds, Answers, Promised, Promise, Usable, QueuePromise}
use Rattle.thm_queue.proofs.Steps.{did_refuse}
use Rattle.thm_queue.proofs.Promise.{each_call, from_init}
use Rattle.thm_queue.proofs.Same.{same_answers}

pub queue_promise : (q : Queue) → Usable q → (ss : List Seen) → InPlace q ss → QueuePromise q ss
queue_promise q ok ss called =
    record {
      each = each_call q ok ss called;
      decided = λ p ts fine start other same.
          same_answers (started_with (waiting q)) ts ss same
          (subst (λ (w : List Job). Promise (started_with w) ts) start (each_call p fine ts other)) (each_call q ok ss called);
    }

pub same_from_init :
    (q p : Queue) (s t : Seen) (ss ts : List Seen) → s.call ≡ init → t.call ≡ init
    → InPlace q (s ∷ ss) → InPlace p (t ∷ ts)
    → map call_of (s ∷ ss) ≡ map call_of (t ∷ ts) → map reported (s ∷ ss) ≡ map reported (t ∷ ts)
same_from_init q p s t ss ts a b called other same =
    same_answers [] (s ∷ ss) (t ∷ ts) same (from_init q [] s ss a called) (from_init p [] t ts b other)

-- ---- the promise of one call among all
pub promised_at :
    (past : List Event) (before : List Seen) (s : Seen) (after : List Seen) → Promise past (before ++ s ∷ after)
    → Promised (past ++ map event before) s
promised_at past [] s after p = rw append-nil p.0
promised_at past (b ∷ before) s after p = rw append_snoc at (promised_at (past ++ (event b ∷ [])) before s after p.1)

-- of any take that returns 0, no job that waited is due before the one handed out
pub sooner_first :
    (past : List Event) (before : List Seen) (s : Seen) (after : List Seen) → Promise past (before ++ s ∷ after)
    → s.call ≡ take → s.error ≡ 0
    → Every (λ (j : Job). DueBefore j s.job → ⊥) (waits (past ++ map event before))
sooner_first past before s after p e z =
    ((subst (λ (c : Call). Answers (waits (past ++ map event before)) c s.job s.error) e
    (promised_at past before s after p).answers).handed z).none_sooner

-- ---- 24 is never returned
not_given :
    (gs : List Ground) (n error : ℕ) (e : Event) → Exactly (numbered gs) error → (First gs n → ⊥)
    → (e ≡ call_refused n → ⊥) → did error e ≡ call_refused n → ⊥
not_given gs n zero e x none other d = other d
not_given gs n (suc m) e x none other d =
    let refused : call_refused (suc m) ≡ call_refused n = sym (did_refuse (suc m) e (omega arith)) ∙ d in
    let same : suc m ≡ n = cc in
    none ((x.given n).0 (ap refuses same))

-- of a list of one ground
not_only : (number : ℕ) {P : Type 0} → (24 ≡ number → ⊥) → First (record { number = number; holds = P } ∷ []) 24 → ⊥
not_only number n (inl f) = n f.1
not_only number n (inr f) = f.1

no_24 : (w : List Job) (c : Call) (job : Job) (error : ℕ) → Answers w c job error → event_of c job error ≡ call_refused 24 → ⊥
no_24 w init job error a e = clash cc
no_24 w (add c r t b) job error a e = not_given (add_grounds w j) 24 error (job_accepted j) a by (λ d. clash cc) e
  where
    j : Job
    j = new_job c r t b

    by : First (add_grounds w j) 24 → ⊥
    by (inl f) = omega (arith, f.1)
    by (inr (_, inl f)) = omega (arith, f.1)
    by (inr (_, inr (_, inl f))) = omega (arith, f.1)
    by (inr (_, inr (_, inr f))) = f.1
no_24 w take job error a e =
    not_given (take_grounds w) 24 error (job_taken job) a.number (not_only 23 (λ n. omega arith)) (λ d. clash cc) e
no_24 w (cancel c r) job error a e =
    not_given (cancel_grounds w c r) 24 error (job_cancelled job) a.number (not_only 26 (λ n. omega arith)) (λ d. clash cc) e

pub never_invalid : (past : List Event) (ss : List Seen) → Promise past ss → Every (λ e. e ≡ call_refused 24 → ⊥) (map event ss)
never_invalid past [] p = tt
never_invalid past (s ∷ ss) p =
    (no_24 (waits past) s.call s.job s.error p.0.answers, never_invalid (past ++ (event s ∷ [])) ss p.1)

-- ---- of any queue and any calls there is what the contracts say
abbrev seen_of : Queue → Call → Seen
seen_of q init = record { call = init; queue = empty_queue; job = zero_job; error = 0 }
seen_of q (add c r t a) =
    let x = added q (new_job c r t a) in
    record { call = add c r t a; queue = x.queue; job = zero_job; error = x.error }
seen_of q take = record { call = take; queue = (taken q).queue; job = (taken q).job; error = (taken q).error }
seen_of q (cancel c r) =
    let x = cancelled q c r in
    record { call = cancel c r; queue = x.queue; job = x.job; error = x.error }

is_seen : (q : Queue) (c : Call) → ((seen_of q c).call ≡ c) × Ensured q c (seen_of q c)
is_seen q init = (refl, refl)
is_seen q (add c r t a) = (refl, refl)
is_seen q take = (refl, refl)
is_seen q (cancel c r) = (refl, refl)

pub can_be_called : (q : Queue) (cs : List Call) → (ss : List Seen) × (map call_of ss ≡ cs) × InPlace q ss
can_be_called q [] = ([], refl, tt)
can_be_called q (c ∷ cs) =
    let s = seen_of q c in
    let one = is_seen q c in
    let rest = can_be_called s.queue cs in
    (s ∷ rest.0, rw (one.0, rest.1), (subst (λ (d : Call). Ensured q d s) (sym one.0) one.1, rest.2))
