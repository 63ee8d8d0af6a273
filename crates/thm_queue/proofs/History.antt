-- What waits, with one event more.
-- Assumes nothing.
use Prim.Native.Nat.{ℕ, zero, suc, ◌<◌}
use mathlib.Core.Path.{◌≡◌, refl, sym, ap, ◌∙◌}
use mathlib.Core.Bool.{Bool, true, false, cond, ◌||◌, or-false, or_assoc}
use mathlib.Core.List.{List, [], ◌∷◌, ◌++◌, append-nil}
use native.Mathlib.Omega.{arith}
use borrow.Author.Tests.{eq-eqb}
use lib.ListN.{length}
use Rattle.laws.proofs.Booleans.{neither}
use Rattle.queue.specs.declared.Job.{Job}
use Rattle.queue.specs.Waiting.{any, pair_twice, with, without, job_at, same_pair}
use Rattle.queue.proofs.Search.{none_at}
use Rattle.queue.proofs.Changes.{same_pair_lem}
use Rattle.thm_queue.specs.History.{Event, job_accepted, job_taken, job_cancelled, call_refused, queue_emptied}
use Rattle.thm_queue.specs.History.{removes, removed_in, waits, started_with}

-- the jobs that an event leaves, and those that it brings
abbrev left_by : List Job → Event → List Job
left_by [] e = []
left_by (j ∷ js) e = cond (removes j e) (left_by js e) (j ∷ left_by js e)

abbrev brought : Event → List Job
brought (job_accepted j) = j ∷ []
brought (job_taken j) = []
brought (job_cancelled j) = []
brought (call_refused n) = []
brought queue_emptied = []

abbrev next : List Job → Event → List Job
next w e = left_by w e ++ brought e

-- ---- one event more
removed_more : (j : Job) (es : List Event) (e : Event) → removed_in j (es ++ (e ∷ [])) ≡ (removed_in j es || removes j e)
removed_more j [] e = or-false (removes j e)
removed_more j (d ∷ es) e =
    ap (λ (b : Bool). removes j d || b) (removed_more j es e) ∙ sym (or_assoc (removes j d) (removed_in j es) (removes j e))

one_event : (e : Event) → waits (e ∷ []) ≡ brought e
one_event (job_accepted j) = refl
one_event (job_taken j) = refl
one_event (job_cancelled j) = refl
one_event (call_refused n) = refl
one_event queue_emptied = refl

waits_more : (es : List Event) (e : Event) → waits (es ++ (e ∷ [])) ≡ next (waits es) e
waits_more [] e = one_event e
waits_more (job_accepted j ∷ es) e = rw (removed_more j es e) (go (removed_in j es) (removes j e) refl (waits_more es e))
  where
    go :
        (a b : Bool) → removes j e ≡ b
        → waits (es ++ (e ∷ [])) ≡ next (waits es) e
        → cond (a || b) (waits (es ++ (e ∷ []))) (j ∷ waits (es ++ (e ∷ [])))
        ≡ left_by (cond a (waits es) (j ∷ waits es)) e ++ brought e
    go true b f ih = ih
    go false true f ih = rw f ih
    go false false f ih = rw f (ap (λ (js : List Job). j ∷ js) ih)
waits_more (job_taken j ∷ es) e = waits_more es e
waits_more (job_cancelled j ∷ es) e = waits_more es e
waits_more (call_refused n ∷ es) e = waits_more es e
waits_more (queue_emptied ∷ es) e = waits_more es e

-- ---- what each event leaves
left_all : (w : List Job) (e : Event) → ((k : ℕ) → k < length w → removes (job_at w k) e ≡ false) → left_by w e ≡ w
left_all [] e f = refl
left_all (j ∷ js) e f =
    rw (f 0 (omega arith)) (ap (λ (ks : List Job). j ∷ ks) (left_all js e (λ k h. f (suc k) (omega arith))))

left_none : (w : List Job) → left_by w queue_emptied ≡ []
left_none [] = refl
left_none (j ∷ js) = left_none js

pub after_accepted : (past : List Event) (j : Job) → waits (past ++ (job_accepted j ∷ [])) ≡ with (waits past) j
after_accepted past j =
    waits_more past (job_accepted j)
    ∙ ap (λ (ks : List Job). ks ++ (j ∷ [])) (left_all (waits past) (job_accepted j) (λ k h. refl))

pub after_refused : (past : List Event) (n : ℕ) → waits (past ++ (call_refused n ∷ [])) ≡ waits past
after_refused past n =
    waits_more past (call_refused n)
    ∙ append-nil (left_by (waits past) (call_refused n))
    ∙ left_all (waits past) (call_refused n) (λ k h. refl)

pub after_emptied : (past : List Event) → waits (past ++ (queue_emptied ∷ [])) ≡ []
after_emptied past = waits_more past queue_emptied ∙ append-nil (left_by (waits past) queue_emptied) ∙ left_none (waits past)

-- an event that brings no job and removes those of a pair, as taken and cancelled: where no pair waits twice, only one job goes
module _
    (gone : Job → Event) (pair-Goes : (j k : Job) → removes j (gone k) ≡ same_pair k j) (none-comes : (k : Job) → brought (gone k) ≡ [])
  where
    left_others : (w : List Job) (at : ℕ) → pair_twice w ≡ false → at < length w → left_by w (gone (job_at w at)) ≡ without w at
    left_others [] at e h = absurd (omega arith)
    left_others (j ∷ js) zero e h =
        let others = (neither (any (same_pair j) js) (pair_twice js) e).0 in
        rw (pair-Goes j j, eq-eqb j.connection j.connection refl, eq-eqb j.request j.request refl)
        (left_all js (gone j) (λ k l. pair-Goes (job_at js k) j ∙ none_at (same_pair j) js k others l))
    left_others (j ∷ js) (suc at) e h =
        let s = neither (any (same_pair j) js) (pair_twice js) e in
        let k = job_at js at in
        let stays : same_pair k j ≡ false = same_pair_lem k j ∙ none_at (same_pair j) js at s.0 (omega arith) in
        rw (pair-Goes j k ∙ stays) (ap (λ (ks : List Job). j ∷ ks) (left_others js at s.1 (omega arith)))

    pub after_removed :
        (past : List Event) (at : ℕ) → pair_twice (waits past) ≡ false → at < length (waits past)
        → waits (past ++ (gone (job_at (waits past) at) ∷ [])) ≡ without (waits past) at
    after_removed past at apart inside =
        let e = gone (job_at (waits past) at) in
        waits_more past e
        ∙ ap (λ (ks : List Job). left_by (waits past) e ++ ks) (none-comes (job_at (waits past) at))
        ∙ append-nil (left_by (waits past) e)
        ∙ left_others (waits past) at apart inside

-- ---- the start
none_gone : (j : Job) (js : List Job) → removed_in j (started_with js) ≡ false
none_gone j [] = refl
none_gone j (k ∷ js) = none_gone j js

pub waits_start : (js : List Job) → waits (started_with js) ≡ js
waits_start [] = refl
waits_start (j ∷ js) = rw (none_gone j js) (ap (λ (ks : List Job). j ∷ ks) (waits_start js))
