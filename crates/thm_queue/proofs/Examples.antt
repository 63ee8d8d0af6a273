-- Wrong queues that the promise rules out, each by an answer that it cannot give.
-- Assumes nothing.
use Prim.Native.Nat.{ℕ}
use mathlib.Core.Path.{◌≡◌, refl, ap, subst}
use mathlib.Core.Logic.{inl, inr}
use mathlib.Core.List.{List, [], ◌∷◌}
use native.Mathlib.Omega.{arith}
use Rattle.queue.specs.declared.Job.{Job}
use Rattle.queue.specs.Due.{at, never, due}
use Rattle.queue.specs.Calls.{new_job}
use Rattle.thm_queue.specs.Due.{EquallyDue}
use Rattle.thm_queue.specs.History.{started_with}
use Rattle.thm_queue.specs.Calls.{Call, take, Seen}
use Rattle.thm_queue.specs.Promise.{DueFirst, Answers, Promised}
use Rattle.thm_queue.proofs.Due.{not_before, equally_due}
use Rattle.thm_queue.proofs.Same.{one_first}

-- document 01's example: "jobs at arrival 0 with timeouts 0; 4,000,000,000; 600,000 are taken as 600,000; 4,000,000,000; 0"
abbrev pub at_zero : (request timeout : ℕ) → Job
at_zero request timeout = new_job 1 request timeout 0

abbrev pub three : List Job
three = at_zero 1 0 ∷ at_zero 2 4000000000 ∷ at_zero 3 600000 ∷ []

-- a queue that hands out its first job always
pub first_always : DueFirst three (at_zero 1 0) → ⊥
first_always d = d.none_sooner.1.1.0 (omega arith, inl refl)

-- as a call: no take that returns 0 and hands out that job keeps the promise, whatever queue it leaves
pub first_always_breaks : (s : Seen) → s.call ≡ take → s.error ≡ 0 → s.job ≡ at_zero 1 0 → Promised (started_with three) s → ⊥
first_always_breaks s called worked first p =
    first_always
    (subst (DueFirst three) first
    ((subst (λ (c : Call). Answers three c s.job s.error) called p.answers).handed worked))

-- due times compared by a signed difference of 32 bits
pub signed_difference : DueFirst three (at_zero 2 4000000000) → ⊥
signed_difference d = d.none_sooner.1.1.0 (omega arith, inr (omega arith, omega arith))

-- and the job that is handed out
pub third_first : DueFirst three (at_zero 3 600000)
unfolding due
third_first =
    record {
      before = at_zero 1 0 ∷ at_zero 2 4000000000 ∷ [];
      after = [];
      waited = refl;
      none_sooner = (
        not_before (at_zero 1 0) (at_zero 3 600000) refl,
        (not_before (at_zero 2 4000000000) (at_zero 3 600000) refl, (not_before (at_zero 3 600000) (at_zero 3 600000) refl, tt)),
      );
      none_tied = (other (at_zero 1 0) no_deadline, (other (at_zero 2 4000000000) another_time, tt));
    }
  where
    no_deadline : never ≡ at 600000 → ◌≡◌ {A = ℕ} 0 1
    no_deadline e = cc

    another_time : at 4000000000 ≡ at 600000 → ◌≡◌ {A = ℕ} 0 1
    another_time e = let n : ◌≡◌ {A = ℕ} 4000000000 600000 = cc in absurd (omega arith)

    other : (j : Job) → (due j ≡ due (at_zero 3 600000) → ◌≡◌ {A = ℕ} 0 1) → EquallyDue j (at_zero 3 600000) → ⊥
    other j n e = let z = n (equally_due j (at_zero 3 600000) e) in omega arith

-- of two that are equally due, the later accepted one
abbrev two : List Job
two = at_zero 1 5 ∷ at_zero 2 5 ∷ []

pub tie_to_later : DueFirst two (at_zero 2 5) → ⊥
unfolding due
tie_to_later d =
    let same : at_zero 1 5 ≡ at_zero 2 5 = one_first two (at_zero 1 5) (at_zero 2 5) first d in
    omega (arith, ap (λ (j : Job). j.request) same)
  where
    first : DueFirst two (at_zero 1 5)
    first =
        record {
          before = [];
          after = at_zero 2 5 ∷ [];
          waited = refl;
          none_sooner = (not_before (at_zero 1 5) (at_zero 1 5) refl, (not_before (at_zero 2 5) (at_zero 1 5) refl, tt));
          none_tied = tt;
        }
