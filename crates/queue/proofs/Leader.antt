-- The job due first among the first jobs of a list, as a scan from the front keeps it, and that it is the earliest of the definitions.
-- Assumes nothing.
use Prim.Native.Nat.{ℕ, zero, suc, ◌+◌, ◌≤◌, ◌<◌}
use mathlib.Core.Path.{◌≡◌, refl, ap}
use mathlib.Core.Bool.{Bool, true, false, not}
use mathlib.Core.List.{List, [], ◌∷◌}
use native.Mathlib.Omega.{arith}
use native.Mathlib.Numerals.{add-one}
use borrow.Author.Count.{below_more}
use lib.ListN.{length, take}
use lib.Seq.{length-take-le, take-length, get_or-take}
use Rattle.queue.specs.declared.Job.{Job}
use Rattle.queue.specs.declared.Queue.{Queue}
use Rattle.queue.specs.Due.{due, due_before}
use Rattle.queue.specs.Waiting.{zero_job, waiting, earliest, job_at, none_before}
use Rattle.queue.proofs.Search.{place_is, any_none, any_some}
use Rattle.queue.proofs.Deadlines.{earlier_self, earlier_back, earlier_past}

-- of the first i jobs, none is due before the one at b, and it is due before each that is at an earlier place
pub record Leads (w : List Job) (i b : ℕ) : Type 0 where
  pub inside : b < i
  pub unbeaten : (k : ℕ) → k < i → due_before (job_at w k) (job_at w b) ≡ false
  pub first : (k : ℕ) → k < b → due_before (job_at w b) (job_at w k) ≡ true

module _ (w : List Job) where
  pub leads_one : Leads w 1 0
  leads_one =
      record {
        inside = omega arith;
        unbeaten = λ k h. let e : k ≡ 0 = omega arith in rw e (earlier_self (due (job_at w 0)));
        first = λ k h. absurd (omega arith);
      }

  -- one job more: it is due before the leader, or not
  module _ (i b : ℕ) (l : Leads w i b) where
    pub leads_changed : due_before (job_at w i) (job_at w b) ≡ true → Leads w (i + 1) i
    leads_changed e =
        record {
          inside = omega arith;
          unbeaten = below_more _ _ (λ k h. earlier_back (due (job_at w i)) (due (job_at w k)) (passed k h)) (earlier_self (due (job_at w i)));
          first = passed;
        }
      where
        passed : (k : ℕ) → k < i → due_before (job_at w i) (job_at w k) ≡ true
        passed k h = earlier_past (due (job_at w i)) (due (job_at w b)) (due (job_at w k)) e (l.unbeaten k h)

    pub leads_still : due_before (job_at w i) (job_at w b) ≡ false → Leads w (i + 1) b
    leads_still e =
        record {
          inside = omega (arith, l.inside);
          unbeaten = below_more _ _ l.unbeaten e;
          first = l.first;
        }

  -- the leader of the first n jobs is their earliest
  pub leads_earliest : (n b : ℕ) → n ≤ length w → Leads w n b → earliest (take n w) ≡ b
  unfolding earliest
  leads_earliest n b fits l =
      place_is (none_before (take n w)) (take n w) b (omega (arith, long, l.inside))
      (ap not (any_none (λ k. due_before k (job_at (take n w) b)) (take n w) (λ k h. unbeaten k (omega (arith, long)))))
      (λ k h. ap not (any_some (λ m. due_before m (job_at (take n w) k)) (take n w) b (omega (arith, long, l.inside)) (first k h)))
    where
      long : length (take n w) ≡ n
      long = length-take-le n w fits

      same : (k : ℕ) → k < n → job_at (take n w) k ≡ job_at w k
      same k h = get_or-take n w k zero_job h

      unbeaten : (k : ℕ) → k < n → due_before (job_at (take n w) k) (job_at (take n w) b) ≡ false
      unbeaten k h = rw (same k h, same b l.inside) (l.unbeaten k h)

      first : (k : ℕ) → k < b → due_before (job_at (take n w) b) (job_at (take n w) k) ≡ true
      first k h = rw (same k (omega (arith, l.inside)), same b l.inside) (l.first k h)

  -- every list that is not empty has one
  pub leader : (n : ℕ) → (b : ℕ) × Leads w (suc n) b
  leader zero = (0, leads_one)
  leader (suc n) = go (leader n)
    where
      go : (b : ℕ) × Leads w (suc n) b → (b : ℕ) × Leads w (suc (suc n)) b
      go (b, l) = turn (due_before (job_at w (suc n)) (job_at w b)) refl
        where
          turn : (t : Bool) → due_before (job_at w (suc n)) (job_at w b) ≡ t → (b : ℕ) × Leads w (suc (suc n)) b
          turn true e = (suc n, rw add-one at (leads_changed (suc n) b l e))
          turn false e = (b, rw add-one at (leads_still (suc n) b l e))

-- a list that is not empty has its earliest inside, and it leads the list
pub earliest_leads : (w : List Job) → 0 < length w → Leads w (length w) (earliest w)
earliest_leads [] h = absurd (omega arith)
earliest_leads (j ∷ js) h =
    let l = leader (j ∷ js) (length js) in
    let e : earliest (j ∷ js) ≡ l.0 =
    rw (take-length (j ∷ js)) at (leads_earliest (j ∷ js) (suc (length js)) l.0 (omega arith) l.1) in
    rw e l.1

pub earliest_below : (q : Queue) → q.count ≤ length q.jobs → 0 < q.count → earliest (waiting q) < q.count
earliest_below q fits h =
    let n : length (waiting q) ≡ q.count = length-take-le q.count q.jobs fits in
    omega (arith, (earliest_leads (waiting q) (omega arith)).inside)
