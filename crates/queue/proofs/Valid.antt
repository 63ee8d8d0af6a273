-- What a valid queue holds, and how the check for an invalid one goes up the list place by place.
-- Assumes nothing.
use Prim.Native.Nat.{ℕ, zero, suc, ◌≤◌, ◌<◌}
use mathlib.Core.Path.{◌≡◌, refl, sym, ◌∙◌}
use mathlib.Core.Bool.{Bool, true, false, true≢false, ◌||◌}
use mathlib.Core.List.{List, [], ◌∷◌}
use native.Mathlib.Omega.{arith}
use native.Mathlib.Decide.{dec_lt}
use borrow.Author.Tests.{lt-ltb, le-ltb, ltb-false, eqb-true}
use lib.Dec.{ltb, eqb}
use lib.ListN.{length}
use lib.Seq.{length-take-le, get_or-take}
use Rattle.laws.proofs.Booleans.{both, neither, or_right}
use Rattle.queue.specs.declared.Job.{Job}
use Rattle.queue.specs.declared.Queue.{Queue}
use Rattle.queue.specs.Waiting.{capacity, latest_arrival, zero_job, waiting, any, has_pair, pair_twice, late, invalid, job_at}
use Rattle.queue.specs.Waiting.{same_pair}
use Rattle.queue.specs.Found.{Waits}
use Rattle.queue.proofs.Search.{any_some, none_at}

-- a queue that is not invalid
pub record Valid (q : Queue) : Type 0 where
  pub few : q.count ≤ capacity
  pub apart : pair_twice (waiting q) ≡ false
  pub early : any late (waiting q) ≡ false

pub valid : (q : Queue) → invalid q ≡ false → Valid q
unfolding invalid
valid q e =
    let a = neither (ltb capacity q.count) (pair_twice (waiting q) || any late (waiting q)) e in
    let b = neither (pair_twice (waiting q)) (any late (waiting q)) a.1 in
    record { few = ltb-false capacity q.count a.0; apart = b.0; early = b.1 }

pub not_invalid : (q : Queue) → Valid q → invalid q ≡ false
unfolding invalid
not_invalid q v = rw (le-ltb capacity q.count v.few, v.apart, v.early)

-- what is wrong with a list of jobs that wait
abbrev pub fault : List Job → Bool
fault w = pair_twice w || any late w

pub over_invalid : (q : Queue) → capacity < q.count → invalid q ≡ true
unfolding invalid
over_invalid q h = rw (lt-ltb capacity q.count h)

pub fault_invalid : (q : Queue) → fault (waiting q) ≡ true → invalid q ≡ true
unfolding invalid
fault_invalid q e = or_right (ltb capacity q.count) (fault (waiting q)) e

pub waits : (q : Queue) → length q.jobs ≡ capacity → q.count ≤ capacity → fault (waiting q) ≡ false → Waits q (waiting q)
unfolding invalid
waits q n h e =
    record {
      valid = rw (le-ltb capacity q.count h, e);
      are = refl;
      long = length-take-le q.count q.jobs (omega arith);
      few = h;
      early = (neither (pair_twice (waiting q)) (any late (waiting q)) e).1;
    }

-- the tests of the code
pub ruleset checked = (over_invalid, fault_invalid, waits)

-- the waiting arrivals of a valid queue are small
pub arrival_at :
    (q : Queue) (k : ℕ) → invalid q ≡ false → q.count ≤ length q.jobs → k < q.count
    → (job_at q.jobs k).arrival ≤ latest_arrival
arrival_at q k e fits h =
    let n : length (waiting q) ≡ q.count = length-take-le q.count q.jobs fits in
    let l : late (job_at (waiting q) k) ≡ false = none_at late (waiting q) k (valid q e).early (omega arith) in
    ltb-false latest_arrival (job_at q.jobs k).arrival (rw (get_or-take q.count q.jobs k zero_job h) at l)

-- where no pair is there twice, a pair is at one place only
pub pair_is : (c r : ℕ) (j : Job) → has_pair c r j ≡ true → (j.connection ≡ c) × (j.request ≡ r)
pair_is c r j e =
    let s = both (eqb j.connection c) (eqb j.request r) e in
    (eqb-true j.connection c s.0, eqb-true j.request r s.1)

module _ (c r : ℕ) where
  pair_again :
      (w : List Job) (i k : ℕ) → i < k → k < length w
      → has_pair c r (job_at w i) ≡ true → has_pair c r (job_at w k) ≡ true → pair_twice w ≡ true
  pair_again [] i k h l e f = absurd (omega arith)
  pair_again (j ∷ js) i zero h l e f = absurd (omega arith)
  pair_again (j ∷ js) zero (suc k) h l e f =
      let p = pair_is c r j e in
      rw (any_some (same_pair j) js k (omega arith) (rw (p.0, p.1) f))
  pair_again (j ∷ js) (suc i) (suc k) h l e f =
      or_right (any (same_pair j) js) (pair_twice js) (pair_again js i k (omega arith) (omega arith) e f)

pub pairs_apart :
    (w : List Job) (c r i k : ℕ) → pair_twice w ≡ false
    → i < length w → k < length w
    → has_pair c r (job_at w i) ≡ true → has_pair c r (job_at w k) ≡ true → i ≡ k
pairs_apart w c r i k n h l e f = go (dec_lt i k) (dec_lt k i)
  where
    go : Dec (i < k) → Dec (k < i) → i ≡ k
    go (yes a) b = absurd (true≢false (sym (pair_again c r w i k a l e f) ∙ n))
    go (no a) (yes b) = absurd (true≢false (sym (pair_again c r w k i b h f e) ∙ n))
    go (no a) (no b) = omega arith

-- ---- the check for a fault goes up the list job by job
module _ (j : Job) (js : List Job) where
  pub late_here : late j ≡ true → fault (j ∷ js) ≡ true
  late_here e = or_right (pair_twice (j ∷ js)) (any late (j ∷ js)) (rw e)

  pub twice_here : any (same_pair j) js ≡ true → fault (j ∷ js) ≡ true
  twice_here e = rw e

  pub no_fault_here : late j ≡ false → any (same_pair j) js ≡ false → fault (j ∷ js) ≡ fault js
  no_fault_here e f = rw (e, f)
