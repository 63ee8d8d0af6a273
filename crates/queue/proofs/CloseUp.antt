-- How the jobs after a place move up one, and that a queue closed up so is the one of the definitions.
-- Assumes nothing.
use Prim.Native.Nat.{ℕ, suc, ◌+◌, ◌-◌, ◌≤◌, ◌<◌}
use mathlib.Core.Path.{◌≡◌, sym, ap, ap₂, ◌∙◌}
use mathlib.Core.List.{List, ◌∷◌, ◌++◌}
use native.Mathlib.Omega.{arith}
use lib.ListN.{length, take, drop, get_or, set, length-drop}
use native.Mathlib.Numerals.{add-one}
use lib.Seq.{paste, paste-zero, paste-suc, length_paste_head, drop-cons, set_at, take-take, get_or-drop}
use Rattle.laws.proofs.Lists.{drop_take}
use Rattle.queue.specs.declared.Job.{Job}
use Rattle.queue.specs.declared.Queue.{Queue}
use Rattle.queue.specs.Waiting.{closed_up, zero_job, without, job_at}

-- the list once the jobs after `at` have moved up as far as place i; `i - at` is not cut off, since i goes from `at` up
abbrev pub moved_up : List Job → ℕ → ℕ → List Job
moved_up js at i = paste js at (drop (suc at) js) (i - at)

module _ (js : List Job) (at : ℕ) where
  pub moved_up_none : js ≡ moved_up js at at
  moved_up_none = let e : at - at ≡ 0 = omega arith in rw e (paste-zero js at (drop (suc at) js))

  pub moved_up_more :
      (i : ℕ) → at ≤ i → i + 1 < length js
      → set (moved_up js at i) i (job_at js (i + 1)) ≡ moved_up js at (i + 1)
  moved_up_more i h k =
      let e : i ≡ at + (i - at) = omega arith in
      let f : i + 1 ≡ suc at + (i - at) = omega arith in
      let g : suc (i - at) ≡ i + 1 - at = omega arith in
      ap (λ (m : ℕ). set (moved_up js at i) i (job_at js m)) f
      ∙ ap (λ (j : Job). set (moved_up js at i) i j) (sym (get_or-drop (suc at) js (i - at) zero_job))
      ∙ ap (λ (m : ℕ). set (moved_up js at i) m (get_or (drop (suc at) js) (i - at) zero_job)) e
      ∙ paste-suc js at (drop (suc at) js) (i - at) zero_job (omega arith) (omega (arith, length-drop (suc at) js))
      ∙ ap (λ (m : ℕ). paste js at (drop (suc at) js) m) g

  -- the jobs after `at` are copied over those from `at` on
  pub copied_up : (n : ℕ) → at < n → paste js at (drop (at + 1) js) (n - (at + 1)) ≡ moved_up js at (n - 1)
  copied_up n h =
      let f : n - (at + 1) ≡ n - 1 - at = omega arith in
      rw (f, add-one)

  -- the last place of the first n is made zero
  pub moved_up_all :
      (n : ℕ) → at < n → n ≤ length js
      → set (moved_up js at (n - 1)) (n - 1) zero_job ≡ without (take n js) at ++ zero_job ∷ drop n js
  moved_up_all n h k =
      let m : ℕ = n - 1 - at in
      let head : List Job = take at js ++ take m (drop (suc at) js) in
      let e : at + m ≡ n - 1 = omega arith in
      let f : suc (n - 1) ≡ n = omega arith in
      let g : n - suc at ≡ m = omega arith in
      let long : length head ≡ n - 1 =
      length_paste_head js at (drop (suc at) js) m (omega arith) (omega (arith, length-drop (suc at) js)) ∙ e in
      let front : take at (take n js) ≡ take at js = take-take at n js (omega arith) in
      let back : drop (suc at) (take n js) ≡ take m (drop (suc at) js) =
      drop_take (suc at) n js ∙ ap (λ (r : ℕ). take r (drop (suc at) js)) g in
      ap (λ (r : ℕ). set (head ++ drop r js) (n - 1) zero_job) e
      ∙ ap (λ (ks : List Job). set (head ++ ks) (n - 1) zero_job) (drop-cons js (n - 1) zero_job (omega arith))
      ∙ set_at head (job_at js (n - 1)) (drop (suc (n - 1)) js) zero_job (n - 1) long
      ∙ ap (λ (r : ℕ). head ++ zero_job ∷ drop r js) f
      ∙ ap₂ (λ (xs ys : List Job). xs ++ ys ++ zero_job ∷ drop n js) (sym front) (sym back)

-- the queue whose jobs have all moved up
pub closed_queue :
    (q : Queue) (at : ℕ) {js : List Job} {n : ℕ} → at < q.count → q.count ≤ length q.jobs
    → js ≡ set (moved_up q.jobs at (q.count - 1)) (q.count - 1) zero_job
    → n ≡ q.count - 1
    → ◌≡◌ {A = Queue} (record { jobs = js; count = n }) (closed_up q at)
unfolding closed_up
closed_queue q at h k e f = rw (e, f, moved_up_all q.jobs at q.count h k)
