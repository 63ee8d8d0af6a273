-- Laws of `any` and `place`: a place found holds a job with the property and no earlier place does; some job has the
-- property exactly where the place is inside the list.
-- Assumes nothing.
use Prim.Native.Nat.{ℕ, zero, suc, ◌<◌}
use mathlib.Core.Path.{◌≡◌, refl, sym, ap, ◌∙◌}
use mathlib.Core.Bool.{Bool, true, false, cond, ◌||◌}
use mathlib.Core.List.{List, [], ◌∷◌}
use native.Mathlib.Omega.{arith}
use borrow.Author.Tests.{lt-ltb, ltb-false}
use lib.Dec.{ltb, leb-suc-suc}
use lib.ListN.{length}
use Rattle.laws.proofs.Booleans.{or_right}
use Rattle.queue.specs.declared.Job.{Job}
use Rattle.std.specs.List.{AllWithin, HoldsAt}
use Rattle.std.specs.Option.{MatchOption, is_some}
use Rattle.std.specs.declared.option.Option.{Option}
use Rattle.std.specs.declared.option.Option.TheVariants.{None, Some}
use Rattle.queue.specs.Found.{AtPlace, Nowhere}
use Rattle.queue.specs.Waiting.{zero_job, any, place, job_at}

module _ (p : Job → Bool) where
  pub place_holds : (w : List Job) → place p w < length w → p (job_at w (place p w)) ≡ true
  place_holds [] h = absurd (omega arith)
  place_holds (j ∷ js) h = go (p j) refl h (place_holds js)
    where
      go :
          (b : Bool) → p j ≡ b
          → cond b 0 (suc (place p js)) < suc (length js)
          → (place p js < length js → p (job_at js (place p js)) ≡ true)
          → p (job_at (j ∷ js) (cond b 0 (suc (place p js)))) ≡ true
      go true e l ih = e
      go false e l ih = ih (omega arith)

  pub place_passes : (w : List Job) (k : ℕ) → k < place p w → k < length w → p (job_at w k) ≡ false
  place_passes [] k h l = absurd (omega arith)
  place_passes (j ∷ js) zero h l = go (p j) refl h
    where
      go : (b : Bool) → p j ≡ b → 0 < cond b 0 (suc (place p js)) → p j ≡ false
      go true e m = absurd (omega arith)
      go false e m = e
  place_passes (j ∷ js) (suc k) h l = place_passes js k (go (p j) h) (omega arith)
    where
      go : (b : Bool) → suc k < cond b 0 (suc (place p js)) → k < place p js
      go true m = absurd (omega arith)
      go false m = omega arith

  pub place_is : (w : List Job) (b : ℕ) → b < length w → p (job_at w b) ≡ true → ((k : ℕ) → k < b → p (job_at w k) ≡ false) → place p w ≡ b
  place_is [] b h e f = absurd (omega arith)
  place_is (j ∷ js) zero h e f = rw e
  place_is (j ∷ js) (suc b) h e f =
      rw (f 0 (omega arith)) (ap suc (place_is js b (omega arith) e (λ k l. f (suc k) (omega arith))))

  pub any_none : (w : List Job) → ((k : ℕ) → k < length w → p (job_at w k) ≡ false) → any p w ≡ false
  any_none [] f = refl
  any_none (j ∷ js) f = rw (f 0 (omega arith)) (any_none js (λ k h. f (suc k) (omega arith)))

  pub any_some : (w : List Job) (k : ℕ) → k < length w → p (job_at w k) ≡ true → any p w ≡ true
  any_some [] k h e = absurd (omega arith)
  any_some (j ∷ js) zero h e = rw e
  any_some (j ∷ js) (suc k) h e = or_right (p j) (any p js) (any_some js k (omega arith) e)

  pub any_place : (w : List Job) → any p w ≡ ltb (place p w) (length w)
  any_place [] = refl
  any_place (j ∷ js) = go (p j) (any_place js)
    where
      go : (b : Bool) → any p js ≡ ltb (place p js) (length js) → (b || any p js) ≡ ltb (cond b 0 (suc (place p js))) (suc (length js))
      go true ih = sym (lt-ltb 0 (suc (length js)) (omega arith))
      go false ih = ih ∙ sym (leb-suc-suc (suc (place p js)) (length js))

  -- no job has the property
  pub none_at : (w : List Job) (k : ℕ) → any p w ≡ false → k < length w → p (job_at w k) ≡ false
  none_at w k e h = place_passes w k (omega (arith, ltb-false (place p w) (length w) (sym (any_place w) ∙ e))) h

-- what `position` says of a list
pub found_in :
    (p : Job → Bool) (w : List Job) (r : Option ℕ)
    → MatchOption r (AllWithin (λ j. p j ≡ false) w 0 (length w))
    (λ i. (i < length w) × HoldsAt (λ j. p j ≡ true) w i × AllWithin (λ j. p j ≡ false) w 0 i)
    → MatchOption r (Nowhere p w) (AtPlace p w)
found_in p w None h = any_none p w (λ k l. h k zero_job (omega arith) l)
found_in p w (Some i) h =
    record {
      some = any_some p w i h.0 (h.1 zero_job);
      inside = h.0;
      is_place = sym (place_is p w i h.0 (h.1 zero_job) (λ k l. h.2 k zero_job (omega arith) l));
    }

-- some job has the property where one was found
pub finds : (p : Job → Bool) (w : List Job) (r : Option ℕ) → MatchOption r (Nowhere p w) (AtPlace p w) → any p w ≡ is_some r
finds p w None h = h
finds p w (Some i) h = h.some
