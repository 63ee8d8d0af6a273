-- What becomes of the waiting jobs when one is stored or removed: the list of the definitions, and a sound queue stays sound.
-- Assumes nothing.
use Prim.Native.Nat.{ℕ, zero, suc, ◌-◌, ◌≤◌, ◌<◌}
use mathlib.Core.Path.{◌≡◌, refl, sym, ◌∙◌}
use mathlib.Core.Bool.{Bool, false}
use mathlib.Core.List.{List, [], ◌∷◌}
use native.Mathlib.Omega.{arith}
use lib.ListN.{length, take, drop, set, length-append, length-drop}
use lib.Seq.{length-take-le, take_at, set_split, append_snoc}
use Rattle.laws.proofs.Booleans.{neither}
use Rattle.laws.proofs.Tests.{eqb_comm}
use Rattle.queue.specs.declared.Job.{Job}
use Rattle.queue.specs.declared.Queue.{Queue}
use Rattle.queue.specs.Waiting.{capacity, zero_job, waiting, any, pair_twice, late, invalid, with, without, filled, closed_up, same_pair}
use Rattle.queue.proofs.Valid.{Valid, valid}

-- a queue as `empty` makes it and as every call leaves it: valid, and with a place for each of 64 jobs
pub record Sound (q : Queue) : Type 0 where
  pub checked : Valid q
  pub places : length q.jobs ≡ capacity

pub sound : (q : Queue) → length q.jobs ≡ capacity → invalid q ≡ false → Sound q
sound q l e = record { checked = valid q e; places = l }

pub sound_fits : (q : Queue) → Sound q → q.count ≤ length q.jobs
sound_fits q s = omega (arith, s.checked.few, s.places)

pub sound_length : (q : Queue) → Sound q → length (waiting q) ≡ q.count
sound_length q s = length-take-le q.count q.jobs (sound_fits q s)

-- ---- pairs
pub same_pair_lem : (j k : Job) → same_pair j k ≡ same_pair k j
same_pair_lem j k = rw (eqb_comm k.connection j.connection, eqb_comm k.request j.request)

-- ---- a job is stored
none_more : (p : Job → Bool) (w : List Job) (j : Job) → any p w ≡ false → p j ≡ false → any p (with w j) ≡ false
none_more p [] j e f = rw f
none_more p (k ∷ ks) j e f = let s = neither (p k) (any p ks) e in rw s.0 (none_more p ks j s.1 f)

pub apart_with : (w : List Job) (j : Job) → pair_twice w ≡ false → any (same_pair j) w ≡ false → pair_twice (with w j) ≡ false
apart_with [] j e f = refl
apart_with (k ∷ ks) j e f =
    let s = neither (any (same_pair k) ks) (pair_twice ks) e in
    let t = neither (same_pair j k) (any (same_pair j) ks) f in
    rw (none_more (same_pair k) ks j s.0 (same_pair_lem k j ∙ t.0)) (apart_with ks j s.1 t.1)

-- a store at the count fills the first free place
pub filled_queue :
    (q : Queue) (j : Job) {n : ℕ} → q.count < length q.jobs → n ≡ suc q.count
    → ◌≡◌ {A = Queue} (record { jobs = set q.jobs q.count j; count = n }) (filled q j)
filled_queue q j h e =
    rw (set_split q.jobs q.count j h ∙ sym (append_snoc (waiting q) j (drop (suc q.count) q.jobs)), e)

module _ (q : Queue) (j : Job) (s : Sound q) (room : q.count < capacity) where
  length_with : length (with (waiting q) j) ≡ suc q.count
  length_with = omega (arith, length-append (waiting q) (j ∷ []), sound_length q s)

  pub waiting_filled : waiting (filled q j) ≡ with (waiting q) j
  waiting_filled = take_at (with (waiting q) j) (drop (suc q.count) q.jobs) (suc q.count) length_with

  pub sound_filled : late j ≡ false → any (same_pair j) (waiting q) ≡ false → Sound (filled q j)
  sound_filled e f =
      record {
        checked =
            record {
              few = room;
              apart = rw waiting_filled (apart_with (waiting q) j s.checked.apart f);
              early = rw waiting_filled (none_more late (waiting q) j s.checked.early e);
            };
        places =
            length-append (with (waiting q) j) (drop (suc q.count) q.jobs)
            ∙ omega (arith, length_with, length-drop (suc q.count) q.jobs, s.places);
      }

-- ---- a job is removed
none_less : (p : Job → Bool) (w : List Job) (at : ℕ) → any p w ≡ false → any p (without w at) ≡ false
none_less p [] zero e = refl
none_less p [] (suc at) e = refl
none_less p (k ∷ ks) zero e = (neither (p k) (any p ks) e).1
none_less p (k ∷ ks) (suc at) e = let s = neither (p k) (any p ks) e in rw s.0 (none_less p ks at s.1)

apart_without : (w : List Job) (at : ℕ) → pair_twice w ≡ false → pair_twice (without w at) ≡ false
apart_without [] zero e = refl
apart_without [] (suc at) e = refl
apart_without (k ∷ ks) zero e = (neither (any (same_pair k) ks) (pair_twice ks) e).1
apart_without (k ∷ ks) (suc at) e =
    let s = neither (any (same_pair k) ks) (pair_twice ks) e in
    rw (none_less (same_pair k) ks at s.0) (apart_without ks at s.1)

module _ (q : Queue) (at : ℕ) (s : Sound q) (h : at < q.count) where
  length_without : length (without (waiting q) at) ≡ q.count - 1
  length_without =
      length-append (take at (waiting q)) (drop (suc at) (waiting q))
      ∙ omega (arith, sound_length q s, length-take-le at (waiting q) (omega (arith, sound_length q s)), length-drop (suc at) (waiting q))

  pub waiting_closed : waiting (closed_up q at) ≡ without (waiting q) at
  unfolding closed_up
  waiting_closed = take_at (without (waiting q) at) (zero_job ∷ drop q.count q.jobs) (q.count - 1) length_without

  places_closed : length (closed_up q at).jobs ≡ capacity
  unfolding closed_up
  places_closed =
      length-append (without (waiting q) at) (zero_job ∷ drop q.count q.jobs)
      ∙ omega (arith, length_without, length-drop q.count q.jobs, s.places, sound_fits q s)

  count_closed : (closed_up q at).count ≤ capacity
  unfolding closed_up
  count_closed = omega (arith, s.checked.few)

  pub sound_closed : Sound (closed_up q at)
  sound_closed =
      record {
        checked =
            record {
              few = count_closed;
              apart = rw waiting_closed (apart_without (waiting q) at s.checked.apart);
              early = rw waiting_closed (none_less late (waiting q) at s.checked.early);
            };
        places = places_closed;
      }
