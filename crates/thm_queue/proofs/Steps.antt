-- One call on a queue in which the jobs of a history wait: what it answers, and what waits afterwards.
-- Assumes nothing.
use Prim.Native.Nat.{ℕ, zero, suc, ◌<◌}
use mathlib.Core.Path.{◌≡◌, refl, sym, ap, ◌∙◌}
use mathlib.Core.Logic.{◌⊎◌, inl, inr}
use mathlib.Core.Bool.{Bool, true, false, true≢false}
use mathlib.Core.List.{List, [], ◌∷◌, ◌++◌}
use native.Mathlib.Omega.{arith}
use borrow.Author.Tests.{eq-eqb, ne_eqb, ltb-true}
use lib.ListN.{length, take, drop}
use lib.Seq.{split_at, get_or-take, length-take-le}
use Rattle.laws.proofs.Booleans.{neither}
use Rattle.laws.proofs.Lists.{empty}
use Rattle.queue.specs.declared.Job.{Job}
use Rattle.queue.specs.declared.Queue.{Queue}
use Rattle.queue.specs.Due.{due, earlier}
use Rattle.queue.specs.Waiting.{capacity, latest_arrival, zero_job, waiting, job_at, any, place, has_pair, same_pair, pair_twice}
use Rattle.queue.specs.Waiting.{invalid, earliest, with, without, filled, closed_up}
use Rattle.queue.specs.Calls.{Added, Removed, empty_queue, add_error, remove_error, removed_at, added, taken, cancelled}
use Rattle.queue.proofs.Search.{any_place, any_none, none_at, place_holds}
use Rattle.queue.proofs.Deadlines.{earlier_self}
use Rattle.queue.proofs.Leader.{Leads, earliest_leads}
use Rattle.queue.proofs.Valid.{not_invalid, pair_is, pairs_apart}
use Rattle.queue.proofs.Changes.{Sound, sound_length, waiting_filled, sound_filled, waiting_closed, sound_closed}
use Rattle.refusals.specs.Grounds.{Ground, numbered, Every, First, None, Exactly}
use Rattle.refusals.proofs.Tests.{unlike, reworded, equal, below, not_found, found}
use Rattle.refusals.proofs.Order.{Outcome, end, when, unless, part_of, exactly, first_says, first_number, Numbered}
use Rattle.thm_refusals.specs.Queue.{HasPair}
use Rattle.thm_refusals.proofs.Queue.{pair_waits_lem}
use Rattle.thm_queue.specs.Due.{DueBefore, EquallyDue}
use Rattle.thm_queue.specs.History.{Event, job_accepted, job_taken, job_cancelled, call_refused, queue_emptied, waits}
use Rattle.thm_queue.specs.Calls.{did}
use Rattle.thm_queue.specs.Promise.{DueFirst, Named, add_grounds, take_grounds, cancel_grounds, Removes}
use Rattle.thm_queue.proofs.Due.{not_before, equally_due}
use Rattle.thm_queue.proofs.History.{after_accepted, after_refused, after_emptied, after_removed}

-- ---- lists
pub every : (P : Job → Type 0) (w : List Job) → ((k : ℕ) → k < length w → P (job_at w k)) → Every P w
every P [] f = tt
every P (j ∷ js) f = (f 0 (omega arith), every P js (λ k h. f (suc k) (omega arith)))

pub every_at : (P : Job → Type 0) (w : List Job) → Every P w → (k : ℕ) → k < length w → P (job_at w k)
every_at P [] e k h = absurd (omega arith)
every_at P (j ∷ js) e zero h = e.0
every_at P (j ∷ js) e (suc k) h = every_at P js e.1 k (omega arith)

-- ---- which job is handed out
due_first : (w : List Job) → 0 < length w → DueFirst w (job_at w (earliest w))
due_first w h =
    record {
      before = take b w;
      after = drop (suc b) w;
      waited = split_at w b zero_job l.inside;
      none_sooner = every (λ k. DueBefore k j → ⊥) w (λ k m. not_before (job_at w k) j (l.unbeaten k m));
      none_tied = every (λ k. EquallyDue k j → ⊥) (take b w) tied;
    }
  where
    b : ℕ
    b = earliest w

    l : Leads w (length w) b
    l = earliest_leads w h

    j : Job
    j = job_at w b

    tied : (k : ℕ) → k < length (take b w) → EquallyDue (job_at (take b w) k) j → ⊥
    tied k m e =
        let inside : k < b = omega (arith, length-take-le b w (omega (arith, l.inside))) in
        let same : job_at (take b w) k ≡ job_at w k = get_or-take b w k zero_job inside in
        let tie : due (job_at w k) ≡ due j = sym (ap due same) ∙ equally_due (job_at (take b w) k) j e in
        true≢false (sym (l.first k inside) ∙ ap (earlier (due j)) tie ∙ earlier_self (due j))

refuted : (b : Bool) → (b ≡ true → ⊥) → b ≡ false
refuted true n = absurd (n refl)
refuted false n = refl

module _ (c r : ℕ) where
  -- where no pair waits twice, no other job has the pair
  none_after : (j : Job) (js : List Job) → pair_twice (j ∷ js) ≡ false → has_pair c r j ≡ true → any (has_pair c r) js ≡ false
  none_after j js apart e =
      any_none (has_pair c r) js
      (λ k h. refuted (has_pair c r (job_at js k))
      (λ f. omega (arith, pairs_apart (j ∷ js) c r 0 (suc k) apart (omega arith) (omega arith) e f)))

  none_other :
      (w : List Job) (at : ℕ) → pair_twice w ≡ false → at < length w → has_pair c r (job_at w at) ≡ true
      → any (has_pair c r) (without w at) ≡ false
  none_other [] at apart h e = absurd (omega arith)
  none_other (j ∷ js) zero apart h e = none_after j js apart e
  none_other (j ∷ js) (suc at) apart h e =
      rw
      (refuted (has_pair c r j)
      (λ f. omega (arith, pairs_apart (j ∷ js) c r 0 (suc at) apart (omega arith) (omega arith) f e)))
      (none_other js at (neither (any (same_pair j) js) (pair_twice js) apart).1 (omega arith) e)

  every_other : (w : List Job) → any (has_pair c r) w ≡ false → Every (λ k. HasPair c r k → ⊥) w
  every_other w e =
      every (λ k. HasPair c r k → ⊥) w
      (λ k h p. let j = job_at w k in
      true≢false (sym (rw (eq-eqb j.connection c p.0, eq-eqb j.request r p.1) refl) ∙ none_at (has_pair c r) w k e h))

  named : (w : List Job) → pair_twice w ≡ false → any (has_pair c r) w ≡ true → Named w c r (job_at w (place (has_pair c r) w))
  named w apart e =
      record {
        before = take at w;
        after = drop (suc at) w;
        waited = split_at w at zero_job inside;
        has_pair_lem = pair_is c r (job_at w at) held;
        no_other = every_other (without w at) (none_other w at apart inside held);
      }
    where
      at : ℕ
      at = place (has_pair c r) w

      inside : at < length w
      inside = ltb-true at (length w) (sym (any_place (has_pair c r) w) ∙ e)

      held : has_pair c r (job_at w at) ≡ true
      held = place_holds (has_pair c r) w inside

-- ---- the queue after a call
pub record Next (past : List Event) (e : Event) (q : Queue) : Type 0 where
  pub stays : Sound q
  pub waiting_is : waiting q ≡ waits (past ++ (e ∷ []))

-- a call that is refused changes nothing
pub did_refuse : (n : ℕ) (e : Event) → 0 < n → did n e ≡ call_refused n
did_refuse n e h = rw (ne_eqb n 0 (omega arith))

module _ (q : Queue) (s : Sound q) (past : List Event) (is : waiting q ≡ waits past) where
  ok : invalid q ≡ false
  ok = not_invalid q s.checked

  long : length (waiting q) ≡ q.count
  long = sound_length q s

  refused_next : (n : ℕ) (e : Event) → 0 < n → Next past (did n e) q
  refused_next n e h = rw (did_refuse n e h) (record { stays = s; waiting_is = is ∙ sym (after_refused past n) })

  -- ---- add
  module _ (j : Job) where
    abbrev grounds : List Ground
    grounds = add_grounds (waiting q) j

    add_numbered : Numbered grounds
    add_numbered = search arith depth 20

    add_outcome : Outcome grounds (add_error q) (record { queue = filled q j; error = 0 }) (added q j)
    unfolding added
    add_outcome =
        rw ok
        (when (below latest_arrival j.arrival)
        (when (pair_waits_lem j.connection j.request (waiting q))
        (when (reworded (λ e. long ∙ e) (λ e. sym long ∙ e) (equal q.count capacity))
        end)))

    pub add_answers : Exactly (numbered (add_grounds (waiting q) j)) (added q j).error
    add_answers =
        exactly (numbered grounds) (added q j).error (λ none. refl) (first_says grounds add_numbered)
        (part_of (λ (a : Added). a.error) add_outcome)

    accepted_next : None grounds → Next past (job_accepted j) (filled q j)
    accepted_next none =
        let not_full : q.count ≡ capacity → ⊥ = λ e. none.1.1.0 (long ∙ e) in
        let room : q.count < capacity = omega (arith, s.checked.few) in
        let early = not_found (below latest_arrival j.arrival) none.0 in
        let apart = not_found (pair_waits_lem j.connection j.request (waiting q)) none.1.0 in
        record {
          stays = sound_filled q j s room early apart;
          waiting_is = waiting_filled q j s room ∙ ap (λ (w : List Job). with w j) is ∙ sym (after_accepted past j);
        }

    pub add_next : Next past (did (added q j).error (job_accepted j)) (added q j).queue
    add_next = by add_outcome.is
      where
        by :
            (None grounds × (added q j ≡ record { queue = filled q j; error = 0 }))
            ⊎ ((n : ℕ) × First grounds n × (added q j ≡ add_error q n))
            → Next past (did (added q j).error (job_accepted j)) (added q j).queue
        by (inl h) = rw h.1 (accepted_next h.0)
        by (inr h) = rw h.2 (refused_next h.0 (job_accepted j) (first_number grounds add_numbered h.0 h.1))

  -- ---- take and cancel, by the place of the job that is removed
  module _
      (gs : List Ground) (some : Numbered gs) (at : ℕ) (r : Removed)
      (o : Outcome gs (remove_error q) (removed_at q at) r) where
    abbrev Case : Type 0
    Case = (None gs × (r ≡ removed_at q at)) ⊎ ((n : ℕ) × First gs n × (r ≡ remove_error q n))

    removes : (Handed : Job → Type 0) → (None gs → Handed (job_at (waiting q) at)) → Removes gs Handed r.job r.error
    removes Handed hands =
        record {
          number = exactly (numbered gs) r.error (λ none. refl) (first_says gs some) (part_of (λ (a : Removed). a.error) o);
          handed = handed o.is;
          no_job = no_job o.is;
        }
      where
        handed : Case → r.error ≡ 0 → Handed r.job
        handed (inl h) e = rw h.1 (hands h.0)
        handed (inr h) e = absurd (omega (arith, sym e ∙ ap (λ (a : Removed). a.error) h.2, first_number gs some h.0 h.1))

        no_job : Case → 0 < r.error → r.job ≡ zero_job
        no_job (inl h) e = absurd (omega (arith, ap (λ (a : Removed). a.error) h.1))
        no_job (inr h) e = ap (λ (a : Removed). a.job) h.2

    removed_next :
        (made : Job → Event) → (None gs → at < q.count)
        → (at < length (waits past) → waits (past ++ (made (job_at (waits past) at) ∷ [])) ≡ without (waits past) at)
        → Next past (did r.error (made r.job)) r.queue
    removed_next made inside leaves = by o.is
      where
        gone : None gs → Next past (made (job_at (waiting q) at)) (closed_up q at)
        gone none =
            record {
              stays = sound_closed q at s (inside none);
              waiting_is =
                  waiting_closed q at s (inside none)
                  ∙ ap (λ (w : List Job). without w at) is
                  ∙ sym (leaves (omega (arith, inside none, sym (ap length is) ∙ long)))
                  ∙ ap (λ (w : List Job). waits (past ++ (made (job_at w at) ∷ []))) (sym is);
            }

        by : Case → Next past (did r.error (made r.job)) r.queue
        by (inl h) = rw h.1 (gone h.0)
        by (inr h) = rw h.2 (refused_next h.0 (made zero_job) (first_number gs some h.0 h.1))

  apart : pair_twice (waits past) ≡ false
  apart = ap pair_twice (sym is) ∙ s.checked.apart

  -- ---- take
  abbrev takes : List Ground
  takes = take_grounds (waiting q)

  take_numbered : Numbered takes
  take_numbered = search arith depth 20

  take_outcome : Outcome takes (remove_error q) (removed_at q (earliest (waiting q))) (taken q)
  unfolding taken
  take_outcome =
      rw ok
      (when (reworded (λ e. empty (waiting q) (omega (arith, long, e))) (λ e. sym long ∙ ap length e) (equal q.count 0))
      end)

  some_wait : None takes → 0 < length (waiting q)
  some_wait none = by (waiting q) none.0
    where
      by : (w : List Job) → (w ≡ [] → ⊥) → 0 < length w
      by [] n = absurd (n refl)
      by (j ∷ js) n = omega arith

  pub take_answers : Removes (take_grounds (waiting q)) (DueFirst (waiting q)) (taken q).job (taken q).error
  take_answers =
      removes takes take_numbered (earliest (waiting q)) (taken q) take_outcome (DueFirst (waiting q))
      (λ none. due_first (waiting q) (some_wait none))

  pub take_next : Next past (did (taken q).error (job_taken (taken q).job)) (taken q).queue
  take_next =
      removed_next takes take_numbered (earliest (waiting q)) (taken q) take_outcome job_taken
      (λ none. omega (arith, long, (earliest_leads (waiting q) (some_wait none)).inside))
      (after_removed job_taken (λ j k. refl) (λ k. refl) past (earliest (waiting q)) apart)

  -- ---- cancel
  module _ (c r : ℕ) where
    abbrev cancels : List Ground
    cancels = cancel_grounds (waiting q) c r

    abbrev at_pair : ℕ
    at_pair = place (has_pair c r) (waiting q)

    cancel_numbered : Numbered cancels
    cancel_numbered = search arith depth 20

    cancel_outcome : Outcome cancels (remove_error q) (removed_at q at_pair) (cancelled q c r)
    unfolding cancelled
    cancel_outcome = rw ok (unless (unlike (pair_waits_lem c r (waiting q))) end)

    it_waits : None cancels → any (has_pair c r) (waiting q) ≡ true
    it_waits none = found (pair_waits_lem c r (waiting q)) none.0

    pub cancel_answers :
        Removes (cancel_grounds (waiting q) c r) (Named (waiting q) c r) (cancelled q c r).job (cancelled q c r).error
    cancel_answers =
        removes cancels cancel_numbered at_pair (cancelled q c r) cancel_outcome (Named (waiting q) c r)
        (λ none. named c r (waiting q) s.checked.apart (it_waits none))

    pub cancel_next : Next past (did (cancelled q c r).error (job_cancelled (cancelled q c r).job)) (cancelled q c r).queue
    cancel_next =
        removed_next cancels cancel_numbered at_pair (cancelled q c r) cancel_outcome job_cancelled
        (λ none. omega (arith, long, ltb-true at_pair (length (waiting q)) (sym (any_place (has_pair c r) (waiting q)) ∙ it_waits none)))
        (after_removed job_cancelled (λ j k. refl) (λ k. refl) past at_pair apart)

-- ---- init, on any memory
pub init_next : (past : List Event) → Next past queue_emptied empty_queue
init_next past =
    record {
      stays = record { checked = record { few = omega arith; apart = refl; early = refl }; places = refl };
      waiting_is = sym (after_emptied past);
    }
