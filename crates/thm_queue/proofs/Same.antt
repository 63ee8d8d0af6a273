-- For a user: only the history decides each answer.
--
-- Promised: of two runs with the same calls and the same history before them, on whatever memory, each call reports the same
-- (`same_answers`). It follows from the promise, so the promise leaves nothing open of what a caller gets.
-- Not promised: that the memory past the count is the same.
-- Ruled out: an answer that depends on what is past the count, on the order in which places were freed, or on anything else that
-- the history does not show.
-- Assumes nothing.
use Prim.Native.Nat.{ℕ, zero, suc, ◌<◌}
use mathlib.Core.Path.{◌≡◌, refl, sym, ap, subst, ◌∙◌}
use mathlib.Core.Logic.{◌⊎◌, inl, inr}
use mathlib.Core.List.{List, [], ◌∷◌, ◌++◌, map}
use native.Mathlib.Omega.{arith}
use native.Mathlib.Decide.{dec_lt, ℕ_discrete}
use lib.ListN.{length, get_or-append, length-append}
use lib.Seq.{get_or-append_seam}
use Rattle.laws.proofs.Booleans.{clash}
use Rattle.queue.specs.declared.Job.{Job}
use Rattle.queue.specs.Waiting.{zero_job, job_at}
use Rattle.queue.specs.Calls.{new_job}
use Rattle.refusals.specs.Grounds.{Ground, numbered, Exactly}
use Rattle.thm_refusals.specs.Queue.{HasPair}
use Rattle.thm_queue.specs.Due.{due_at, DueBefore, EquallyDue}
use Rattle.thm_queue.specs.History.{Event, job_accepted, waits}
use Rattle.thm_queue.specs.Calls.{Call, init, add, take, cancel, Seen, did, event_of, event, number, report_of, reported, call_of}
use Rattle.thm_queue.specs.Promise.{DueFirst, Named, add_grounds, Removes, Answers, Promise}
use Rattle.thm_queue.proofs.Steps.{every_at}

-- ---- numbers
same_number : (gs : List Ground) (a b : ℕ) → Exactly (numbered gs) a → Exactly (numbered gs) b → a ≡ b
same_number gs zero b x y = sym (y.done (x.worked.0 refl))
same_number gs (suc n) b x y = sym (y.refused (suc n) ((x.given (suc n)).0 refl))

-- ---- jobs
-- of two jobs one is due before the other, or they are equally due
due_apart : (j k : Job) → DueBefore j k ⊎ (EquallyDue j k ⊎ DueBefore k j)
due_apart j k =
    by (ℕ_discrete j.timeout 0) (ℕ_discrete k.timeout 0) (dec_lt (due_at j) (due_at k)) (dec_lt (due_at k) (due_at j))
  where
    by :
        Dec (j.timeout ≡ 0) → Dec (k.timeout ≡ 0) → Dec (due_at j < due_at k) → Dec (due_at k < due_at j)
        → DueBefore j k ⊎ (EquallyDue j k ⊎ DueBefore k j)
    by (yes a) (yes b) c d = inr (inl (inl (a, b)))
    by (yes a) (no b) c d = inr (inr (omega arith, inl a))
    by (no a) (yes b) c d = inl (omega arith, inl b)
    by (no a) (no b) (yes c) d = inl (omega arith, inr (omega arith, c))
    by (no a) (no b) (no c) (yes d) = inr (inr (omega arith, inr (omega arith, d)))
    by (no a) (no b) (no c) (no d) = inr (inl (inr (omega arith, omega arith, omega arith)))

-- the place of a job in a list that is split at it
module _ (w before after : List Job) (j : Job) (e : w ≡ before ++ j ∷ after) where
  placed : job_at w (length before) ≡ j
  placed = ap (λ (v : List Job). job_at v (length before)) e ∙ get_or-append_seam before j after zero_job

  earlier_place : (i : ℕ) → i < length before → job_at before i ≡ job_at w i
  earlier_place i h = sym (get_or-append before (j ∷ after) zero_job i h) ∙ ap (λ (v : List Job). job_at v i) (sym e)

  inside : length before < length w
  inside = omega (arith, ap length e ∙ length-append before (j ∷ after))

-- where neither place is before the other, the job is the same
meet :
    (w a b x y : List Job) (j k : Job) → w ≡ a ++ j ∷ x → w ≡ b ++ k ∷ y
    → (length a < length b → ⊥) → (length b < length a → ⊥) → j ≡ k
meet w a b x y j k e f m n =
    let same : length a ≡ length b = omega arith in
    sym (placed w a x j e) ∙ ap (job_at w) same ∙ placed w b y k f

module _ (w : List Job) where
  none_earlier : (j k : Job) (d : DueFirst w j) (f : DueFirst w k) → length d.before < length f.before → ⊥
  none_earlier j k d f h = by (due_apart j k)
    where
      at : ℕ
      at = length d.before

      here : job_at w at ≡ j
      here = placed w d.before d.after j d.waited

      there : job_at f.before at ≡ j
      there = earlier_place w f.before f.after k f.waited at h ∙ here

      by : DueBefore j k ⊎ (EquallyDue j k ⊎ DueBefore k j) → ⊥
      by (inl sooner) =
          every_at (λ (i : Job). DueBefore i k → ⊥) w f.none_sooner at (inside w d.before d.after j d.waited)
          (subst (λ (i : Job). DueBefore i k) (sym here) sooner)
      by (inr (inl tie)) =
          every_at (λ (i : Job). EquallyDue i k → ⊥) f.before f.none_tied at h
          (subst (λ (i : Job). EquallyDue i k) (sym there) tie)
      by (inr (inr later)) =
          every_at (λ (i : Job). DueBefore i j → ⊥) w d.none_sooner (length f.before)
          (inside w f.before f.after k f.waited)
          (subst (λ (i : Job). DueBefore i j) (sym (placed w f.before f.after k f.waited)) later)

  pub one_first : (j k : Job) → DueFirst w j → DueFirst w k → j ≡ k
  one_first j k d f =
      meet w d.before f.before d.after f.after j k d.waited f.waited (none_earlier j k d f) (none_earlier k j f d)

  module _ (c r : ℕ) where
    no_earlier : (j k : Job) (d : Named w c r j) (f : Named w c r k) → length d.before < length f.before → ⊥
    no_earlier j k d f h =
        every_at (λ (i : Job). HasPair c r i → ⊥) (f.before ++ f.after) f.no_other at
        (omega (arith, length-append f.before f.after))
        (subst (HasPair c r) (sym here) d.has_pair_lem)
      where
        at : ℕ
        at = length d.before

        here : job_at (f.before ++ f.after) at ≡ j
        here =
            get_or-append f.before f.after zero_job at h
            ∙ earlier_place w f.before f.after k f.waited at h
            ∙ placed w d.before d.after j d.waited

    pub one_named : (j k : Job) → Named w c r j → Named w c r k → j ≡ k
    one_named j k d f =
        meet w d.before f.before d.after f.after j k d.waited f.waited (no_earlier j k d f) (no_earlier k j f d)

-- ---- one call
record Same (c : Call) (job₁ job₂ : Job) (error₁ error₂ : ℕ) : Type 0 where
  same_report : report_of c job₁ error₁ ≡ report_of c job₂ error₂
  same_event : event_of c job₁ error₁ ≡ event_of c job₂ error₂

removed_same :
    (gs : List Ground) (Handed : Job → Type 0) → ((j k : Job) → Handed j → Handed k → j ≡ k)
    → (job₁ job₂ : Job) (error₁ error₂ : ℕ) → Removes gs Handed job₁ error₁ → Removes gs Handed job₂ error₂
    → (error₁ ≡ error₂) × (job₁ ≡ job₂)
removed_same gs Handed one job₁ job₂ error₁ error₂ x y = (same, by (ℕ_discrete error₁ 0))
  where
    same : error₁ ≡ error₂
    same = same_number gs error₁ error₂ x.number y.number

    by : Dec (error₁ ≡ 0) → job₁ ≡ job₂
    by (yes z) = one job₁ job₂ (x.handed z) (y.handed (sym same ∙ z))
    by (no n) = x.no_job (omega arith) ∙ sym (y.no_job (omega (arith, same)))

same :
    (w : List Job) (c : Call) (job₁ job₂ : Job) (error₁ error₂ : ℕ)
    → Answers w c job₁ error₁ → Answers w c job₂ error₂ → Same c job₁ job₂ error₁ error₂
same w init job₁ job₂ error₁ error₂ x y = record { same_report = refl; same_event = refl }
same w (add c r t a) job₁ job₂ error₁ error₂ x y =
    let j = new_job c r t a in
    let e = same_number (add_grounds w j) error₁ error₂ x y in
    record { same_report = ap number e; same_event = ap (λ (n : ℕ). did n (job_accepted j)) e }
same w take job₁ job₂ error₁ error₂ x y =
    let e = removed_same _ (DueFirst w) (one_first w) job₁ job₂ error₁ error₂ x y in
    record { same_report = rw (e.0, e.1); same_event = rw (e.0, e.1) }
same w (cancel c r) job₁ job₂ error₁ error₂ x y =
    let e = removed_same _ (Named w c r) (one_named w c r) job₁ job₂ error₁ error₂ x y in
    record { same_report = rw (e.0, e.1); same_event = rw (e.0, e.1) }

-- ---- all calls
pub same_answers :
    (past : List Event) (ss ts : List Seen) → map call_of ss ≡ map call_of ts
    → Promise past ss → Promise past ts → map reported ss ≡ map reported ts
same_answers past [] [] e p r = refl
same_answers past [] (t ∷ ts) e p r = clash cc
same_answers past (s ∷ ss) [] e p r = clash cc
same_answers past (s ∷ ss) (t ∷ ts) e p r =
    let call : s.call ≡ t.call = cc in
    let calls : map call_of ss ≡ map call_of ts = cc in
    let other = subst (λ (c : Call). Answers (waits past) c t.job t.error) (sym call) r.0.answers in
    let one = same (waits past) s.call s.job t.job s.error t.error p.0.answers other in
    let report : reported s ≡ reported t = one.same_report ∙ ap (λ (c : Call). report_of c t.job t.error) call in
    let next : event s ≡ event t = one.same_event ∙ ap (λ (c : Call). event_of c t.job t.error) call in
    let later = subst (λ (x : Event). Promise (past ++ (x ∷ [])) ts) (sym next) r.1 in
    let rest = same_answers (past ++ (event s ∷ [])) ss ts calls p.1 later in
    rw (report, rest)
