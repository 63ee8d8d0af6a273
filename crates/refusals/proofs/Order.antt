-- A chain of tests in the order of the grounds answers exactly by them.
--
-- An instance is `exactly entry answer .. chain`. The chain has one line for each ground, `unless` (a test that passes) or `when` (a test
-- that finds the ground), and ends with `end`. Where several grounds were looked at together, as an error code, one line is `unless_error`.
-- Assumes nothing.
use Prim.Native.Nat.{ℕ, zero, suc, ◌<◌}
use mathlib.Core.Path.{◌≡◌, refl, sym, ap, subst, ◌∙◌}
use mathlib.Core.Logic.{◌⊎◌, inl, inr, ⊎_elim}
use mathlib.Core.Bool.{Bool, true, false, cond, not, ◌&&◌}
use mathlib.Core.List.{List, [], ◌∷◌, ◌++◌}
use native.Mathlib.Omega.{arith}
use borrow.Author.Tests.{eq-eqb, ne_eqb}
use lib.Dec.{eqb}
use Rattle.laws.proofs.Booleans.{clash}
use Rattle.refusals.specs.Grounds.{Ground, ground_of, First, None, under, Verdict, refuses, works, by_number, number_of, Entry, retold}
use Rattle.refusals.specs.Grounds.{Exactly}
use Rattle.refusals.proofs.Tests.{Told, Finds, Tests}

-- ---- laws of `First` and `None`
pub first_not_none : (gs : List Ground) (n : ℕ) → First gs n → None gs → ⊥
first_not_none [] n f no_one = f
first_not_none (g ∷ gs) n (inl f) no_one = no_one.0 f.0
first_not_none (g ∷ gs) n (inr f) no_one = first_not_none gs n f.1 no_one.1

pub first_once : (gs : List Ground) (a b : ℕ) → First gs a → First gs b → a ≡ b
first_once [] a b f g = absurd f
first_once (g ∷ gs) a b (inl f) (inl h) = f.1 ∙ sym h.1
first_once (g ∷ gs) a b (inl f) (inr h) = absurd (h.0 f.0)
first_once (g ∷ gs) a b (inr f) (inl h) = absurd (f.0 h.0)
first_once (g ∷ gs) a b (inr f) (inr h) = first_once gs a b f.1 h.1

-- no ground gives the number 0
abbrev pub Numbered : List Ground → Type 0
Numbered [] = Unit {0}
Numbered (g ∷ gs) = (g.holds → 0 < g.number) × Numbered gs

pub first_number : (gs : List Ground) → Numbered gs → (n : ℕ) → First gs n → 0 < n
first_number [] p n f = absurd f
first_number (g ∷ gs) p n (inl f) = omega (arith, p.0 f.0, f.1)
first_number (g ∷ gs) p n (inr f) = first_number gs p.1 n f.1

pub by_number_lem : (n : ℕ) → 0 < n → by_number n ≡ refuses n
by_number_lem zero h = absurd (omega arith)
by_number_lem (suc n) h = refl

pub first_says : (gs : List Ground) → Numbered gs → (n : ℕ) → First gs n → by_number n ≡ refuses n
first_says gs p n f = by_number_lem n (first_number gs p n f)

-- two lists of grounds, one after the other
none_both : (gs hs : List Ground) → None gs → None hs → None (gs ++ hs)
none_both [] hs p q = q
none_both (g ∷ gs) hs p q = (p.0, none_both gs hs p.1 q)

first_later : (gs hs : List Ground) (n : ℕ) → None gs → First hs n → First (gs ++ hs) n
first_later [] hs n p f = f
first_later (g ∷ gs) hs n p f = inr (p.0, first_later gs hs n p.1 f)

first_sooner : (gs hs : List Ground) (n : ℕ) → First gs n → First (gs ++ hs) n
first_sooner [] hs n f = absurd f
first_sooner (g ∷ gs) hs n (inl f) = inl f
first_sooner (g ∷ gs) hs n (inr f) = inr (f.0, first_sooner gs hs n f.1)

pub first_split : (gs hs : List Ground) (n : ℕ) → First (gs ++ hs) n → First gs n ⊎ First hs n
first_split [] hs n f = inr f
first_split (g ∷ gs) hs n (inl f) = inl (inl f)
first_split (g ∷ gs) hs n (inr f) = by (first_split gs hs n f.1)
  where
    by : First gs n ⊎ First hs n → First (g ∷ gs) n ⊎ First hs n
    by (inl h) = inl (inr (f.0, h))
    by (inr h) = inr h

-- grounds that hold only where C does
none_under : (C : Type 0) (gs : List Ground) → None gs → None (under C gs)
none_under C [] p = tt
none_under C (g ∷ gs) p = (λ h. p.0 h.1, none_under C gs p.1)

none_unmet : (C : Type 0) (gs : List Ground) → (C → ⊥) → None (under C gs)
none_unmet C [] c = tt
none_unmet C (g ∷ gs) c = (λ h. c h.0, none_unmet C gs c)

first_under : (C : Type 0) (gs : List Ground) → C → (n : ℕ) → First gs n → First (under C gs) n
first_under C [] c n f = absurd f
first_under C (g ∷ gs) c n (inl f) = inl ((c, f.0), f.1)
first_under C (g ∷ gs) c n (inr f) = inr (λ h. f.0 h.1, first_under C gs c n f.1)

-- ---- a chain of tests
-- the answer is the work where no ground holds, else the refusal of the first that does
abbrev pub Went : {A : Type 0} → List Ground → (ℕ → A) → (work a : A) → Type 0
Went gs refusal work a = (None gs × (a ≡ work)) ⊎ ((n : ℕ) × First gs n × (a ≡ refusal n))

pub record Outcome {A : Type 0} (gs : List Ground) (refusal : ℕ → A) (work a : A) : Type 0 where
  pub is : Went gs refusal work a

unless_both : {A : Type 0} (a b : Bool) (later bad : A) → cond a (cond b later bad) bad ≡ cond (a && b) later bad
unless_both true b later bad = refl
unless_both false b later bad = refl

module _ {A : Type 0} {refusal : ℕ → A} {work : A} where
  pub end : Outcome [] refusal work work
  end = record { is = inl (tt, refl) }

  pub passed : {P : Type 0} {n : ℕ} {gs : List Ground} {a : A} → (P → ⊥) → Outcome gs refusal work a
      → Outcome (ground_of n P ∷ gs) refusal work a
  passed p o = record { is = ⊎_elim (λ h. inl ((p, h.0), h.1)) (λ h. inr (h.0, inr (p, h.1), h.2)) o.is }

  pub stopped : {P : Type 0} {n : ℕ} {gs : List Ground} → P → Outcome (ground_of n P ∷ gs) refusal work (refusal n)
  stopped {P} {n} {gs} p = record { is = inr (n, inl (p, refl), refl) }

  -- the later tests may count on it that this ground does not hold
  pub when_not : {b : Bool} {P : Type 0} {n : ℕ} {gs : List Ground} {later : A} → Finds b P → ((P → ⊥) → Outcome gs refusal work later)
      → Outcome (ground_of n P ∷ gs) refusal work (cond b (refusal n) later)
  when_not {b} {P} {n} {gs} {later} t o = by b t.told
    where
      by : (b : Bool) → Told b P → Outcome (ground_of n P ∷ gs) refusal work (cond b (refusal n) later)
      by true p = stopped p
      by false p = passed p (o p)

  pub when : {b : Bool} {P : Type 0} {n : ℕ} {gs : List Ground} {later : A} → Finds b P → Outcome gs refusal work later
      → Outcome (ground_of n P ∷ gs) refusal work (cond b (refusal n) later)
  when t o = when_not t (λ no. o)

  pub unless : {ok : Bool} {P : Type 0} {n : ℕ} {gs : List Ground} {later : A} → Tests ok P → Outcome gs refusal work later
      → Outcome (ground_of n P ∷ gs) refusal work (cond ok later (refusal n))
  unless {ok} {P} {n} {gs} {later} t o = by ok t.told
    where
      by : (ok : Bool) → Told (not ok) P → Outcome (ground_of n P ∷ gs) refusal work (cond ok later (refusal n))
      by true p = passed p o
      by false p = stopped p

  -- one test for two or three grounds of one number
  pub unless_two : {a b : Bool} {P Q : Type 0} {n : ℕ} {gs : List Ground} {later : A} → Tests a P → Tests b Q
      → Outcome gs refusal work later
      → Outcome (ground_of n P ∷ ground_of n Q ∷ gs) refusal work (cond (a && b) later (refusal n))
  unless_two {a} {b} {P} {Q} {n} {gs} {later} p q o =
      subst (Outcome (ground_of n P ∷ ground_of n Q ∷ gs) refusal work) (unless_both a b later (refusal n)) (unless p (unless q o))

  pub unless_three : {a b c : Bool} {P Q R : Type 0} {n : ℕ} {gs : List Ground} {later : A} → Tests a P → Tests b Q → Tests c R
      → Outcome gs refusal work later
      → Outcome (ground_of n P ∷ ground_of n Q ∷ ground_of n R ∷ gs) refusal work (cond (a && b && c) later (refusal n))
  unless_three {a} {b} {c} {P} {Q} {R} {n} {gs} {later} p q r o =
      subst (Outcome (ground_of n P ∷ ground_of n Q ∷ ground_of n R ∷ gs) refusal work) (unless_both (a && b) c later (refusal n))
      (unless_two p q (unless r o))

  -- Several grounds that were looked at together, as an error code, 0 for none; then later ones.
  pub unless_error : (gs : List Ground) {hs : List Ground} (error : ℕ) {later : A} → Numbered gs → Outcome gs (λ n. n) 0 error
      → Outcome hs refusal work later
      → Outcome (gs ++ hs) refusal work (cond (eqb error 0) later (refusal error))
  unless_error gs {hs} error {later} p o l = by o.is l.is
    where
      by : Went gs (λ n. n) 0 error → Went hs refusal work later
          → Outcome (gs ++ hs) refusal work (cond (eqb error 0) later (refusal error))
      by (inl h) (inl k) = rw (eq-eqb error 0 h.1) (record { is = inl (none_both gs hs h.0 k.0, k.1) })
      by (inl h) (inr k) = rw (eq-eqb error 0 h.1) (record { is = inr (k.0, first_later gs hs k.0 h.0 k.1, k.2) })
      by (inr h) k =
          let some : eqb error 0 ≡ false = ne_eqb error 0 (λ (z : error ≡ 0). omega (arith, first_number gs p h.0 h.1, h.2)) in
          rw some (record { is = inr (h.0, first_sooner gs hs h.0 h.1, ap refusal h.2) })

  -- grounds that decide a verdict; then later ones, which count where it is not a refusal
  pub followed : (gs : List Ground) {hs : List Ground} {v : Verdict} {a : A} → Outcome gs refuses works v
      → (v ≡ works → Outcome hs refusal work a)
      → ((n : ℕ) → v ≡ refuses n → a ≡ refusal n) → Outcome (gs ++ hs) refusal work a
  followed gs {hs} o next stop = record {
    is = ⊎_elim
        (λ h. ⊎_elim (λ k. inl (none_both gs hs h.0 k.0, k.1)) (λ k. inr (k.0, first_later gs hs k.0 h.0 k.1, k.2))
        (next h.1).is)
        (λ h. inr (h.0, first_sooner gs hs h.0 h.1, stop h.0 h.2)) o.is;
  }

  -- an answer that goes by an error code, 0 for none
  pub of_error : (gs : List Ground) → Numbered gs → {error : ℕ} {a : A} → Outcome gs (λ n. n) 0 error → (error ≡ 0 → a ≡ work)
      → (0 < error → a ≡ refusal error)
      → Outcome gs refusal work a
  of_error gs p o f g = record {
    is = ⊎_elim (λ h. inl (h.0, f h.1))
        (λ h. inr (h.0, h.1, g (omega (arith, first_number gs p h.0 h.1, h.2)) ∙ ap refusal h.2)) o.is;
  }

  -- grounds that hold only where C does
  pub under_met : {C : Type 0} (gs : List Ground) {a : A} → C → Outcome gs refusal work a → Outcome (under C gs) refusal work a
  under_met {C} gs c o = record {
    is = ⊎_elim (λ h. inl (none_under C gs h.0, h.1)) (λ h. inr (h.0, first_under C gs c h.0 h.1, h.2)) o.is;
  }

  pub under_unmet : {C : Type 0} (gs : List Ground) → (C → ⊥) → Outcome (under C gs) refusal work work
  under_unmet {C} gs c = record { is = inl (none_unmet C gs c, refl) }

-- grounds that decide a verdict: it is the refusal of the first that holds
pub decided : (gs : List Ground) {v : Verdict} → Outcome gs refuses works v → (n : ℕ) → First gs n → v ≡ refuses n
decided gs o n f =
    ⊎_elim (λ h. absurd (first_not_none gs n f h.0)) (λ h. h.2 ∙ ap refuses (first_once gs h.0 n h.1 f)) o.is

-- one test, and what its two answers say
pub one_test : {R : Type 0} (says : R → Verdict) {ok : Bool} {P : Type 0} {n : ℕ} {x y : R} → Tests ok P → says x ≡ works
    → says y ≡ refuses n
    → Outcome (ground_of n P ∷ []) refuses works (says (cond ok x y))
one_test says {ok} {P} {n} {x} {y} t good bad = by ok t.told
  where
    by : (ok : Bool) → Told (not ok) P → Outcome (ground_of n P ∷ []) refuses works (says (cond ok x y))
    by true p = record { is = inl ((p, tt), good) }
    by false p = record { is = inr (n, inl (p, refl), bad) }

-- a part of the answer
pub part_of : {A B : Type 0} {gs : List Ground} {refusal : ℕ → A} {work a : A} (f : A → B) → Outcome gs refusal work a
    → Outcome gs (λ n. f (refusal n)) (f work) (f a)
part_of f o = record { is = ⊎_elim (λ h. inl (h.0, ap f h.1)) (λ h. inr (h.0, h.1, ap f h.2)) o.is }

-- ---- an answer that goes by the grounds is given exactly
pub exactly : {A : Type 0} (e : Entry A) (a : A)
    → (None e.grounds → e.says e.work ≡ works)
    → ((n : ℕ) → First e.grounds n → e.says (e.refusal n) ≡ refuses n)
    → Outcome e.grounds e.refusal e.work a → Exactly e a
exactly {A} e a work_says refusal_says o = by o.is
  where
    by : Went e.grounds e.refusal e.work a → Exactly e a
    by (inl h) =
        let said : e.says a ≡ works = ap e.says h.1 ∙ work_says h.0 in
        record {
          given =
              λ n. (
                λ (s : e.says a ≡ refuses n). clash cc,
                λ f. absurd (first_not_none e.grounds n f h.0),
              );
          worked = (λ s. h.0, λ none. said);
          refused = λ n f. absurd (first_not_none e.grounds n f h.0);
          done = λ none. h.1;
        }
    by (inr h) =
        let m : ℕ = h.0 in
        let said : e.says a ≡ refuses m = ap e.says h.2 ∙ refusal_says h.0 h.1 in
        record {
          given = λ n. (
            λ (s : e.says a ≡ refuses n). let same : m ≡ n = cc in subst (First e.grounds) same h.1,
            λ f. said ∙ ap refuses (first_once e.grounds h.0 n h.1 f),
          );
          worked = (
            λ (s : e.says a ≡ works). clash cc,
            λ none. absurd (first_not_none e.grounds h.0 h.1 none),
          );
          refused = λ n f. h.2 ∙ ap e.refusal (first_once e.grounds h.0 n h.1 f);
          done = λ none. absurd (first_not_none e.grounds h.0 h.1 none);
        }

-- ---- and the other way round
pub outcome_of : {A : Type 0} (e : Entry A) (a : A) → Exactly e a → Outcome e.grounds e.refusal e.work a
outcome_of e a x = record { is = by (e.says a) refl }
  where
    by : (v : Verdict) → e.says a ≡ v → Went e.grounds e.refusal e.work a
    by works s = let none = x.worked.0 s in inl (none, x.done none)
    by (refuses n) s = let first = (x.given n).0 s in inr (n, first, x.refused n first)

-- an entry whose answers are reported in another way
pub retold_exactly : {A B : Type 0} (e : Entry A) (f : A → B) (code : B → ℕ) → ((a : A) → code (f a) ≡ number_of (e.says a))
    → ((n : ℕ) → First e.grounds n → 0 < n) → (a : A) → Exactly e a → Exactly (retold f code e) (f a)
retold_exactly e f code told p a x = exactly (retold f code e) (f a) work_says refusal_says (part_of f (outcome_of e a x))
  where
    as_told : (b : _) → a ≡ b → code (f b) ≡ number_of (e.says a)
    as_told b same = told b ∙ ap (λ y. number_of (e.says y)) (sym same)

    work_says : None e.grounds → by_number (code (f e.work)) ≡ works
    work_says none = ap by_number (as_told e.work (x.done none) ∙ ap number_of (x.worked.1 none))

    refusal_says : (n : ℕ) → First e.grounds n → by_number (code (f (e.refusal n))) ≡ refuses n
    refusal_says n first =
        ap by_number (as_told (e.refusal n) (x.refused n first) ∙ ap number_of ((x.given n).1 first)) ∙ by_number_lem n (p n first)
