-- For a user: when `deframe` and `finish` give which number. `deframe_gives` and `finish_gives` are of any call, by its contract only.
--
-- Promised, for any ceiling, state, buffer and piece: 41, 1, 2, a held refusal and, from `deframe`, 3 to 7, each exactly when its ground
-- holds and none before it in the order does; the work where none holds; and the state, the count taken and the whole buffer afterwards, by
-- either.
-- Not promised: anything over several calls, which `thm_stream` says.
-- Ruled out: a deframer that refuses everything, one that always wants more, one that gives 2 where the buffer is small, too, one that asks
-- for a buffer longer than the ceiling, and one that takes bytes under a ceiling of 65,537.
-- Assumes nothing.
use Prim.Native.Nat.{ℕ, ◌<◌, ◌≤◌}
use mathlib.Core.Path.{◌≡◌, refl, sym, ap, subst, ◌∙◌}
use mathlib.Core.Logic.{inl, inr}
use mathlib.Core.Bool.{Bool, true, false, not, cond, ◌||◌}
use mathlib.Core.List.{List, [], ◌∷◌}
use native.Mathlib.Omega.{arith}
use borrow.Author.Tests.{eqb-true, eqb-false, eq-eqb, ne_eqb, ltb-true, ltb-false, lt-leb}
use lib.Dec.{eqb, ltb, leb}
use lib.ListN.{length, take}
use Rattle.fixed_header.specs.Header.{CeilingOk, header_error, fault_of, total_of}
use Rattle.deframer.specs.Deframe.{known_of, stream, next_frame, Out, moved, advance, unmoved, deframed, ended}
use Rattle.deframer.specs.declared.Deframer.{Deframer}
use Rattle.deframer.specs.Step.{Step}
use Rattle.deframer.specs.Progress.{Progress}
use Rattle.deframer.specs.Progress.{Frame, NeedMore, Refused}
use Rattle.deframer.specs.End.{End}
use Rattle.deframer.specs.End as end
use Rattle.fixed_header.proofs.Codes.{first_sixteen, Code, fault_code}
use Rattle.thm_stream.specs.Trace.{Deframes, Finishes}
use Rattle.fixed_header.proofs.Ceilings.{ceiling_found, right_ceiling}
use Rattle.refusals.specs.Grounds.{Ground, ground_of, First, works, refuses, Exactly}
use Rattle.refusals.specs.Numbers.{in_use, Among}
use Rattle.refusals.proofs.Tests.{Told, Finds, found, each, missing, reworded, equal, below, up_to, found_by_choice}
use Rattle.refusals.proofs.Order.{Outcome, end, when, when_not, passed, stopped, under_met, under_unmet, of_error, exactly}
use Rattle.refusals.proofs.Numbers.{is_in_lem, in_range, first_in_use}
use Rattle.thm_refusals.specs.Header.{faults}
use Rattle.thm_refusals.specs.Deframer.{Known, state_grounds, stream_faults, progress_says, deframe_refusal, cut, deframe_entry}
use Rattle.thm_refusals.specs.Deframer.{end_says, finish_entry}
use Rattle.thm_refusals.proofs.Header.{faults_outcome, faults_numbered}

module _ (c : ℕ) (state : Deframer) (buffer : List ℕ) where
  abbrev first : List ℕ
  first = take 16 buffer

  known : Finds (known_of c state buffer) (Known c state buffer)
  unfolding known_of
  known =
      found_by_choice (equal state.error 0)
      (λ z. found_by_choice (below state.held 16)
      (λ few. record { told = inl (few, z) })
      (λ many. reworded
      (λ (g : (header_error c first ≡ 0) × (state.held < total_of first)). inr (inl (omega arith, z, g.0, g.1)))
      (more z many)
      (each (equal (header_error c first) 0) (below state.held (total_of first)))))
      (λ n. reworded
      (λ g. inr (inr (g.0, g.1.0, g.1.1.0, g.1.1.1)))
      (judged n)
      (each (equal state.held 16)
      (each (equal (header_error c first) state.error) (each (up_to 3 state.error) (up_to state.error 7)))))
    where
      more : state.error ≡ 0 → (state.held < 16 → ⊥) → Known c state buffer → (header_error c first ≡ 0) × (state.held < total_of first)
      more z many (inl k) = absurd (many k.0)
      more z many (inr (inl k)) = (k.2, k.3)
      more z many (inr (inr k)) = absurd (omega (arith, k.2))

      judged : (state.error ≡ 0 → ⊥) → Known c state buffer
          → (state.held ≡ 16) × ((header_error c first ≡ state.error) × ((3 ≤ state.error) × (state.error ≤ 7)))
      judged n (inl k) = absurd (n k.1)
      judged n (inr (inl k)) = absurd (n k.1)
      judged n (inr (inr k)) = (k.0, (k.1, (k.2, k.3)))

  -- ---- the end of a stream
  pub finish_exactly : Exactly (finish_entry c state buffer) (ended c state buffer)
  unfolding ended
  finish_exactly =
      exactly (finish_entry c state buffer) (ended c state buffer) (λ none. clean_or_short (eqb state.held 0)) (λ n f. refl)
      (when (ceiling_found c)
      (when (below (length buffer) c)
      (when (missing known)
      (when (missing (equal state.error 0))
      end))))
    where
      clean_or_short : (b : Bool) → end_says (cond b end.Clean (end.Short state.held)) ≡ works
      clean_or_short true = refl
      clean_or_short false = refl

  -- of the function itself, by its contract
  pub finish_gives : (e : End) → Finishes c state buffer e → Exactly (finish_entry c state buffer) e
  finish_gives e is = subst (Exactly (finish_entry c state buffer)) (sym is) finish_exactly

  -- ---- each number is in use, a held one too: it is that of a header
  held_in_use : (state.error ≡ 0 → ⊥) → Known c state buffer → Among state.error in_use
  held_in_use n (inl k) = absurd (n k.1)
  held_in_use n (inr (inl k)) = absurd (n k.1)
  held_in_use n (inr (inr k)) = in_range 3 5 state.error refl k.2 (omega (arith, k.3))

  pub state_in_use : (later : List Ground) → ((n : ℕ) → First later n → Among n in_use) → (n : ℕ)
      → First (state_grounds c state buffer later) n → Among n in_use
  state_in_use later used n (inl g) = rw g.1 (is_in_lem 41 in_use refl)
  state_in_use later used n (inr (_, inl g)) = rw g.1 (is_in_lem 1 in_use refl)
  state_in_use later used n (inr (_, inr (_, inl g))) = rw g.1 (is_in_lem 2 in_use refl)
  state_in_use later used n (inr (_, inr (_, inr (k, inl g)))) =
      let holds : Known c state buffer = subst (λ (b : Bool). Told b (Known c state buffer)) (found known k) known.told in
      rw g.1 (held_in_use g.0 holds)
  state_in_use later used n (inr (_, inr (_, inr (k, inr g)))) = used n g.1

  pub finish_in_use : (n : ℕ) → First (finish_entry c state buffer).grounds n → Among n in_use
  finish_in_use = state_in_use [] (λ n f. absurd f)

-- ---- the deframer
module _ (c : ℕ) (state : Deframer) (buffer piece : List ℕ) where
  abbrev s : List ℕ
  s = stream state.held buffer piece

  abbrev refusal : ℕ → Out
  refusal = deframe_refusal state buffer piece

  abbrev work : Out
  work = moved (cut s) state.held buffer s

  -- a header's number is 3 to 7, so a refused header moves bytes unless a refusal was held
  header_refusal : state.error ≡ 0 → (n : ℕ) → 3 ≤ n → n ≤ 7 → refusal n ≡ moved (Refused n) state.held buffer s
  header_refusal z n l h = rw (lt-leb n 2 l, ne_eqb n 41 (λ e. omega (arith, e)), eq-eqb state.error 0 z)

  held_refusal : (state.error ≡ 0 → ⊥) → refusal state.error ≡ unmoved state.error state buffer
  held_refusal n = rw (ne_eqb state.error 0 n) (by (leb state.error 2 || eqb state.error 41))
    where
      by : (b : Bool) → cond b (unmoved state.error state buffer) (unmoved state.error state buffer)
          ≡ unmoved state.error state buffer
      by true = refl
      by false = refl

  abbrev whole : Progress
  whole = cond (leb (total_of (take 16 s)) (length s)) (Frame (total_of (take 16 s))) NeedMore

  advance_outcome : CeilingOk c → state.error ≡ 0 → Outcome (stream_faults c s) refusal work (advance c state.held buffer s)
  unfolding next_frame
  advance_outcome in_range z = by (ltb (length s) 16) refl
    where
      by : (b : Bool) → ltb (length s) 16 ≡ b → Outcome (stream_faults c s) refusal work (advance c state.held buffer s)
      by true e =
          rw e (under_unmet (faults c (take 16 s)) (λ l. omega (arith, ltb-true (length s) 16 e)))
      by false e =
          let long : 16 ≤ length s = ltb-false (length s) 16 e in
          rw e (under_met (faults c (take 16 s)) long
          (rw (first_sixteen c in_range s long)
          (on (fault_of c (take 16 s)) (faults_outcome c (take 16 s)) (fault_code c (take 16 s)))))
        where
          its_range : (n : ℕ) → Code n → 0 < n → (3 ≤ n) × (n ≤ 7)
          its_range n (inl z) p = absurd (omega arith)
          its_range n (inr r) p = r

          on : (n : ℕ) → Outcome (faults c (take 16 s)) (λ n. n) 0 n → Code n
              → Outcome (faults c (take 16 s)) refusal (moved whole state.held buffer s)
              (moved (cond (eqb n 0) whole (Refused n)) state.held buffer s)
          on n o code =
              of_error (faults c (take 16 s)) (faults_numbered c (take 16 s)) o
              (λ (none : n ≡ 0). rw (eq-eqb n 0 none))
              (λ (some : 0 < n). let r = its_range n code some in rw (ne_eqb n 0 (omega arith)) (sym (header_refusal z n r.0 r.1)))

  deframe_outcome : Outcome (deframe_entry c state buffer piece).grounds refusal work (deframed c state buffer piece)
  unfolding deframed
  deframe_outcome =
      when_not (ceiling_found c)
      (λ right. when (below (length buffer) c)
      (when (missing (known c state buffer))
      (by (right_ceiling c right) (eqb state.error 0) refl)))
    where
      by : CeilingOk c → (b : Bool) → eqb state.error 0 ≡ b
          → Outcome (ground_of state.error (state.error ≡ 0 → ⊥) ∷ stream_faults c s) refusal work
          (cond (not b) (unmoved state.error state buffer) (advance c state.held buffer s))
      by in_range true e = passed (λ n. n (eqb-true state.error 0 e)) (advance_outcome in_range (eqb-true state.error 0 e))
      by in_range false e =
          let n : state.error ≡ 0 → ⊥ = eqb-false state.error 0 e in
          subst (Outcome (ground_of state.error (state.error ≡ 0 → ⊥) ∷ stream_faults c s) refusal work) (held_refusal n) (stopped n)

  cut_works : (p : Progress) → p ≡ cut s → progress_says p ≡ works
  cut_works p e = rw e (on (ltb (length s) 16) (leb (total_of (take 16 s)) (length s)))
    where
      on : (a b : Bool) → progress_says (cond a NeedMore (cond b (Frame (total_of (take 16 s))) NeedMore)) ≡ works
      on true b = refl
      on false true = refl
      on false false = refl

  refusal_says : (n : ℕ) → progress_says (refusal n).step.progress ≡ refuses n
  refusal_says n = on (leb n 2 || eqb n 41) (eqb state.error 0)
    where
      on : (a b : Bool)
          → progress_says (cond a (unmoved n state buffer) (cond b (moved (Refused n) state.held buffer s)
          (unmoved n state buffer))).step.progress
          ≡ refuses n
      on true b = refl
      on false true = refl
      on false false = refl

  pub deframe_exactly : Exactly (deframe_entry c state buffer piece) (deframed c state buffer piece)
  deframe_exactly =
      exactly (deframe_entry c state buffer piece) (deframed c state buffer piece) (λ none. cut_works (cut s) refl) (λ n f. refusal_says n)
      deframe_outcome

  -- of the function itself, by its contract
  pub deframe_gives : (o : Out) → Deframes c state buffer piece o → Exactly (deframe_entry c state buffer piece) o
  deframe_gives o is = subst (Exactly (deframe_entry c state buffer piece)) (sym all) deframe_exactly
    where
      all : o ≡ deframed c state buffer piece
      all =
          ap (λ (x : Step). record { step = x; buffer = o.buffer }) is.0
          ∙ ap (λ (x : List ℕ). record { step = (deframed c state buffer piece).step; buffer = x }) is.1

  pub deframe_in_use : (n : ℕ) → First (deframe_entry c state buffer piece).grounds n → Among n in_use
  deframe_in_use = state_in_use c state buffer (stream_faults c s) (first_in_use (stream_faults c s) refl)
