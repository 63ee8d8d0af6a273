-- Demand 3, for frames, tiling and the end of a stream.
--
-- Promised, of any ceiling from 16 to 65,536, and of any list of calls of `deframe` and `finish` under it from the fresh state, over a
-- buffer of at least as many bytes of any content: the calls together are the uncut reading, under the same ceiling, of the bytes taken.
-- That is each call's answer and what it took, the frames as they are in the buffer, that these tile the bytes taken, and how the stream
-- ends (`Faithful`, in specs/Calls.antt). Calls that are refused with 41, 1 or 2 are in the list, too, each under any ceiling of its own.
-- The terms are those of the functions' contracts, `deframed` and `ended`.
-- Document 02, P11: "demand 3 .. one more premise, the same ceiling within that range throughout, for the uncut reading too; state each
-- once over the ceiling, so that 65,536 is the old case."
-- Not promised: that a caller asks often enough, nor what a frame's message reads as, which FaithfulReading says. Anything of a stream
-- under two ceilings.
-- Ruled out: a deframer that works on its first call and then only pretends (`calls`), and one that makes up its count of bytes taken
-- (`calls`, `tiled`); the must-fail edits of `deframer` try both.
use Prim.Native.Nat.{ℕ, ◌≤◌, ◌<◌}
use mathlib.Core.Path.{◌≡◌, refl, sym, ap, subst, ◌∙◌}
use mathlib.Core.Logic.{◌⊎◌, inl, inr}
use mathlib.Core.List.{List, [], ◌∷◌, ◌++◌, append_assoc, append-nil}
use mathlib.Core.Bool.{Bool, true, false, true≢false}
use native.Mathlib.Omega.{arith}
use native.Mathlib.Decide.{dec_lt, ℕ_discrete}
use borrow.Author.Tests.{lt-ltb, le-ltb}
use lib.ListN.{length, take, drop, take-append-drop}
use lib.Seq.{take-append-le}
use Rattle.fixed_header.specs.Header.{ceiling_ok, CeilingOk}
use Rattle.deframer.specs.Deframe.{Out, fresh, known_of, deframed, ended, unmoved, is_refused}
use Rattle.deframer.specs.Stream.{Uncut, uncut, Start}
use Rattle.thm_stream.specs.Calls.{Call, push, finish, push_wrong, finish_wrong, Event}
use Rattle.thm_stream.specs.Calls.{pushed, finished, pushed_wrong, finished_wrong, run, Wrong}
use Rattle.thm_stream.specs.Calls.{Offered, taken_of, frame_in, frames_of, Gave, wrong_code}
use Rattle.thm_stream.specs.Calls.{Explained, Repeats, Final, RefusedBy, Rest, Faithful}
use Rattle.deframer.specs.declared.Deframer.{Deframer}
use Rattle.deframer.specs.Progress.{Progress}
use Rattle.deframer.specs.Progress.{Refused}
use Rattle.deframer.specs.End.{End}
use Rattle.deframer.specs.End as end
use Rattle.fixed_header.proofs.Codes.{ceiling_ok_lem, ceiling_range}
use Rattle.deframer.proofs.Known.{known_short}
use Rattle.deframer.proofs.Advance.{call_ceiling, call_small, call_unknown, call_refused_lem}
use Rattle.deframer.proofs.Taken.{taken_within}
use Rattle.deframer.proofs.Uncut.{uncut_stays}
use Rattle.thm_stream.proofs.Standing.{At, seen_frames, seen_end, ended_refused, rest_held, Stepped, stepped}

-- ---- calls that are refused with 41, 1 or 2, under a ceiling of their own
module _ (k : ℕ) (s : Deframer) (b : List ℕ) where
  ended_ceiling : ceiling_ok k ≡ false → ended k s b ≡ end.Refused 41
  unfolding ended
  ended_ceiling e = simp e

  ended_small : CeilingOk k → length b < k → ended k s b ≡ end.Refused 1
  unfolding ended
  ended_small in_range h = simp (ceiling_ok_lem k in_range, lt-ltb _ _ h)

  ended_unknown : CeilingOk k → k ≤ length b → known_of k s b ≡ false → ended k s b ≡ end.Refused 2
  unfolding ended
  ended_unknown in_range h u = simp (ceiling_ok_lem k in_range, le-ltb _ _ h, u)

  wrong : {A : Type 0} (x : A) (f : ℕ → A) → (ceiling_ok k ≡ false → x ≡ f 41) → (CeilingOk k → length b < k → x ≡ f 1)
      → (CeilingOk k → k ≤ length b → known_of k s b ≡ false → x ≡ f 2)
      → Wrong k s b → x ≡ f (wrong_code k b)
  wrong x f outside small unknown w = by (ceiling_ok k) refl
    where
      go : ceiling_ok k ≡ true → Dec (length b < k) → Wrong k s b → x ≡ f (wrong_code k b)
      go e (yes h) w = small (ceiling_range k e) h ∙ rw (e, lt-ltb _ _ h)
      go e (no h) (inl n) = absurd (true≢false (sym e ∙ n))
      go e (no h) (inr (inl l)) = absurd (h l)
      go e (no h) (inr (inr u)) = let g : k ≤ length b = omega arith in unknown (ceiling_range k e) g u ∙ rw (e, le-ltb _ _ g)

      by : (t : Bool) → ceiling_ok k ≡ t → x ≡ f (wrong_code k b)
      by true e = go e (dec_lt (length b) k) w
      by false e = outside e ∙ rw e

-- ---- the bytes taken
-- what a push took comes first, and then what the later calls took
start_push : (k : ℕ) (p untaken later : List ℕ) → k ≤ length p → Start p untaken → Start later (drop k untaken)
    → Start (take k p ++ later) untaken
start_push k p untaken later h (more, e) (rest, f) =
    let same : take k p ≡ take k untaken = sym (take-append-le k p more h) ∙ ap (take k) e in (
      rest,
      append_assoc (take k p) later rest ∙ ap (λ (x : List ℕ). take k p ++ x) f ∙ ap (λ (x : List ℕ). x ++ drop k untaken) same
          ∙ take-append-drop k untaken,
    )

module _ (c : ℕ) where
  -- ---- once a header is refused, every later call says so and takes nothing
  module _ (in_range : CeilingOk c) where
    repeats : (calls : List Call) (st : Deframer) (d : List ℕ) → c ≤ length d → known_of c st d ≡ true → (st.error ≡ 0 → ⊥)
        → Repeats st.error (run c st d calls)
    unfolding run
    repeats [] st d big known n = tt
    repeats (push p ∷ calls) st d big known n =
        rw (call_refused_lem c st d p in_range big known n) (refl, refl, repeats calls st d big known n)
    repeats (finish ∷ calls) st d big known n = (ended_refused c st d in_range big known n, repeats calls st d big known n)
    repeats (push_wrong k s b p ∷ calls) st d big known n = repeats calls st d big known n
    repeats (finish_wrong k s b ∷ calls) st d big known n = repeats calls st d big known n

  -- ---- a run, from where it is
  record Ran (seen : List ℕ) (fs : List (List ℕ)) (st : Deframer) (events : List Event) : Type 0 where
    explained : Explained c seen events
    final : Final events
    start : (refused : Bool) (untaken : List ℕ) → (st.error ≡ 0 → refused ≡ false) → Offered refused untaken events
        → Start (taken_of events) untaken
    last : Deframer
    buffer : List ℕ
    at : At c (seen ++ taken_of events) (fs ++ frames_of events) last buffer

  ran : (calls : List Call) (seen : List ℕ) (fs : List (List ℕ)) (st : Deframer) (d : List ℕ) → At c seen fs st d
      → Ran seen fs st (run c st d calls)
  unfolding run
  ran [] seen fs st d a =
      record {
        explained = tt;
        final = tt;
        start = λ refused untaken free offered. (untaken, refl);
        last = st;
        buffer = d;
        at = rw (append-nil, append-nil) a;
      }
  ran (push p ∷ calls) seen fs st d a =
      go (deframed c st d p) (stepped c seen fs st d p a) (taken_within c st d p)
      (λ n. ap (λ (o : Out). o.step.taken) (call_refused_lem c st d p a.in_range a.big a.known n)) (λ s f t b. ran calls s f t b)
    where
      go : (o : Out) → Stepped c seen fs p o → o.step.taken ≤ length p → ((st.error ≡ 0 → ⊥) → o.step.taken ≡ 0)
          → ((s : List ℕ) (f : List (List ℕ)) (t : Deframer) (b : List ℕ) → At c s f t b → Ran s f t (run c t b calls))
          → Ran seen fs st (pushed p o ∷ run c o.step.next o.buffer calls)
      go o s within still ih =
          let events = run c o.step.next o.buffer calls in
          let k = o.step.taken in
          let r = ih (seen ++ take k p) (fs ++ frame_in o.step.progress o.buffer) o.step.next o.buffer s.at in
          record {
            explained = (within, s.gave, r.explained);
            final = (
              λ code q.
                  let held = s.stopped code q in
                  subst (λ (n : ℕ). Repeats n events) held.0
                  (repeats s.at.in_range calls o.step.next o.buffer s.at.big s.at.known
                  (λ z. held.1 (sym held.0 ∙ z))),
              r.final,
            );
            start = λ refused untaken free offered.
                by untaken (ℕ_discrete st.error 0) (λ z. offered.0 (free z))
                (r.start (is_refused o.step.progress) (drop k untaken) s.goes_on offered.1);
            last = r.last;
            buffer = r.buffer;
            at =
                rw (
                  ← append_assoc seen (take k p) (taken_of events),
                  ← append_assoc fs (frame_in o.step.progress o.buffer) (frames_of events),
                ) r.at;
          }
        where
          later : List ℕ
          later = taken_of (run c o.step.next o.buffer calls)

          by : (untaken : List ℕ) → Dec (st.error ≡ 0) → (st.error ≡ 0 → Start p untaken) → Start later (drop o.step.taken untaken)
              → Start (take o.step.taken p ++ later) untaken
          by untaken (yes z) offered t = start_push o.step.taken p untaken later within (offered z) t
          by untaken (no n) offered t =
              subst (λ (k : ℕ). Start later (drop k untaken) → Start (take k p ++ later) untaken) (sym (still n)) (λ x. x) t
  ran (finish ∷ calls) seen fs st d a =
      let r = ran calls seen fs st d a in
      record {
        explained = (sym (seen_end c a), r.explained);
        final = r.final;
        start = r.start;
        last = r.last;
        buffer = r.buffer;
        at = r.at;
      }
  ran (push_wrong k s b p ∷ calls) seen fs st d a =
      let r = ran calls seen fs st d a in
      record {
        explained = (
          wrong k s b (deframed k s b p) (λ n. unmoved n s b) (call_ceiling k s b p) (call_small k s b p) (call_unknown k s b p),
          r.explained,
        );
        final = r.final;
        start = λ refused untaken free offered. r.start refused untaken free offered.1;
        last = r.last;
        buffer = r.buffer;
        at = r.at;
      }
  ran (finish_wrong k s b ∷ calls) seen fs st d a =
      let r = ran calls seen fs st d a in
      record {
        explained = (
          wrong k s b (ended k s b) end.Refused (ended_ceiling k s b) (ended_small k s b) (ended_unknown k s b),
          r.explained,
        );
        final = r.final;
        start = λ refused untaken free offered. r.start refused untaken free offered.1;
        last = r.last;
        buffer = r.buffer;
        at = r.at;
      }

  -- ---- what the call-by-call account says of the whole
  -- once a call refused a header, so does the uncut reading of the bytes taken
  refused_end : (events : List Event) (seen : List ℕ) (code : ℕ) → Explained c seen events → RefusedBy code events
      → (uncut c (seen ++ taken_of events)).end ≡ end.Refused code
  refused_end [] seen code e r = absurd r
  refused_end (pushed p o ∷ events) seen code (w, g, e) r =
      ap (λ (x : List ℕ). (uncut c x).end) (sym (append_assoc seen (take o.step.taken p) (taken_of events)))
      ∙ by (refused_end events (seen ++ take o.step.taken p) code e) r
    where
      now : List ℕ
      now = seen ++ take o.step.taken p

      by : (RefusedBy code events → (uncut c (now ++ taken_of events)).end ≡ end.Refused code)
          → (o.step.progress ≡ Refused code) ⊎ RefusedBy code events → (uncut c (now ++ taken_of events)).end ≡ end.Refused code
      by later (inr q) = later q
      by later (inl q) =
          let gave : Gave (Refused code) (uncut c seen) (uncut c now) now p (take o.step.taken p) o.buffer =
          subst (λ (x : Progress). Gave x (uncut c seen) (uncut c now) now p (take o.step.taken p) o.buffer) q g in
          ap (λ (u : Uncut). u.end) (uncut_stays c now (taken_of events) code gave.1) ∙ gave.1
  refused_end (finished f ∷ events) seen code (w, e) r = refused_end events seen code e r
  refused_end (pushed_wrong k s b o ∷ events) seen code (w, e) r = refused_end events seen code e r
  refused_end (finished_wrong k s b f ∷ events) seen code (w, e) r = refused_end events seen code e r

  -- an end call that is the last answers for all bytes taken
  last_end : (earlier : List Event) (seen : List ℕ) (e : End) → Explained c seen (earlier ++ (finished e ∷ []))
      → e ≡ (uncut c (seen ++ taken_of (earlier ++ (finished e ∷ [])))).end
  last_end [] seen e (f, x) = f ∙ ap (λ (x : List ℕ). (uncut c x).end) (sym (append-nil seen))
  last_end (pushed p o ∷ earlier) seen e (w, g, x) =
      last_end earlier (seen ++ take o.step.taken p) e x
      ∙ ap (λ (x : List ℕ). (uncut c x).end) (append_assoc seen (take o.step.taken p) (taken_of (earlier ++ (finished e ∷ []))))
  last_end (finished f ∷ earlier) seen e (w, x) = last_end earlier seen e x
  last_end (pushed_wrong k s b o ∷ earlier) seen e (w, x) = last_end earlier seen e x
  last_end (finished_wrong k s b f ∷ earlier) seen e (w, x) = last_end earlier seen e x

  -- ---- the theorem
  pub faithful : CeilingOk c → (calls : List Call) (bytes buffer : List ℕ) → c ≤ length buffer
      → Offered false bytes (run c fresh buffer calls) → Faithful c bytes (run c fresh buffer calls)
  faithful in_range calls bytes buffer big offered =
      let events = run c fresh buffer calls in
      let begin : At c [] [] fresh buffer =
      record { in_range = in_range; big = big; known = known_short c fresh buffer refl (omega arith); tiles = refl; reads = λ t. refl } in
      let r = ran calls [] [] fresh buffer begin in
      let begun : Start (taken_of events) bytes = r.start false bytes (λ z. refl) offered in
      record {
        calls = r.explained;
        frames = sym (seen_frames c r.at);
        tiled = (
          take r.last.held r.buffer,
          r.at.tiles,
          subst (λ (e : End). Rest c e (take r.last.held r.buffer)) (sym (seen_end c r.at))
              (rest_held c r.last r.buffer r.at.in_range r.at.big r.at.known),
        );
        verdict = λ e (earlier, q).
            subst (λ (x : List Event). e ≡ (uncut c (taken_of x)).end) (sym q)
            (last_end earlier [] e (subst (λ (x : List Event). Explained c [] x) q r.explained));
        start = begun;
        all = whole events r.explained begun;
        final = r.final;
      }
    where
      whole : (events : List Event) → Explained c [] events → Start (taken_of events) bytes
          → (taken_of events ≡ bytes) ⊎ ((code : ℕ) × RefusedBy code events) → uncut c (taken_of events) ≡ uncut c bytes
      whole events x s (inl e) = ap (uncut c) e
      whole events x (more, e) (inr (code, r)) =
          sym (uncut_stays c (taken_of events) more code (refused_end events [] code x r)) ∙ ap (uncut c) e
