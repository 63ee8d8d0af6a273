-- For a user (document 02, P11): what a connection's ceiling decides in cutting, on the definitions that the contracts of `deframe` and
-- `finish` name.
--
-- Promised, of any ceiling, state, buffer and piece: a call touches no byte of the buffer past the ceiling (`buffer_past`), and a frame
-- that it gives is no longer than the ceiling (`frame_within`). What the buffer has past the ceiling decides nothing, nor
-- does how much it is: with two buffers that agree up to the ceiling the answer, the next state and the count taken are the same, the
-- buffers afterwards agree up to the ceiling again, and the end of the stream is the same (`rest_unseen`). So of a buffer that is longer
-- than the ceiling the caller may keep the rest for itself, and change it between calls. A state has no ceiling: it is known or not under that of the call. Where 16 bytes
-- or more are held of a frame whose total is over the ceiling, the state is not known (`other_ceiling`), whatever ceiling let them in.
-- Under a ceiling in range, with a buffer as long as it, a call with such a state and the end of the stream are refused with 2
-- (`over_refused`). So are those with the number of a refused header that has another number, or none, under the ceiling (`code_refused`).
-- Not promised: that a change of the ceiling between calls is noticed where the total is within both; such a state is known under both.
-- Ruled out: a deframer that fills past the ceiling a frame that was begun under a larger one, uses the rest of the buffer as room of its
-- own, or repeats a number that the header does not have under the ceiling.
-- Assumes nothing.
use Prim.Native.Nat.{ℕ, ◌+◌, ◌-◌, ◌≤◌, ◌<◌, min}
use mathlib.Core.Path.{◌≡◌, refl, sym, ap, ◌∙◌}
use mathlib.Core.Bool.{Bool, true, false}
use mathlib.Core.List.{List, ◌++◌}
use native.Mathlib.Omega.{arith}
use native.Mathlib.Decide.{dec_lt, ℕ_discrete}
use borrow.Author.Tests.{lt-ltb, le-ltb}
use lib.Dec.{ltb}
use lib.ListN.{length, take, drop, length-take}
use lib.Seq.{length-take-le, take-take, take-append-add}
use Rattle.laws.proofs.Booleans.{clash}
use Rattle.laws.proofs.Lists.{drop_past, drop_take}
use Rattle.fixed_header.specs.Header.{ceiling_ok, CeilingOk, header_error, total_of}
use Rattle.fixed_header.proofs.Codes.{ceiling_ok_lem, ceiling_range, good_total}
use Rattle.deframer.specs.Deframe.{Out, known_of, stream, next_frame, reach, advance, unmoved, deframed, ended}
use Rattle.deframer.specs.declared.Deframer.{Deframer}
use Rattle.deframer.specs.Progress.{Progress}
use Rattle.deframer.specs.Progress.{Frame, Refused}
use Rattle.deframer.specs.End as end
use Rattle.deframer.proofs.Known.{known_good, unknown_header, unknown_code}
use Rattle.deframer.proofs.Advance.{Shape, short, bad, part, whole, shape, next_short, next_bad, next_part, next_whole}
use Rattle.deframer.proofs.Advance.{call_ceiling, call_small, call_unknown, call_refused_lem, call_moves}
use Rattle.deframer.proofs.Taken.{Outcome, stays, moves, outcome, reach_within}

module _ (c : ℕ) where
  -- ---- what a call reaches
  reach_under : CeilingOk c → (s : List ℕ) → reach (next_frame c s) s ≤ c
  reach_under in_range s = go (shape c s)
    where
      go : Shape c s → reach (next_frame c s) s ≤ c
      go (short l) = rw (next_short c s l) (omega arith)
      go (bad l b) = rw (next_bad c s l b) in_range.0
      go (part l g t) = rw (next_part c s l g t) (omega (arith, good_total c (take 16 s) g))
      go (whole l g t) = rw (next_whole c s l g t) (good_total c (take 16 s) g).1

  module _ (st : Deframer) (d p : List ℕ) where
    pub buffer_past : drop c (deframed c st d p).buffer ≡ drop c d
    buffer_past = go (outcome c st d p)
      where
        go : Outcome c st d p → drop c (deframed c st d p).buffer ≡ drop c d
        go (stays code e) = rw e refl
        go (moves in_range big k z e) =
            let s = stream st.held d p in
            let n = reach (next_frame c s) s in
            rw e (drop_past c n (take n s) (drop n d) d (length-take-le n s (reach_within c s)) (reach_under in_range s) refl)

    pub frame_within : (size : ℕ) → (deframed c st d p).step.progress ≡ Frame size → size ≤ c
    frame_within size is = go (outcome c st d p)
      where
        go : Outcome c st d p → size ≤ c
        go (stays code e) =
            let refused : Refused code ≡ Frame size = sym (ap (λ (o : Out). o.step.progress) e) ∙ is in
            clash cc
        go (moves in_range big k z e) =
            let s = stream st.held d p in
            let first : next_frame c s ≡ Frame size = sym (ap (λ (o : Out). o.step.progress) e) ∙ is in
            let reached : reach (next_frame c s) s ≡ size = ap (λ (x : Progress). reach x s) first in
            omega (arith, reached, reach_under in_range s)

  -- ---- the rest of the buffer

  -- two answers with buffers that agree up to the ceiling
  record SameUnder (x y : Out) : Type 0 where
    same_step : x.step ≡ y.step
    same_front : take c x.buffer ≡ take c y.buffer

  -- a move to n, which is within the ceiling, leaves after it what was there
  land_front : (n : ℕ) (l a b : List ℕ) → n ≤ length l → n ≤ c → take c a ≡ take c b
      → take c (take n l ++ drop n a) ≡ take c (take n l ++ drop n b)
  land_front n l a b some within front = land a ∙ ap (λ (x : List ℕ). take n l ++ drop n x) front ∙ sym (land b)
    where
      land : (d : List ℕ) → take c (take n l ++ drop n d) ≡ take n l ++ drop n (take c d)
      land d =
          let long = length-take-le n l some in
          let all : c ≡ length (take n l) + (c - n) = omega (arith, long, within) in
          ap (λ (k : ℕ). take k (take n l ++ drop n d)) all
          ∙ take-append-add (take n l) (drop n d) (c - n)
          ∙ ap (λ (x : List ℕ). take n l ++ x) (sym (drop_take n c d))

  module _ (st : Deframer) (a b : List ℕ) (front : take c a ≡ take c b) where
    -- both are as long as the ceiling, or neither is
    long : min c (length a) ≡ min c (length b)
    long = sym (length-take c a) ∙ ap length front ∙ length-take c b

    small_same : ltb (length a) c ≡ ltb (length b) c
    small_same = by (dec_lt (length a) c)
      where
        by : Dec (length a < c) → ltb (length a) c ≡ ltb (length b) c
        by (yes l) = lt-ltb (length a) c l ∙ sym (lt-ltb (length b) c (omega (arith, long, l)))
        by (no l) = le-ltb (length a) c (omega arith) ∙ sym (le-ltb (length b) c (omega (arith, long)))

    front_alike : (n : ℕ) → n ≤ c → take n a ≡ take n b
    front_alike n within = sym (take-take n c a within) ∙ ap (take n) front ∙ take-take n c b within

    known_same : CeilingOk c → known_of c st a ≡ known_of c st b
    unfolding known_of
    known_same in_range = rw (front_alike 16 in_range.0)

    -- what a known state without a number holds is within the ceiling
    held_within : CeilingOk c → known_of c st a ≡ true → st.error ≡ 0 → st.held ≤ c
    held_within in_range known none = by (dec_lt st.held 16)
      where
        by : Dec (st.held < 16) → st.held ≤ c
        by (yes h) = omega (arith, in_range)
        by (no h) =
            let g = known_good c st a none known (omega arith) in
            omega (arith, g.1, good_total c (take 16 a) g.0)

    end_same : (ok : Bool) → ceiling_ok c ≡ ok → ended c st a ≡ ended c st b
    unfolding ended
    end_same false e = simp e
    end_same true e = rw (small_same, known_same (ceiling_range c e))

    module _ (p : List ℕ) where
      refused_same : (code : ℕ) → deframed c st a p ≡ unmoved code st a → deframed c st b p ≡ unmoved code st b
          → SameUnder (deframed c st a p) (deframed c st b p)
      refused_same code x y = rw (x, y) (record { same_step = refl; same_front = front })

      moved_same : CeilingOk c → known_of c st a ≡ true → st.error ≡ 0
          → SameUnder (advance c st.held a (stream st.held a p)) (advance c st.held b (stream st.held b p))
      moved_same in_range known none =
          let s = stream st.held b p in
          let n = reach (next_frame c s) s in
          rw (front_alike st.held (held_within in_range known none))
          (record { same_step = refl; same_front = land_front n s a b (reach_within c s) (reach_under in_range s) front })

      call_same : (ok : Bool) → ceiling_ok c ≡ ok → SameUnder (deframed c st a p) (deframed c st b p)
      call_same false e = refused_same 41 (call_ceiling c st a p e) (call_ceiling c st b p e)
      call_same true e = go (ceiling_range c e) (dec_lt (length a) c) (known_of c st a) refl (ℕ_discrete st.error 0)
        where
          go : CeilingOk c → Dec (length a < c) → (k : Bool) → known_of c st a ≡ k → Dec (st.error ≡ 0)
              → SameUnder (deframed c st a p) (deframed c st b p)
          go r (yes l) k e z = refused_same 1 (call_small c st a p r l) (call_small c st b p r (omega (arith, long, l)))
          go r (no l) false e z =
              let f = sym (known_same r) ∙ e in
              refused_same 2 (call_unknown c st a p r (omega arith) e) (call_unknown c st b p r (omega (arith, long)) f)
          go r (no l) true e (no z) =
              let f = sym (known_same r) ∙ e in
              refused_same st.error (call_refused_lem c st a p r (omega arith) e z) (call_refused_lem c st b p r (omega (arith, long)) f z)
          go r (no l) true e (yes z) =
              let f = sym (known_same r) ∙ e in
              rw (call_moves c st a p r (omega arith) e z, call_moves c st b p r (omega (arith, long)) f z) (moved_same r e z)

      pub rest_unseen : ((deframed c st a p).step ≡ (deframed c st b p).step)
          × (take c (deframed c st a p).buffer ≡ take c (deframed c st b p).buffer)
          × (ended c st a ≡ ended c st b)
      rest_unseen =
          let same = call_same (ceiling_ok c) refl in
          (same.same_step, same.same_front, end_same (ceiling_ok c) refl)

  -- ---- a state that was left under another ceiling
  pub other_ceiling : (held : ℕ) (d : List ℕ) → 16 ≤ held → c < total_of (take 16 d)
      → known_of c (record { held = held; error = 0 }) d ≡ false
  other_ceiling held d past over =
      unknown_header c (record { held = held; error = 0 }) d refl past (λ good. omega (arith, good_total c (take 16 d) good))

  -- a call with such a state, and the end of a stream
  abbrev pub RefusedWith2 : Deframer → (d p : List ℕ) → Type 0
  RefusedWith2 st d p = (deframed c st d p ≡ unmoved 2 st d) × (ended c st d ≡ end.Refused 2)

  module _ (in_range : CeilingOk c) (held : ℕ) (d p : List ℕ) (big : c ≤ length d) where
    unknown_refused : (st : Deframer) → known_of c st d ≡ false → RefusedWith2 st d p
    unfolding ended
    unknown_refused st unknown =
        (call_unknown c st d p in_range big unknown, simp (ceiling_ok_lem c in_range, le-ltb _ _ big, unknown))

    pub over_refused : 16 ≤ held → c < total_of (take 16 d) → RefusedWith2 (record { held = held; error = 0 }) d p
    over_refused past over = unknown_refused (record { held = held; error = 0 }) (other_ceiling held d past over)

    pub code_refused : (code : ℕ) → (code ≡ 0 → ⊥) → (header_error c (take 16 d) ≡ code → ⊥)
        → RefusedWith2 (record { held = held; error = code }) d p
    code_refused code some other =
        unknown_refused (record { held = held; error = code }) (unknown_code c (record { held = held; error = code }) d some other)
