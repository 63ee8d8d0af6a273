-- For a user (document 02, P2): cutting accepts all versions and ignores byte 16, on the definitions that the contracts of `deframe` and
-- `finish` name.
--
-- Promised, under every ceiling, of any state, of two calls whose buffers are of one length and whose pieces are of one length, where the
-- bytes held with the piece after them agree on their first 14: the answer, the next state and the count taken are the same (`step_alike`).
-- Under every ceiling, with one state, of two buffers of one length that agree on their first 14 bytes, the end of the stream is the same
-- (`end_alike`). So neither byte 15 nor byte 16 of the header that a call looks at decides anything.
-- Not promised: that the buffers are the same; the bytes are in them as they came. Anything of two calls under two ceilings. Anything of
-- several calls in turn: the stream theorem speaks of these, of one stream against its uncut reading, and `uncut_alike`
-- (proofs/LastTwoUncut) of the uncut readings of two streams.
-- Ruled out: a deframer that refuses a version, waits for more under one, or looks at byte 16.
-- Assumes nothing.
use Prim.Native.Nat.{ℕ, ◌≤◌, ◌<◌}
use mathlib.Core.Path.{◌≡◌, refl, ap, sym, ◌∙◌}
use mathlib.Core.Bool.{Bool, true, false, cond, not}
use mathlib.Core.List.{List}
use native.Mathlib.Omega.{arith}
use native.Mathlib.Decide.{dec_lt}
use borrow.Author.Tests.{lt-ltb, ne_eqb}
use lib.Dec.{eqb, ltb}
use lib.Seq.{take-append-le, take-take}
use lib.ListN.{length, take, length-take, length-append}
use Rattle.fixed_header.specs.Header.{ceiling_ok, CeilingOk}
use Rattle.fixed_header.proofs.Codes.{ceiling_range}
use Rattle.fixed_header.proofs.LastTwo.{first_error, first_total}
use Rattle.deframer.specs.Deframe.{Out, known_of, stream, next_frame, reach, next_state, advance, unmoved, deframed, ended}
use Rattle.deframer.specs.declared.Deframer.{Deframer}
use Rattle.deframer.specs.Progress.{Progress}
use Rattle.deframer.specs.Progress.{Frame, NeedMore, Refused}
use Rattle.deframer.proofs.Advance.{call_ceiling, call_small}

-- ---- answers, case by case
record SameStep (x y : Out) : Type 0 where
  is : x.step ≡ y.step

in_both : (test : Bool) {x y u v : Out} → SameStep x u → SameStep y v → SameStep (cond test x y) (cond test u v)
in_both true e f = e
in_both false e f = f

module _ (c : ℕ) where
  -- ---- what comes first in a stream
  module _ (s t : List ℕ) (long : length s ≡ length t) (front : take 14 s ≡ take 14 t) where
    next_alike : next_frame c s ≡ next_frame c t
    unfolding next_frame
    next_alike = rw (long, first_error s t long front c, first_total s t long front)

    reach_alike : (p : Progress) → reach p s ≡ reach p t
    reach_alike (Frame size) = refl
    reach_alike NeedMore = long
    reach_alike (Refused code) = refl

    state_alike : (p : Progress) → next_state p s ≡ next_state p t
    state_alike (Frame size) = refl
    state_alike NeedMore = ap (λ (n : ℕ). record { held = n; error = 0 }) long
    state_alike (Refused code) = refl

    advance_alike : (held : ℕ) (a b : List ℕ) → (advance c held a s).step ≡ (advance c held b t).step
    advance_alike held a b = rw (next_alike, reach_alike (next_frame c t), state_alike (next_frame c t)) refl

  -- ---- the end
  module _ (state : Deframer) (a b : List ℕ) (long : length a ≡ length b) where
    known_alike : take 14 a ≡ take 14 b → known_of c state a ≡ known_of c state b
    unfolding known_of
    known_alike front = rw (first_error a b long front c, first_total a b long front)

    pub end_alike : take 14 a ≡ take 14 b → ended c state a ≡ ended c state b
    unfolding ended
    end_alike front = rw (long, known_alike front)

    -- ---- a call
    module _ (p q : List ℕ) (pieces : length p ≡ length q)
        (streams : take 14 (stream state.held a p) ≡ take 14 (stream state.held b q)) where
      stream_long : length (stream state.held a p) ≡ length (stream state.held b q)
      stream_long =
          omega (
            arith,
            length-append (take state.held a) p,
            length-append (take state.held b) q,
            length-take state.held a,
            length-take state.held b,
            long,
            pieces,
          )

      -- where 16 or more are held they are the buffer's first, and where fewer are, nothing of the buffer says whether the state is known
      held_front : 16 ≤ state.held → 16 ≤ length a → take 14 a ≡ take 14 b
      held_front h big = sym (head a p (omega arith)) ∙ streams ∙ head b q (omega (arith, long))
        where
          head : (d s : List ℕ) → 16 ≤ length d → take 14 (stream state.held d s) ≡ take 14 d
          head d s l =
              take-append-le 14 (take state.held d) s (omega (arith, length-take state.held d))
              ∙ take-take 14 state.held d (omega arith)

      few_known : state.held < 16 → known_of c state a ≡ known_of c state b
      unfolding known_of
      few_known h = simp (lt-ltb _ _ h, ne_eqb state.held 16 (λ e. omega arith))

      called_known : 16 ≤ length a → known_of c state a ≡ known_of c state b
      called_known big = by (dec_lt state.held 16)
        where
          by : Dec (state.held < 16) → known_of c state a ≡ known_of c state b
          by (yes h) = few_known h
          by (no h) = known_alike (held_front (omega arith) big)

      unmoved_alike : (code : ℕ) → SameStep (unmoved code state a) (unmoved code state b)
      unmoved_alike code = record { is = refl }

      same_large : 16 ≤ length a → SameStep (deframed c state a p) (deframed c state b q)
      unfolding deframed
      same_large big =
          let held = state.held in
          rw (long, called_known big)
          (in_both (not (ceiling_ok c)) (unmoved_alike 41)
          (in_both (ltb (length b) c) (unmoved_alike 1)
          (in_both (not (known_of c state b)) (unmoved_alike 2)
          (in_both (not (eqb state.error 0)) (unmoved_alike state.error)
          (record { is = advance_alike (stream held a p) (stream held b q) stream_long streams held a b })))))

      -- a buffer that cannot hold a header is refused, by its ceiling or by its length
      pub step_alike : (deframed c state a p).step ≡ (deframed c state b q).step
      step_alike = by (dec_lt (length a) 16) (ceiling_ok c) refl
        where
          small : length a < 16 → CeilingOk c → (deframed c state a p).step ≡ (deframed c state b q).step
          small l r = rw (call_small c state a p r (omega arith), call_small c state b q r (omega (arith, long))) refl

          by : Dec (length a < 16) → (k : Bool) → ceiling_ok c ≡ k → (deframed c state a p).step ≡ (deframed c state b q).step
          by (yes l) true e = small l (ceiling_range c e)
          by (yes l) false e = rw (call_ceiling c state a p e, call_ceiling c state b q e) refl
          by (no l) k e = (same_large (omega arith)).is
