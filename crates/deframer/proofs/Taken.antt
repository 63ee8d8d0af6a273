-- How many bytes of its piece a call of the deframer takes: never more than there are, and at least one where there is one and no header is
-- refused. So a loop that hands over what is left of a piece, until nothing is or a header is refused, stays within the piece and ends.
-- Under every ceiling c, in range or not
use Prim.Native.Nat.{ℕ, ◌≤◌, ◌<◌}
use mathlib.Core.Path.{◌≡◌, refl, sym, ap, subst, ◌∙◌}
use mathlib.Core.Bool.{Bool, true, false}
use mathlib.Core.List.{List}
use native.Mathlib.Omega.{arith}
use native.Mathlib.Decide.{dec_lt, ℕ_discrete}
use lib.Dec.{T}
use lib.ListN.{length, take, length-append, length-take}
use Rattle.fixed_header.specs.Header.{ceiling_ok, CeilingOk, header_error, total_of}
use Rattle.deframer.specs.Deframe.{Out, known_of, stream, next_frame, reach, advance, unmoved, deframed, is_refused}
use Rattle.deframer.specs.declared.Deframer.{Deframer}
use Rattle.deframer.proofs.Lists.{stream_length, stream_head}
use Rattle.fixed_header.proofs.Codes.{ceiling_range, good_total}
use Rattle.deframer.proofs.Known.{known_good, held_fits}
use Rattle.deframer.proofs.Advance.{Shape, short, bad, part, whole, shape, next_short, next_bad, next_part, next_whole}
use Rattle.deframer.proofs.Advance.{call_ceiling, call_small, call_unknown, call_refused_lem, call_moves}

module _ (c : ℕ) where
  -- the outcomes of a call: it moves on, or it is refused and takes nothing
  pub data Outcome (st : Deframer) (d p : List ℕ) : Type 0 where
    stays : (code : ℕ) → deframed c st d p ≡ unmoved code st d → Outcome st d p
    moves : CeilingOk c → c ≤ length d → known_of c st d ≡ true → st.error ≡ 0
        → deframed c st d p ≡ advance c st.held d (stream st.held d p)
        → Outcome st d p

  pub outcome : (st : Deframer) (d p : List ℕ) → Outcome st d p
  outcome st d p = by (ceiling_ok c) refl
    where
      go : CeilingOk c → Dec (length d < c) → (k : Bool) → known_of c st d ≡ k → Dec (st.error ≡ 0) → Outcome st d p
      go in_range (yes l) k e z = stays 1 (call_small c st d p in_range l)
      go in_range (no l) false e z = stays 2 (call_unknown c st d p in_range (omega arith) e)
      go in_range (no l) true e (no z) = stays st.error (call_refused_lem c st d p in_range (omega arith) e z)
      go in_range (no l) true e (yes z) = moves in_range (omega arith) e z (call_moves c st d p in_range (omega arith) e z)

      by : (b : Bool) → ceiling_ok c ≡ b → Outcome st d p
      by false e = stays 41 (call_ceiling c st d p e)
      by true e = go (ceiling_range c e) (dec_lt (length d) c) (known_of c st d) refl (ℕ_discrete st.error 0)

  pub reach_within : (s : List ℕ) → reach (next_frame c s) s ≤ length s
  reach_within s = go (shape c s)
    where
      go : Shape c s → reach (next_frame c s) s ≤ length s
      go (short l) = rw (next_short c s l) (omega arith)
      go (bad l b) = rw (next_bad c s l b) l
      go (part l e t) = rw (next_part c s l e t) (omega arith)
      go (whole l e t) = rw (next_whole c s l e t) t

  module _ (st : Deframer) (d p : List ℕ) where
    pub taken_within : (deframed c st d p).step.taken ≤ length p
    taken_within = go (outcome st d p)
      where
        go : Outcome st d p → (deframed c st d p).step.taken ≤ length p
        go (stays code e) = rw e (omega arith)
        go (moves in_range big k z e) =
            let s = stream st.held d p in
            rw e (omega (arith, reach_within s, length-append (take st.held d) p, length-take st.held d))

    -- a state that can go on: what it holds is in the buffer, and less than the frame that the stream begins with
    module _ (in_range : CeilingOk c) (big : c ≤ length d) (known : known_of c st d ≡ true) (none : st.error ≡ 0) where
      fits : st.held ≤ length d
      fits = held_fits c in_range st d big known

      held_less : header_error c (take 16 (stream st.held d p)) ≡ 0 → st.held < total_of (take 16 (stream st.held d p))
      held_less g = go (dec_lt st.held 16)
        where
          go : Dec (st.held < 16) → st.held < total_of (take 16 (stream st.held d p))
          go (yes l) = omega (arith, good_total c (take 16 (stream st.held d p)) g)
          go (no l) = rw (stream_head d p st.held fits 16 (omega arith)) (known_good c st d none known (omega arith)).1

      -- what is held is never past what the call reaches: the subtraction of `moved` does not stop at 0
      pub held_reached : st.held ≤ reach (next_frame c (stream st.held d p)) (stream st.held d p)
      held_reached = go (shape c (stream st.held d p))
        where
          go : Shape c (stream st.held d p) → st.held ≤ reach (next_frame c (stream st.held d p)) (stream st.held d p)
          go (short l) = rw (next_short c _ l) (omega (arith, stream_length d p st.held fits))
          go (bad l b) = rw (next_bad c _ l b) (by (dec_lt st.held 16))
            where
              by : Dec (st.held < 16) → st.held ≤ 16
              by (yes h) = omega arith
              by (no h) =
                  absurd (b (rw (stream_head d p st.held fits 16 (omega arith)) (known_good c st d none known (omega arith)).0))
          go (part l g t) = rw (next_part c _ l g t) (omega (arith, stream_length d p st.held fits))
          go (whole l g t) = rw (next_whole c _ l g t) (omega (arith, held_less g))

      reach_more : 0 < length p → is_refused (next_frame c (stream st.held d p)) ≡ false
          → st.held < reach (next_frame c (stream st.held d p)) (stream st.held d p)
      reach_more some r = go (shape c (stream st.held d p))
        where
          go : Shape c (stream st.held d p) → st.held < reach (next_frame c (stream st.held d p)) (stream st.held d p)
          go (short l) = rw (next_short c _ l) (omega (arith, stream_length d p st.held fits))
          go (bad l b) = absurd (subst T (sym (ap is_refused (next_bad c _ l b)) ∙ r) tt)
          go (part l g t) = rw (next_part c _ l g t) (omega (arith, stream_length d p st.held fits))
          go (whole l g t) = rw (next_whole c _ l g t) (held_less g)

    pub taken_some : 0 < length p → is_refused (deframed c st d p).step.progress ≡ false → 0 < (deframed c st d p).step.taken
    taken_some some r = go (outcome st d p)
      where
        go : Outcome st d p → 0 < (deframed c st d p).step.taken
        go (stays code e) = absurd (subst T (sym (ap (λ (o : Out). is_refused o.step.progress) e) ∙ r) tt)
        go (moves in_range big k z e) =
            let q = sym (ap (λ (o : Out). is_refused o.step.progress) e) ∙ r in
            rw e (omega (arith, reach_more in_range big k z some q))
