-- The moves of the deframer, over plain lists: what comes first in a stream under a ceiling c, case by case, and what each `return` of
-- `content`, `head` and `deframe` asks
use Prim.Native.Nat.{ℕ, ◌+◌, ◌-◌, ◌≤◌, ◌<◌, min}
use mathlib.Core.Path.{◌≡◌, refl, sym, ap, ◌∙◌}
use mathlib.Core.Bool.{Bool, true, false, cond}
use mathlib.Core.List.{List, ◌++◌}
use native.Mathlib.Omega.{arith}
use native.Mathlib.Nat.{sub_self}
use native.Mathlib.Decide.{dec_le, dec_lt, ℕ_discrete}
use borrow.Author.Tests.{lt-ltb, le-ltb, le-leb, lt-leb, eq-eqb, ne_eqb}
use lib.ListN.{length, take, drop, take-append-drop}
use lib.Seq.{length-take-le, take_at}
use Rattle.fixed_header.specs.Header.{ceiling_ok, CeilingOk, header_error, total_of}
use Rattle.deframer.specs.Deframe.{known_of, stream, whole_or_more, next_frame, reach, next_state, moved, advance, refuse, unmoved}
use Rattle.deframer.specs.Deframe.{deframed}
use Rattle.deframer.specs.declared.Deframer.{Deframer}
use Rattle.deframer.specs.Step.{Step}
use Rattle.deframer.specs.Progress.{Progress}
use Rattle.deframer.specs.Progress.{Frame, NeedMore, Refused}
use Rattle.deframer.proofs.Lists.{stream_length, stream_head, drop_stream}
use Rattle.laws.proofs.Lists.{drop_past}
use Rattle.fixed_header.proofs.Codes.{ceiling_ok_lem, good_total}

-- ---- a move: r and ys are the answer and the buffer of a call that comes to p at the stream l
abbrev pub Moves : Progress → Step → List ℕ → ℕ → List ℕ → List ℕ → Type 0
Moves p r ys old d l = (r ≡ (moved p old d l).step) × (ys ≡ (moved p old d l).buffer)

move : (p : Progress) (d l ys : List ℕ) (old k : ℕ) (st : Deframer) → k ≡ reach p l → st ≡ next_state p l
    → ys ≡ take k l ++ drop k d
    → Moves p (record { progress = p; next = st; taken = k - old }) ys old d l
move p d l ys old k st e s y = rw (← e, ← s) (refl, y)

-- ---- `content`: the stream l begins with a frame of t bytes, and h of its bytes are in the buffer
module _ (d l ys : List ℕ) (old h t : ℕ) (hm : h ≡ min t (length l)) (y : ys ≡ take h l ++ drop h d) where
  pub content_more : h < t
      → Moves (whole_or_more t l) (record { progress = NeedMore; next = record { held = h; error = 0 }; taken = h - old }) ys old d l
  content_more u =
      let e : h ≡ length l = omega arith in
      rw (lt-leb t (length l) (omega arith)) (move NeedMore d l ys old h _ e (ap (λ (n : ℕ). record { held = n; error = 0 }) e) y)

  pub content_whole : t ≤ h
      → Moves (whole_or_more t l) (record { progress = Frame t; next = record { held = 0; error = 0 }; taken = t - old }) ys old d l
  content_whole u =
      let e : h ≡ t = omega arith in
      rw (le-leb t (length l) (omega arith)) (move (Frame t) d l ys old t _ refl refl (rw e at y))

-- where the header is in the buffer at the call, nothing of the piece is in it
pub from_start : (t : ℕ) (r : Step) (ys d p : List ℕ) (held : ℕ)
    → Moves (whole_or_more t (stream held d (drop (held - held) p))) r ys held d (stream held d (drop (held - held) p))
    → Moves (whole_or_more t (stream held d p)) r ys held d (stream held d p)
from_start t r ys d p held m = rw sub_self at m

module _ (c : ℕ) where
  -- ---- what comes first in a stream
  module _ (s : List ℕ) where
    pub next_short : length s < 16 → next_frame c s ≡ NeedMore
    unfolding next_frame
    next_short h = simp (lt-ltb _ _ h)

    module _ (h : 16 ≤ length s) where
      pub next_bad : (header_error c (take 16 s) ≡ 0 → ⊥) → next_frame c s ≡ Refused (header_error c (take 16 s))
      unfolding next_frame
      next_bad b = simp (le-ltb _ _ h, ne_eqb _ _ b)

      module _ (g : header_error c (take 16 s) ≡ 0) where
        pub next_good : next_frame c s ≡ whole_or_more (total_of (take 16 s)) s
        unfolding next_frame
        next_good = simp (le-ltb _ _ h, eq-eqb _ _ g)

        pub next_part : length s < total_of (take 16 s) → next_frame c s ≡ NeedMore
        next_part l = next_good ∙ rw (lt-leb _ _ l)

        pub next_whole : total_of (take 16 s) ≤ length s → next_frame c s ≡ Frame (total_of (take 16 s))
        next_whole l = next_good ∙ rw (le-leb _ _ l)

  -- the four shapes of a stream, by which the deframer and the uncut reading go
  pub data Shape (s : List ℕ) : Type 0 where
    short : length s < 16 → Shape s
    bad : 16 ≤ length s → (header_error c (take 16 s) ≡ 0 → ⊥) → Shape s
    part : 16 ≤ length s → header_error c (take 16 s) ≡ 0 → length s < total_of (take 16 s) → Shape s
    whole : 16 ≤ length s → header_error c (take 16 s) ≡ 0 → total_of (take 16 s) ≤ length s → Shape s

  pub shape : (s : List ℕ) → Shape s
  shape s = go (dec_lt (length s) 16) (ℕ_discrete (header_error c (take 16 s)) 0) (dec_le (total_of (take 16 s)) (length s))
    where
      go : Dec (length s < 16) → Dec (header_error c (take 16 s) ≡ 0) → Dec (total_of (take 16 s) ≤ length s) → Shape s
      go (yes p) f t = short p
      go (no p) (yes e) (yes q) = whole (omega arith) e q
      go (no p) (yes e) (no q) = part (omega arith) e (omega arith)
      go (no p) (no e) t = bad (omega arith) e

  -- past a header the reach is past the header
  pub reach_past : (l : List ℕ) → 16 ≤ length l → 16 ≤ reach (next_frame c l) l
  reach_past l h = go (shape l)
    where
      go : Shape l → 16 ≤ reach (next_frame c l) l
      go (short p) = absurd (omega arith)
      go (bad p b) = rw (next_bad l p b) (omega arith)
      go (part p e t) = rw (next_part l p e t) p
      go (whole p e t) = rw (next_whole l p e t) (good_total c (take 16 l) e).0

  -- ---- a move by what comes first: r and ys are its answer and its buffer at the stream l
  abbrev pub Moved : Step → List ℕ → ℕ → List ℕ → List ℕ → Type 0
  Moved r ys old d l = (r ≡ (advance c old d l).step) × (ys ≡ (advance c old d l).buffer)

  -- what `content` does with a stream that begins with a good header
  pub content_moved : (t : ℕ) (r : Step) (ys d l : List ℕ) (old : ℕ) → 16 ≤ length l → header_error c (take 16 l) ≡ 0
      → t ≡ total_of (take 16 l)
      → Moves (whole_or_more t l) r ys old d l → Moved r ys old d l
  content_moved t r ys d l old long good is m =
      rw (next_good l long good ∙ ap (λ (n : ℕ). whole_or_more n l) (sym is)) m

  -- where 16 bytes or more of a stream are in the buffer, it begins with the buffer's header
  pub begins : (d q : List ℕ) (held t : ℕ) → 16 ≤ held → held ≤ length d → header_error c (take 16 d) ≡ 0 → t ≡ total_of (take 16 d)
      → (16 ≤ length (stream held d q)) × (header_error c (take 16 (stream held d q)) ≡ 0) × (t ≡ total_of (take 16 (stream held d q)))
  begins d q held t past fits good is =
      rw (stream_head d q held fits 16 past) (omega (arith, stream_length d q held fits), good, is)

  -- ---- `head`: r bytes of the stream are in the buffer ys
  module _ (d p ys : List ℕ) (held r : ℕ) (big : 16 ≤ length d) (under : held < 16)
      (fm : r ≡ min 16 (length (stream held d p))) (fy : ys ≡ take r (stream held d p) ++ drop r d) where
    pub head_short : r < 16
        → Moved (record { progress = NeedMore; next = record { held = r; error = 0 }; taken = r - held }) ys held d (stream held d p)
    head_short l =
        let e : r ≡ length (stream held d p) = omega arith in
        rw (next_short (stream held d p) (omega arith))
        (move NeedMore d (stream held d p) ys held r _ e (ap (λ (n : ℕ). record { held = n; error = 0 }) e) fy)

    module _ (ge : 16 ≤ r) where
      full : 16 ≤ length (stream held d p)
      full = omega arith

      y : ys ≡ take 16 (stream held d p) ++ drop 16 d
      y = let e : r ≡ 16 = omega arith in rw e at fy

      pub head_room : 16 - held ≤ length p
      head_room = omega (arith, stream_length d p held (omega arith), full)

      -- the header in the buffer is the stream's, and so is the stream from there
      filled : take 16 ys ≡ take 16 (stream held d p)
      filled = ap (take 16) y ∙ take_at (take 16 (stream held d p)) (drop 16 d) 16 (length-take-le 16 (stream held d p) full)

      on : stream 16 ys (drop (16 - held) p) ≡ stream held d p
      on =
          let all : held + (16 - held) ≡ 16 = omega arith in
          ap (λ (x : List ℕ). x ++ drop (16 - held) p) filled
          ∙ ap (λ (x : List ℕ). take 16 (stream held d p) ++ x)
          (sym (drop_stream d p held (omega arith) (16 - held)) ∙ ap (λ (k : ℕ). drop k (stream held d p)) all)
          ∙ take-append-drop 16 (stream held d p)

      pub head_bad : (f : ℕ) → f ≡ header_error c (take 16 ys) → (f ≡ 0 → ⊥)
          → Moved (record { progress = Refused f; next = record { held = 16; error = f }; taken = 16 - held }) ys held d (stream held d p)
      head_bad f e n =
          let g : f ≡ header_error c (take 16 (stream held d p)) = e ∙ ap (header_error c) filled in
          rw (next_bad (stream held d p) full (rw (← g) n) ∙ ap Refused (sym g))
          (move (Refused f) d (stream held d p) ys held 16 _ refl refl y)

      -- the move from the buffer with the header in it is the move of the whole call
      pub head_on : (res : Step) (zs : List ℕ) → Moved res zs held ys (stream 16 ys (drop (16 - held) p))
          → Moved res zs held d (stream held d p)
      head_on res zs m =
          let n : Moved res zs held ys (stream held d p) = rw on at m in
          let k = reach (next_frame c (stream held d p)) (stream held d p) in
          let e : drop k ys ≡ drop k d =
          ap (drop k) y
          ∙ drop_past k 16 (take 16 (stream held d p)) (drop 16 d) d (length-take-le 16 (stream held d p) full)
          (reach_past (stream held d p) full) refl in
          (n.0, n.1 ∙ ap (λ (x : List ℕ). take k (stream held d p) ++ x) e)

  -- ---- `deframe`: the outcomes of a call
  module _ (st : Deframer) (d p : List ℕ) where
    pub call_ceiling : ceiling_ok c ≡ false → deframed c st d p ≡ unmoved 41 st d
    unfolding deframed
    call_ceiling e = simp e

    module _ (in_range : CeilingOk c) where
      pub call_small : length d < c → deframed c st d p ≡ unmoved 1 st d
      unfolding deframed
      call_small h = simp (ceiling_ok_lem c in_range, lt-ltb _ _ h)

      module _ (big : c ≤ length d) where
        pub call_unknown : known_of c st d ≡ false → deframed c st d p ≡ unmoved 2 st d
        unfolding deframed
        call_unknown k = simp (ceiling_ok_lem c in_range, le-ltb _ _ big, k)

        module _ (known : known_of c st d ≡ true) where
          pub call_refused_lem : (st.error ≡ 0 → ⊥) → deframed c st d p ≡ unmoved st.error st d
          unfolding deframed
          call_refused_lem n = simp (ceiling_ok_lem c in_range, le-ltb _ _ big, known, ne_eqb _ _ n)

          pub call_moves : st.error ≡ 0 → deframed c st d p ≡ advance c st.held d (stream st.held d p)
          unfolding deframed
          call_moves z = simp (ceiling_ok_lem c in_range, le-ltb _ _ big, known, eq-eqb _ _ z)

        pub call_held : (st.error ≡ 0 → ⊥) → deframed c st d p ≡ unmoved (cond (known_of c st d) st.error 2) st d
        call_held n = by (known_of c st d) refl
          where
            by : (k : Bool) → known_of c st d ≡ k → deframed c st d p ≡ unmoved (cond k st.error 2) st d
            by true e = call_refused_lem e n
            by false e = call_unknown e

  -- r and ys are the answer and the buffer of a call
  abbrev pub Called : Step → List ℕ → Deframer → List ℕ → List ℕ → Type 0
  Called r ys st d p = (r ≡ (deframed c st d p).step) × (ys ≡ (deframed c st d p).buffer)

  pub called_refused : (st : Deframer) (d p : List ℕ) (n : ℕ) (r : Step) → r ≡ refuse n st → deframed c st d p ≡ unmoved n st d
      → Called r d st d p
  called_refused st d p n r e u = rw u (e, refl)

  pub called_moved : (st : Deframer) (d p : List ℕ) (r : Step) (ys : List ℕ)
      → deframed c st d p ≡ advance c st.held d (stream st.held d p)
      → Moved r ys st.held d (stream st.held d p) → Called r ys st d p
  called_moved st d p r ys e m = rw e m
