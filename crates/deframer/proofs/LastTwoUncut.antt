-- For a user (document 02, P2): the cutting of a whole stream accepts all versions and ignores byte 16 of each frame, on the uncut reading,
-- with which the stream theorem compares any list of calls.
--
-- Promised, of any stream, under every ceiling: it is its frames and then what is left (`frames_then_left`). Replace each frame by one of
-- the same length with the same first 14 bytes, and what is left by as many bytes with the same first 14. The result is cut, under that
-- ceiling, into just those frames, and ends the same: clean, short with the same number, or refused with the same code (`uncut_alike`).
-- So byte 15 and byte 16 may be anything, in each frame and in what is left. That the bytes after the 16th are the same is not asked:
-- cutting looks at none of them.
-- Not promised: that the messages in the frames read the same; that is said of the readers. Anything of frames of other lengths, or that
-- differ among their first 14 bytes, or of two ceilings.
-- Ruled out: cutting that refuses one version and not another, ends where the version changes between frames, or looks at byte 16.
-- Assumes nothing.
use Prim.Native.Nat.{ℕ, suc, zero, ◌<◌}
use mathlib.Core.Path.{◌≡◌, refl, sym, ap, ◌∙◌, subst}
use mathlib.Core.List.{List, [], ◌∷◌, ◌++◌, append_assoc}
use native.Mathlib.Omega.{arith}
use lib.ListN.{length, take, drop, length-append, length-drop, take-append-drop}
use lib.Seq.{length-take-le, take-take, drop_at, drop-drop}
use Rattle.fixed_header.specs.Header.{total_of}
use Rattle.fixed_header.proofs.Codes.{good_total}
use Rattle.fixed_header.proofs.LastTwo.{first_error, first_total}
use Rattle.deframer.specs.Stream.{Uncut, stops, before, uncut, laid}
use Rattle.deframer.specs.End.{End}
use Rattle.deframer.proofs.Advance.{Shape, short, bad, part, whole, shape}
use Rattle.deframer.proofs.Uncut.{Whole, uncut_short, uncut_bad, uncut_part, uncut_whole, uncut_frame}

-- ---- what the theorem is said with

-- two frames of one length that agree on their first 14 bytes. Frames that differ only in bytes 15 and 16 are such
pub record FrameAlike (f g : List ℕ) : Type 0 where
  pub long : length f ≡ length g
  pub front : take 14 f ≡ take 14 g

-- as many frames, each like the one in its place
abbrev pub FramesAlike : (fs gs : List (List ℕ)) → Type 0
FramesAlike [] gs = gs ≡ []
FramesAlike (f ∷ fs) [] = ⊥
FramesAlike (f ∷ fs) (g ∷ gs) = FrameAlike f g × FramesAlike fs gs

-- what a stream has after its frames
abbrev pub left_after : (c : ℕ) → List ℕ → List ℕ
left_after c s = drop (length (laid (uncut c s).frames)) s

-- ---- the same of a reading u of s
abbrev left_in : List ℕ → Uncut → List ℕ
left_in s u = drop (length (laid u.frames)) s

-- a frame first does not change what is left
left_same : (f s : List ℕ) (u : Uncut) → left_in (f ++ s) (before f u) ≡ left_in s u
left_same f s u =
    let m = length (laid u.frames) in
    ap (λ (n : ℕ). drop n (f ++ s)) (length-append f (laid u.frames))
    ∙ sym (drop-drop m (length f) (f ++ s))
    ∙ ap (drop m) (drop_at f s (length f) refl)

module _ (c : ℕ) where
  -- ---- going along the frames of a stream

  -- in s, and in each stream of its length with its first 14 bytes, no frame is first, and the end is e
  record StopsAlike (s : List ℕ) (e : End) : Type 0 where
    alike : (t : List ℕ) → length s ≡ length t → take 14 s ≡ take 14 t → uncut c t ≡ stops e

  -- what holds where no frame is first, and of a whole frame and then a stream if of that stream, holds of every stream and its reading
  module _ (P : List ℕ → Uncut → Type 0) (at-stop : (s : List ℕ) (e : End) → StopsAlike s e → P s (stops e))
      (at-frame : (f s : List ℕ) (u : Uncut) → Whole c f → P s u → P (f ++ s) (before f u)) where
    along : (k : ℕ) (s : List ℕ) → length s < k → P s (uncut c s)
    along zero s h = absurd (omega arith)
    along (suc k) s h = go (shape c s) (along k (drop (total_of (take 16 s)) s))
      where
        stopped : {e : End} → uncut c s ≡ stops e → StopsAlike s e → P s (uncut c s)
        stopped is always = subst (P s) (sym is) (at-stop s _ always)

        go : Shape c s
            → (length (drop (total_of (take 16 s)) s) < k → P (drop (total_of (take 16 s)) s) (uncut c (drop (total_of (take 16 s)) s)))
            → P s (uncut c s)
        go (short p) ih =
            stopped (uncut_short c s p) (record { alike = λ t long front. rw long (uncut_short c t (omega (arith, long, p))) })
        go (bad p b) ih =
            stopped (uncut_bad c s p b)
            (record {
              alike = λ t long front.
                  let e = first_error s t long front c in
                  uncut_bad c t (omega (arith, long, p)) (λ z. b (e ∙ z)) ∙ rw e refl;
            })
        go (part p g l) ih =
            stopped (uncut_part c s p g l)
            (record {
              alike = λ t long front.
                  let n = first_total s t long front in
                  let good = sym (first_error s t long front c) ∙ g in
                  uncut_part c t (omega (arith, long, p)) good (omega (arith, long, n, l)) ∙ rw long refl;
            })
        go (whole p g l) ih =
            let size = total_of (take 16 s) in
            let n = length-take-le size s l in
            let a : take 16 (take size s) ≡ take 16 s = take-take 16 size s (good_total c (take 16 s) g).0 in
            let most = good_total c (take 16 s) g in
            let w : Whole c (take size s) = record { long = omega (arith, most); good = rw a g; all = rw a (sym n) } in
            let later = ih (omega (arith, length-drop size s, most)) in
            subst (P s) (sym (uncut_whole c s p g l))
            (subst (λ (x : List ℕ). P x (before (take size s) (uncut c (drop size s)))) (take-append-drop size s)
            (at-frame (take size s) (drop size s) (uncut c (drop size s)) w later))

    along_frames : (s : List ℕ) → P s (uncut c s)
    along_frames s = along (suc (length s)) s (omega arith)

  -- ---- a stream is its frames, and then what is left
  pub frames_then_left : (s : List ℕ) → laid (uncut c s).frames ++ left_after c s ≡ s
  frames_then_left s = along_frames (λ s u. laid u.frames ++ left_in s u ≡ s) (λ s e always. refl) more s
    where
      more : (f s : List ℕ) (u : Uncut) → Whole c f → laid u.frames ++ left_in s u ≡ s
          → (f ++ laid u.frames) ++ left_in (f ++ s) (before f u) ≡ f ++ s
      more f s u w e =
          append_assoc f (laid u.frames) _
          ∙ ap (λ (x : List ℕ). f ++ (laid u.frames ++ x)) (left_same f s u)
          ∙ ap (λ (x : List ℕ). f ++ x) e

  -- ---- the exchange

  -- a frame like a whole one is whole
  whole_alike : (f g : List ℕ) → Whole c f → FrameAlike f g → Whole c g
  whole_alike f g w a =
      record {
        long = omega (arith, w.long, a.long);
        good = sym (first_error f g a.long a.front c) ∙ w.good;
        all = sym (first_total f g a.long a.front) ∙ w.all ∙ a.long;
      }

  -- the theorem of a stream s and its reading u, so that it can go along the frames
  abbrev Exchanges : List ℕ → Uncut → Type 0
  Exchanges s u = (gs : List (List ℕ)) (rest : List ℕ) → FramesAlike u.frames gs
      → length (left_in s u) ≡ length rest → take 14 (left_in s u) ≡ take 14 rest
      → uncut c (laid gs ++ rest) ≡ record { frames = gs; end = u.end }

  exchanges_stop : (s : List ℕ) (e : End) → StopsAlike s e → Exchanges s (stops e)
  exchanges_stop s e always gs rest none long front = rw none (always.alike rest long front)

  exchanges_frame : (f s : List ℕ) (u : Uncut) → Whole c f → Exchanges s u → Exchanges (f ++ s) (before f u)
  exchanges_frame f s u w later [] rest alike long front = absurd alike
  exchanges_frame f s u w later (g ∷ gs) rest alike long front =
      let left = sym (left_same f s u) in
      ap (uncut c) (append_assoc g (laid gs) rest)
      ∙ uncut_frame c g (laid gs ++ rest) (whole_alike f g w alike.0)
      ∙ ap (before g) (later gs rest alike.1 (ap length left ∙ long) (ap (take 14) left ∙ front))

  pub uncut_alike : (s : List ℕ) (gs : List (List ℕ)) (rest : List ℕ) → FramesAlike (uncut c s).frames gs
      → length (left_after c s) ≡ length rest → take 14 (left_after c s) ≡ take 14 rest
      → ((uncut c (laid gs ++ rest)).frames ≡ gs) × ((uncut c (laid gs ++ rest)).end ≡ (uncut c s).end)
  uncut_alike s gs rest alike long front =
      let e = along_frames Exchanges exchanges_stop exchanges_frame s gs rest alike long front in
      (ap (λ (u : Uncut). u.frames) e, ap (λ (u : Uncut). u.end) e)
