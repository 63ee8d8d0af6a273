-- For a user (document 02, P11): where a connection's ceiling changes nothing in the cutting of a whole stream, on the uncut reading, with
-- which the stream theorem compares any list of calls.
--
-- Promised, of any ceiling in range and any stream: where each frame of the uncut reading under 65,536 has at most as many bytes as the
-- ceiling, and what is left after the frames has under 16 bytes or a total within the ceiling, the uncut reading under the ceiling is the
-- same, with the same frames and the same end (`uncut_under`). Of what is left it is enough that its first 16 bytes have the same error
-- code under both (`uncut_judged`), as they do where magic or types are refused, with 3 to 5, whatever the total (`judged_types`).
-- Not promised: anything of a stream with a frame over the ceiling, or with another error code in what is left.
-- Ruled out: cutting in which a ceiling that no total of a stream is over loses a frame, adds one, or changes the end.
-- Assumes nothing.
use Prim.Native.Nat.{ℕ, suc, zero, ◌+◌, ◌≤◌, ◌<◌}
use mathlib.Core.Path.{◌≡◌, sym, ap, ◌∙◌, subst}
use mathlib.Core.Bool.{Bool, true, false, cond}
use mathlib.Core.List.{List}
use native.Mathlib.Omega.{arith}
use native.Mathlib.Decide.{ℕ_discrete}
use lib.ListN.{length, take, drop, get_or, length-append, length-drop}
use lib.Seq.{length-take-le, drop-drop}
use Rattle.refusals.specs.Grounds.{Every}
use Rattle.fixed_header.specs.Header.{max_frame, CeilingOk, header_error, total_of, header_size_of, total_ok, header_size_ok}
use Rattle.fixed_header.specs.Header.{type_fault, size_fault, fault_of}
use Rattle.fixed_header.proofs.Codes.{largest, good_total, first_sixteen, types_pass}
use Rattle.fixed_header.proofs.Ceilings.{same_under}
use Rattle.deframer.specs.Stream.{Uncut, before, uncut, laid}
use Rattle.deframer.proofs.Advance.{Shape, short, bad, part, whole, shape}
use Rattle.deframer.proofs.Uncut.{uncut_short, uncut_bad, uncut_part, uncut_whole}
use Rattle.deframer.proofs.LastTwoUncut.{left_after}

-- ---- the numbers of the sizes come after those of magic and types
size_late : (c data_type total size : ℕ) → 0 < size_fault c data_type total size → 6 ≤ size_fault c data_type total size
size_late c data_type total size some = go (total_ok c total) (header_size_ok data_type total size) some
  where
    go : (x y : Bool) → 0 < cond x (cond y 0 7) 6 → 6 ≤ cond x (cond y 0 7) 6
    go true true some = absurd (omega arith)
    go true false some = omega arith
    go false y some = omega arith

types_first : (a b d t x y : ℕ) → (0 < y → 6 ≤ y) → 0 < type_fault a b d t y → type_fault a b d t y ≤ 5
    → type_fault a b d t x ≡ type_fault a b d t y
types_first a b d t x y late some few = go (ℕ_discrete (type_fault a b d t 0) 0)
  where
    go : Dec (type_fault a b d t 0 ≡ 0) → type_fault a b d t x ≡ type_fault a b d t y
    go (yes z) =
        let e : type_fault a b d t y ≡ y = (types_pass a b d t y).0 z in
        absurd (omega (arith, late (rw e at some), rw e at few))
    go (no n) = (types_pass a b d t x).1 n ∙ sym ((types_pass a b d t y).1 n)

fault_types : (c : ℕ) (h : List ℕ) → 0 < fault_of max_frame h → fault_of max_frame h ≤ 5 → fault_of c h ≡ fault_of max_frame h
unfolding fault_of
fault_types c h some few =
    types_first (get_or h 0 0) (get_or h 1 0) (get_or h 2 0) (get_or h 3 0) _ _
    (size_late max_frame (get_or h 2 0) (total_of h) (header_size_of h)) some few

module _ (c : ℕ) where
  -- ---- what the theorem is said with

  -- each frame has at most as many bytes as the ceiling
  abbrev pub FramesWithin : List (List ℕ) → Type 0
  FramesWithin fs = Every (λ (f : List ℕ). length f ≤ c) fs

  -- a stream that has a header has a total within the ceiling
  abbrev pub TotalWithin : List ℕ → Type 0
  TotalWithin s = 16 ≤ length s → total_of (take 16 s) ≤ c

  -- a stream that has a header has the same error code as under 65,536
  abbrev pub JudgedAlike : List ℕ → Type 0
  JudgedAlike s = 16 ≤ length s → header_error c (take 16 s) ≡ header_error max_frame (take 16 s)

  module _ (in_range : CeilingOk c) where
    -- magic or types that are refused
    pub judged_types : (s : List ℕ) → 0 < header_error max_frame (take 16 s) → header_error max_frame (take 16 s) ≤ 5 → JudgedAlike s
    judged_types s some few l =
        let e = first_sixteen max_frame largest s l in
        first_sixteen c in_range s l ∙ fault_types c (take 16 s) (rw e at some) (rw e at few) ∙ sym e

    -- ---- along the frames

    -- the two premises, of a reading u of s
    record Within (s : List ℕ) (u : Uncut) : Type 0 where
      frames_within : FramesWithin u.frames
      left_alike : JudgedAlike (drop (length (laid u.frames)) s)

    -- after a frame of size bytes they hold of the rest
    rest_within : (size : ℕ) (s : List ℕ) (u : Uncut) → size ≤ length s → Within s (before (take size s) u)
        → (size ≤ c) × Within (drop size s) u
    rest_within size s u fits w =
        let n = length-take-le size s fits in
        let m = length (laid u.frames) in
        let sum = length-append (take size s) (laid u.frames) in
        let all : length (laid (before (take size s) u).frames) ≡ size + m = omega (arith, sum, n) in
        let left : drop (length (laid (before (take size s) u).frames)) s ≡ drop m (drop size s) =
        ap (λ (k : ℕ). drop k s) all ∙ sym (drop-drop m size s) in (
          omega (arith, n, w.frames_within.0),
          record { frames_within = w.frames_within.1; left_alike = subst JudgedAlike left w.left_alike },
        )

    same : (k : ℕ) (s : List ℕ) → length s < k → Within s (uncut max_frame s) → uncut c s ≡ uncut max_frame s
    same zero s h w = absurd (omega arith)
    same (suc k) s h w = go (shape max_frame s) (same k (drop (total_of (take 16 s)) s))
      where
        go : Shape max_frame s
            → (length (drop (total_of (take 16 s)) s) < k
            → Within (drop (total_of (take 16 s)) s) (uncut max_frame (drop (total_of (take 16 s)) s))
            → uncut c (drop (total_of (take 16 s)) s) ≡ uncut max_frame (drop (total_of (take 16 s)) s))
            → uncut c s ≡ uncut max_frame s
        go (short p) ih = uncut_short c s p ∙ sym (uncut_short max_frame s p)
        go (bad p b) ih =
            let u = uncut_bad max_frame s p b in
            let e : header_error c (take 16 s) ≡ header_error max_frame (take 16 s) = (subst (Within s) u w).left_alike p in
            uncut_bad c s p (λ z. b (sym e ∙ z)) ∙ rw e (sym u)
        go (part p g l) ih =
            let u = uncut_part max_frame s p g l in
            let e : header_error c (take 16 s) ≡ header_error max_frame (take 16 s) = (subst (Within s) u w).left_alike p in
            uncut_part c s p (e ∙ g) l ∙ sym u
        go (whole p g l) ih =
            let size = total_of (take 16 s) in
            let u = uncut_whole max_frame s p g l in
            let rest = rest_within size s (uncut max_frame (drop size s)) l (subst (Within s) u w) in
            let later = ih (omega (arith, length-drop size s, good_total max_frame (take 16 s) g)) rest.1 in
            uncut_whole c s p (same_under c in_range (take 16 s) rest.0 ∙ g) l ∙ ap (before (take size s)) later ∙ sym u

    -- ---- the theorem
    module _ (s : List ℕ) where
      pub uncut_judged : FramesWithin (uncut max_frame s).frames → JudgedAlike (left_after max_frame s) → uncut c s ≡ uncut max_frame s
      uncut_judged frames left = same (suc (length s)) s (omega arith) (record { frames_within = frames; left_alike = left })

      pub uncut_under : FramesWithin (uncut max_frame s).frames → TotalWithin (left_after max_frame s) → uncut c s ≡ uncut max_frame s
      uncut_under frames left = uncut_judged frames (λ l. same_under c in_range (take 16 (left_after max_frame s)) (left l))
