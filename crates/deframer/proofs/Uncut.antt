-- Laws of the uncut reading under a ceiling c: its four cases, a frame in front, and that it stops at a refused header whatever follows
use Prim.Native.Nat.{ℕ, suc, zero, ◌≤◌, ◌<◌}
use mathlib.Core.Path.{◌≡◌, refl, sym, ap, ◌∙◌}
use mathlib.Core.List.{List, ◌++◌, append_assoc}
use mathlib.Core.Bool.{Bool, true, false, cond}
use native.Mathlib.Omega.{arith}
use borrow.Author.Tests.{lt-ltb, le-ltb, le-leb, lt-leb, eq-eqb, ne_eqb}
use lib.Dec.{eqb}
use lib.ListN.{length, take, drop, length-append, length-drop, take-append-drop}
use lib.Seq.{length-take-le, take-append-le, take_at, drop_at, take-take}
use Rattle.fixed_header.specs.Header.{header_error, total_of}
use Rattle.deframer.specs.Stream.{Uncut, stops, before, uncut_in, uncut}
use Rattle.deframer.specs.End.{Clean, Short, Refused}
use Rattle.fixed_header.proofs.Codes.{good_total}
use Rattle.deframer.proofs.Advance.{Shape, short, bad, part, whole, shape}

-- an end of the first kinds is no refusal
not_refused : (b : Bool) (n code : ℕ) → cond b Clean (Short n) ≡ Refused code → ⊥
not_refused true n code e = let z : ◌≡◌ {A = ℕ} 0 1 = cc in omega arith
not_refused false n code e = let z : ◌≡◌ {A = ℕ} 0 1 = cc in omega arith

short_not_refused : (n code : ℕ) → Short n ≡ Refused code → ⊥
short_not_refused n code e = let z : ◌≡◌ {A = ℕ} 0 1 = cc in omega arith

end_of : {u v : Uncut} → u ≡ v → u.end ≡ v.end
end_of e = ap (λ (u : Uncut). u.end) e

module _ (c : ℕ) where
  -- ---- the four cases
  module _ (k : ℕ) (s : List ℕ) where
    in_short : length s < 16 → uncut_in c (suc k) s ≡ stops (cond (eqb (length s) 0) Clean (Short (length s)))
    unfolding uncut_in
    in_short h = simp (lt-ltb _ _ h)

    module _ (h : 16 ≤ length s) where
      in_bad : (header_error c (take 16 s) ≡ 0 → ⊥) → uncut_in c (suc k) s ≡ stops (Refused (header_error c (take 16 s)))
      unfolding uncut_in
      in_bad e = simp (le-ltb _ _ h, ne_eqb _ _ e)

      in_part : header_error c (take 16 s) ≡ 0 → length s < total_of (take 16 s) → uncut_in c (suc k) s ≡ stops (Short (length s))
      unfolding uncut_in
      in_part e l = simp (le-ltb _ _ h, eq-eqb _ _ e, lt-leb _ _ l)

      in_whole : header_error c (take 16 s) ≡ 0 → total_of (take 16 s) ≤ length s
          → uncut_in c (suc k) s ≡ before (take (total_of (take 16 s)) s) (uncut_in c k (drop (total_of (take 16 s)) s))
      unfolding uncut_in
      in_whole e l = simp (le-ltb _ _ h, eq-eqb _ _ e, le-leb _ _ l)

  -- more fuel than bytes: how much more says nothing
  enough : (k j : ℕ) (s : List ℕ) → length s < k → length s < j → uncut_in c k s ≡ uncut_in c j s
  enough zero j s h g = absurd (omega arith)
  enough (suc k) zero s h g = absurd (omega arith)
  enough (suc k) (suc j) s h g = go (shape c s) (enough k j (drop (total_of (take 16 s)) s))
    where
      go : Shape c s
          → (length (drop (total_of (take 16 s)) s) < k → length (drop (total_of (take 16 s)) s) < j
          → uncut_in c k (drop (total_of (take 16 s)) s) ≡ uncut_in c j (drop (total_of (take 16 s)) s))
          → uncut_in c (suc k) s ≡ uncut_in c (suc j) s
      go (short p) ih = in_short k s p ∙ sym (in_short j s p)
      go (bad p e) ih = in_bad k s p e ∙ sym (in_bad j s p e)
      go (part p e l) ih = in_part k s p e l ∙ sym (in_part j s p e l)
      go (whole p e l) ih =
          let n = length-drop (total_of (take 16 s)) s in
          let t = good_total c (take 16 s) e in
          in_whole k s p e l ∙ ap (before (take (total_of (take 16 s)) s)) (ih (omega arith) (omega arith)) ∙ sym (in_whole j s p e l)

  module _ (s : List ℕ) where
    pub uncut_short : length s < 16 → uncut c s ≡ stops (cond (eqb (length s) 0) Clean (Short (length s)))
    unfolding uncut
    uncut_short h = in_short (length s) s h

    module _ (h : 16 ≤ length s) where
      pub uncut_bad : (header_error c (take 16 s) ≡ 0 → ⊥) → uncut c s ≡ stops (Refused (header_error c (take 16 s)))
      unfolding uncut
      uncut_bad e = in_bad (length s) s h e

      pub uncut_part : header_error c (take 16 s) ≡ 0 → length s < total_of (take 16 s) → uncut c s ≡ stops (Short (length s))
      unfolding uncut
      uncut_part e l = in_part (length s) s h e l

      pub uncut_whole : header_error c (take 16 s) ≡ 0 → total_of (take 16 s) ≤ length s
          → uncut c s ≡ before (take (total_of (take 16 s)) s) (uncut c (drop (total_of (take 16 s)) s))
      unfolding uncut
      uncut_whole e l =
          let n = length-drop (total_of (take 16 s)) s in
          let t = good_total c (take 16 s) e in
          in_whole (length s) s h e l
          ∙ ap (before (take (total_of (take 16 s)) s))
          (enough (length s) (suc (length (drop (total_of (take 16 s)) s))) (drop (total_of (take 16 s)) s) (omega arith) (omega arith))

  -- the bytes of one frame: a good header, and as many bytes as its total
  pub record Whole (f : List ℕ) : Type 0 where
    pub long : 16 ≤ length f
    pub good : header_error c (take 16 f) ≡ 0
    pub all : total_of (take 16 f) ≡ length f

  -- a frame, and the stream after it
  pub uncut_frame : (f r : List ℕ) → Whole f → uncut c (f ++ r) ≡ before f (uncut c r)
  uncut_frame f r w =
      let a : take 16 (f ++ r) ≡ take 16 f = take-append-le 16 f r w.long in
      let n : total_of (take 16 (f ++ r)) ≡ length f = ap total_of a ∙ w.all in
      uncut_whole (f ++ r) (omega (arith, length-append f r, w.long)) (ap (header_error c) a ∙ w.good) (omega (arith, length-append f r))
      ∙ rw (n, take_at f r (length f) refl, drop_at f r (length f) refl)

  stays : (k : ℕ) (s t : List ℕ) (code : ℕ) → length s < k → (uncut c s).end ≡ Refused code → uncut c (s ++ t) ≡ uncut c s
  stays zero s t code h e = absurd (omega arith)
  stays (suc k) s t code h e = go (shape c s) (stays k (drop (total_of (take 16 s)) s) t code)
    where
      go : Shape c s
          → (length (drop (total_of (take 16 s)) s) < k → (uncut c (drop (total_of (take 16 s)) s)).end ≡ Refused code
          → uncut c (drop (total_of (take 16 s)) s ++ t) ≡ uncut c (drop (total_of (take 16 s)) s))
          → uncut c (s ++ t) ≡ uncut c s
      go (short p) ih = absurd (not_refused (eqb (length s) 0) (length s) code (sym (end_of (uncut_short s p)) ∙ e))
      go (part p g l) ih = absurd (short_not_refused (length s) code (sym (end_of (uncut_part s p g l)) ∙ e))
      go (bad p b) ih =
          let a : take 16 (s ++ t) ≡ take 16 s = take-append-le 16 s t p in
          uncut_bad (s ++ t) (omega (arith, length-append s t)) (rw a b) ∙ rw a (sym (uncut_bad s p b))
      go (whole p g l) ih =
          let size = total_of (take 16 s) in
          let u = uncut_whole s p g l in
          let n = length-take-le size s l in
          let a : take 16 (take size s) ≡ take 16 s = take-take 16 size s (good_total c (take 16 s) g).0 in
          let w : Whole (take size s) = record { long = omega (arith, good_total c (take 16 s) g); good = rw a g; all = rw a (sym n) } in
          ap (λ (x : List ℕ). uncut c (x ++ t)) (sym (take-append-drop size s))
          ∙ ap (uncut c) (append_assoc (take size s) (drop size s) t)
          ∙ uncut_frame (take size s) (drop size s ++ t) w
          ∙ ap (before (take size s)) (ih (omega (arith, length-drop size s, good_total c (take 16 s) g)) (sym (end_of u) ∙ e))
          ∙ sym u

  -- "it stops with that number, whatever follows"
  pub uncut_stays : (s t : List ℕ) (code : ℕ) → (uncut c s).end ≡ Refused code → uncut c (s ++ t) ≡ uncut c s
  uncut_stays s t code e = stays (suc (length s)) s t code (omega arith) e
