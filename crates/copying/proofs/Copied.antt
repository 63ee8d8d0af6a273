-- How far a copy is, and what a copy to a part of the output leaves of all of it.
use Prim.Native.Nat.{ℕ, ◌+◌, ◌-◌, ◌≤◌}
use mathlib.Core.Path.{◌≡◌, refl, sym, ap, ap₂, ◌∙◌}
use mathlib.Core.Bool.{Bool, true, false}
use mathlib.Core.List.{List, ◌++◌}
use lib.ListN.{length, take, drop, length-append, length-take, length-drop}
use lib.Seq.{take-add, take_all, take-append-le, take-length, take-take}
use native.Mathlib.Omega.{arith}
use borrow.Author.Tests.{leb-true}
use Rattle.laws.proofs.Lists.{tail_all, put_back, drop_past}
use Rattle.copying.specs.Stored.{fits, stored}
use Rattle.copying.proofs.Outputs.{stored_all}

-- a copy of s to `&mut d[at..]`: ys is that part of d after it
pub laid : (d s ys : List ℕ) (at : ℕ) → ys ≡ s ++ drop (length s) (take (length d - at) (drop at d))
    → take at d ++ (ys ++ drop (length d - at) (drop at d)) ≡ take at d ++ s ++ drop (at + length s) d
laid d s ys at e = put_back d s ys at (rw (take-length s) e)

-- ---- up to i the output has the source, and after it what was there
pub record Copied (source out₀ out : List ℕ) (i : ℕ) : Type 0 where
  pub place : i ≤ length source
  pub room : length source ≤ length out₀
  pub size : length out ≡ length out₀
  pub same : out ≡ take i source ++ drop i out₀

pub copied : {source out₀ out : List ℕ} {i : ℕ} → i ≤ length source → length source ≤ length out₀ → out ≡ take i source ++ drop i out₀
    → Copied source out₀ out i
copied {source} {out₀} {out} {i} h r e =
    let long : length (take i source ++ drop i out₀) ≡ length out₀ = simp (length-append, length-take, length-drop) (omega arith) in
    record { place = h; room = r; size = ap length e ∙ long; same = e }

module _ {source out₀ out : List ℕ} {i : ℕ} (m : Copied source out₀ out i) where
  first : length (take i source) ≡ i
  first = omega (arith, length-take i source, m.place)

  pub copied_all : length source ≤ i → out ≡ source ++ drop (length source) out₀
  copied_all h =
      let all : i ≡ length source = omega (arith, m.place) in
      m.same ∙ ap₂ (λ (x : List ℕ) (k : ℕ). x ++ drop k out₀) (take_all i source h) all

  -- the next k bytes from `at`, which may be before i, are copied, too
  module _ (at k : ℕ) (early : at ≤ i) (past : i ≤ at + k) (within : at + k ≤ length source) where
    pub part_length : length (take k (drop at source)) ≡ k
    part_length = omega (arith, length-take k (drop at source), length-drop at source)

    pub part_room : length (take k (drop at source)) ≤ length (take (length out - at) (drop at out))
    part_room = rw (tail_all at out) (omega (arith, part_length, length-drop at out, m.size, m.room))

    before_at : take at out ≡ take at source
    before_at =
        ap (take at) m.same ∙ take-append-le at (take i source) (drop i out₀) (omega (arith, first)) ∙ take-take at i source early

    after_part : drop (at + k) out ≡ drop (at + k) out₀
    after_part = ap (drop (at + k)) m.same ∙ drop_past (at + k) i (take i source) (drop i out₀) out₀ first past refl

    pub copied_on : {tail : List ℕ}
        → tail ≡ take k (drop at source) ++ drop (length (take k (drop at source))) (take (length out - at) (drop at out))
        → Copied source out₀ (take at out ++ (tail ++ drop (length out - at) (drop at out))) (at + k)
    copied_on {tail} e =
        copied within m.room
        (laid out (take k (drop at source)) tail at e ∙ rw (part_length, before_at, after_part, take-add at k source))

-- ---- a copy to the place `at`, where b is whether there is room
module _ (out x : List ℕ) (at : ℕ) (b : Bool) (is_b : b ≡ fits out at x) where
  module _ (t : b ≡ true) where
    pub within : at + length x ≤ length out
    within = leb-true (at + length x) (length out) (sym is_b ∙ t)

    pub rest_room : length x ≤ length (take (length out - at) (drop at out))
    rest_room = rw (tail_all at out) (omega (arith, within, length-drop at out))

    pub all_stored : (tail : List ℕ) → tail ≡ x ++ drop (length x) (take (length out - at) (drop at out))
        → (true ≡ fits out at x) × (take at out ++ (tail ++ drop (length out - at) (drop at out)) ≡ stored out at x)
    all_stored tail e = (sym t ∙ is_b, laid out x tail at e ∙ sym (stored_all out at x within))

  pub none_stored : b ≡ false → (false ≡ fits out at x) × (out ≡ stored out at x)
  unfolding stored
  none_stored t = let full : fits out at x ≡ false = sym is_b ∙ t in (sym full, rw full)
