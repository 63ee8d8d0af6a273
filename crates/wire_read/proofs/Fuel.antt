-- Steps beyond a part's length change nothing in how a group is read, so that a law may give as many steps as suit it.
use Prim.Native.Nat.{ℕ, zero, suc, pred, ◌+◌, ◌<◌, ◌≤◌}
use mathlib.Core.Path.{◌≡◌, refl, sym, subst}
use mathlib.Core.Bool.{Bool}
use mathlib.Core.List.{List, []}
use lib.ListN.{length, drop, length-drop}
use lib.Dec.{eqb}
use native.Mathlib.Omega.{arith}
use Rattle.wire_read.proofs.Cases.{tag_cases, skip_cases, flag_cases}
use Rattle.laws.proofs.Lists.{empty}
use Rattle.wire_read.specs.Tags.{WireType, VARINT, I64, LEN, SGROUP, EGROUP, I32, reserved, wire_type, TagResult, field}
use Rattle.wire_read.specs.Tags.{tag}
use Rattle.wire_read.specs.Skipping.{SkipResult, skip_error, value, in_group, group_in, skip_group, skip_value}
use Rattle.wire_read.proofs.Bounds.{TagIn, tag_in}

module _ (g h : ℕ → ℕ → List ℕ → SkipResult) where
  value_same : (n : ℕ) (w : WireType) (d : ℕ) (s : List ℕ) → ((m e : ℕ) → g m e s ≡ h m e s) → value g n w d s ≡ value h n w d s
  unfolding value
  value_same n VARINT d s q = refl
  value_same n I64 d s q = refl
  value_same n LEN d s q = refl
  value_same n SGROUP zero s q = refl
  value_same n SGROUP (suc d) s q = q n d
  value_same n EGROUP d s q = refl
  value_same n I32 d s q = refl
  value_same n reserved d s q = refl

  in_group_same : (n d : ℕ) (s : List ℕ) → ((m e : ℕ) (z : List ℕ) → length z < length s → g m e z ≡ h m e z)
      → in_group g n d s ≡ in_group h n d s
  unfolding in_group
  in_group_same n d s q =
      tag_cases Same (λ (t : TagResult). tag s ≡ t) (tag s) refl (λ e. cc) (λ code e. cc) (λ m w used e.
      let b : TagIn s (field m w used) = subst (TagIn s) e (tag_in s) in
      let v = value_same m (wire_type w) d (drop used s) (λ a c. q a c (drop used s) (omega (arith, length-drop used s))) in
      flag_cases Same (λ (f : Bool). eqb w 4 ≡ f) (eqb w 4) refl (λ f. cc) (λ f.
      skip_cases Same (λ (o : SkipResult). value g m (wire_type w) d (drop used s) ≡ o) (value g m (wire_type w) d (drop used s)) refl
      (λ code o. cc) (λ size o. cc (q n d (drop (used + size) s) (omega (arith, length-drop (used + size) s))))))
    where
      Same : SkipResult → Type 0
      Same o = o ≡ in_group h n d s

group_nil : (k n d : ℕ) → group_in k n d [] ≡ skip_error 12
unfolding group_in in_group tag
group_nil zero n d = refl
group_nil (suc k) n d = refl

-- any two numbers of steps that are enough
pub group_in_same : (k j n d : ℕ) (s : List ℕ) → length s ≤ k → length s ≤ j → group_in k n d s ≡ group_in j n d s
unfolding group_in
group_in_same zero j n d s h l = rw (empty s h) (sym (group_nil j n d))
group_in_same (suc k) zero n d s h l = rw (empty s l) (group_nil (suc k) n d)
group_in_same (suc k) (suc j) n d s h l =
    in_group_same (group_in k) (group_in j) n d s (λ m e z q. group_in_same k j m e z (omega arith) (omega arith))

-- enough steps are as good as the part's length, for a group and for any value
pub skip_group_enough : (k n d : ℕ) (s : List ℕ) → length s ≤ k → group_in k n d s ≡ skip_group n d s
skip_group_enough k n d s h = group_in_same k (length s) n d s h (omega arith)

pub skip_value_enough : (k n w d : ℕ) (s : List ℕ) → length s ≤ k → value (group_in k) n (wire_type w) d s ≡ skip_value n w d s
skip_value_enough k n w d s h =
    value_same (group_in k) (group_in (length s)) n (wire_type w) d s (λ m e. skip_group_enough k m e s h)

-- one step
group_in_one : (k n d : ℕ) (s : List ℕ) → 0 < k → group_in k n d s ≡ in_group (group_in (pred k)) n d s
unfolding group_in
group_in_one zero n d s h = let a : ⊥ = omega arith in absurd a
group_in_one (suc k) n d s h = refl

-- what is left of a group, by its first field, the rest read with steps enough for all of it
pub skip_group_one : (n d : ℕ) (s : List ℕ) → 0 < length s → skip_group n d s ≡ in_group (group_in (pred (length s))) n d s
skip_group_one n d s h = group_in_one (length s) n d s h
