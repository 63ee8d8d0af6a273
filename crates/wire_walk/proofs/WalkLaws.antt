-- The walk over a byte string, field by field: with as many steps as there are bytes it is never cut short.
use Prim.Native.Nat.{ℕ, zero, suc, pred, ◌+◌, ◌<◌, ◌≤◌}
use mathlib.Core.Path.{◌≡◌, refl, sym, ap}
use mathlib.Core.List.{List, [], ◌∷◌}
use lib.ListN.{length, drop, length-drop}
use lib.Seq.{drop-drop}
use native.Mathlib.Omega.{arith}
use Rattle.wire_read.specs.Fields.{FieldResult, next_field}
use Rattle.wire_read.specs.Placed.{FieldAnswer, field_at}
use Rattle.wire_walk.specs.Reader.{used_by, place_behind}
use Rattle.wire_walk.specs.Walk.{onward, walk_in, walk, placed}
use Rattle.wire_walk.proofs.StepLaws.{used_in}

-- the end or a refusal is the last
walk_in_last : (k : ℕ) (s : List ℕ) → used_by (next_field s) ≡ 0 → walk_in k s ≡ next_field s ∷ []
unfolding walk_in onward
walk_in_last zero s e = refl
walk_in_last (suc k) s e = rw e

nothing_left : (s : List ℕ) → length s ≤ 0 → used_by (next_field s) ≡ 0
nothing_left s h = omega (arith, used_in s)

onward_same : (go go' : List ℕ → List FieldResult) (n : ℕ) (s : List ℕ) → ((m : ℕ) → go (drop (suc m) s) ≡ go' (drop (suc m) s))
    → onward go n s ≡ onward go' n s
unfolding onward
onward_same go go' zero s same = refl
onward_same go go' (suc n) s same = same n

-- more steps than bytes change nothing
enough : (k j : ℕ) (s : List ℕ) → length s ≤ k → length s ≤ j → walk_in k s ≡ walk_in j s
unfolding walk_in
enough zero j s h g = sym (walk_in_last j s (nothing_left s h))
enough (suc k) zero s h g = walk_in_last (suc k) s (nothing_left s g)
enough (suc k) (suc j) s h g =
    ap (λ (l : List FieldResult). next_field s ∷ l) (onward_same (walk_in k) (walk_in j) (used_by (next_field s)) s
    (λ m. enough k j (drop (suc m) s) (omega (arith, length-drop (suc m) s)) (omega (arith, length-drop (suc m) s))))

pub walk_last : (s : List ℕ) → used_by (next_field s) ≡ 0 → walk s ≡ next_field s ∷ []
unfolding walk
walk_last s e = walk_in_last (length s) s e

walk_in_more : (k : ℕ) (s : List ℕ) → length s ≤ k → (n : ℕ) → used_by (next_field s) ≡ suc n
    → walk_in k s ≡ next_field s ∷ walk (drop (suc n) s)
unfolding walk_in onward walk
walk_in_more zero s h n e = let z : ⊥ = omega (arith, nothing_left s h) in absurd z
walk_in_more (suc k) s h n e =
    rw e (ap (λ (l : List FieldResult). next_field s ∷ l)
    (enough k (length (drop (suc n) s)) (drop (suc n) s) (omega (arith, length-drop (suc n) s)) (omega arith)))

pub walk_more : (s : List ℕ) (n : ℕ) → used_by (next_field s) ≡ suc n → walk s ≡ next_field s ∷ walk (drop (suc n) s)
unfolding walk
walk_more s n e = walk_in_more (length s) s (omega arith) n e

-- a walk has at least its end or a refusal
pub walk_some : (s : List ℕ) → length (walk s) ≡ suc (pred (length (walk s)))
unfolding walk walk_in
walk_some s = by (length s)
  where
    by : (k : ℕ) → length (walk_in k s) ≡ suc (pred (length (walk_in k s)))
    by zero = refl
    by (suc k) = refl

-- the answers of the walk from place `at` on
abbrev pub answers_from : List ℕ → ℕ → List FieldAnswer
answers_from s at = placed at (walk (drop at s))

module _ (s : List ℕ) (at : ℕ) where
  -- what is at the place
  abbrev here : FieldAnswer
  here = field_at at (next_field (drop at s))

  pub answers_last : used_by (next_field (drop at s)) ≡ 0 → answers_from s at ≡ here ∷ []
  unfolding placed
  answers_last none = rw (walk_last (drop at s) none)

  pub answers_more : 0 < used_by (next_field (drop at s)) → answers_from s at ≡ here ∷ answers_from s (place_behind s at)
  unfolding placed place_behind
  answers_more h =
      let n : ℕ = pred (used_by (next_field (drop at s))) in
      let some : used_by (next_field (drop at s)) ≡ suc n = omega arith in
      let rest : drop (used_by (next_field (drop at s))) (drop at s) ≡ drop (at + used_by (next_field (drop at s))) s =
      drop-drop (used_by (next_field (drop at s))) at s in
      rw (walk_more (drop at s) n some, ← some, rest)
