-- "The last occurrence of a field wins; absent is 0 or empty."
--
-- It promises that `last_field` answers the last of the fields with the tag, whatever comes before it, where none after it has the
-- tag and the walk is not refused; the refusal where it is; and none where there is neither. The terms are those of its contract,
-- `last_field`.
--
-- It does not say how a caller reads an absent field: that is the messages' (0 or empty).
--
-- It rules out a search that answers the first occurrence, and one that answers what it found before a refusal.
use Prim.Native.Nat.{ℕ}
use mathlib.Core.Path.{◌≡◌, refl, ap, ◌∙◌}
use mathlib.Core.Bool.{Bool, true, false, cond}
use mathlib.Core.List.{List, [], ◌∷◌, ◌++◌}
use Rattle.std.specs.Prelude.{None, Ok}
use Rattle.wire_read.specs.Placed.{FieldAnswer}
use Rattle.wire_walk.specs.Walk.{walk, placed}
use Rattle.wire_walk.specs.Last.{replaces, last_of, last_field}

-- no field with the tag, and no refusal
abbrev pub NoneOf : ℕ → List FieldAnswer → Type 0
NoneOf tag [] = Unit {0}
NoneOf tag (f ∷ fs) = (replaces tag f ≡ false) × NoneOf tag fs

none_later : (tag : ℕ) (found : FieldAnswer) (fs : List FieldAnswer) → NoneOf tag fs → last_of tag found fs ≡ found
unfolding last_of
none_later tag found [] h = refl
none_later tag found (f ∷ fs) h = ap (λ (b : Bool). last_of tag (cond b f found) fs) h.0 ∙ none_later tag found fs h.1

last_of_wins : (tag : ℕ) (found : FieldAnswer) (xs : List FieldAnswer) (f : FieldAnswer) (ys : List FieldAnswer) → replaces tag f ≡ true → NoneOf tag ys
    → last_of tag found (xs ++ (f ∷ ys)) ≡ f
unfolding last_of
last_of_wins tag found [] f ys e h = ap (λ (b : Bool). last_of tag (cond b f found) ys) e ∙ none_later tag f ys h
last_of_wins tag found (x ∷ xs) f ys e h = last_of_wins tag (cond (replaces tag x) x found) xs f ys e h

module _ (tag : ℕ) (s : List ℕ) where
  -- `f` has the tag, or is the refusal
  pub last_wins : (xs : List FieldAnswer) (f : FieldAnswer) (ys : List FieldAnswer) → placed 0 (walk s) ≡ xs ++ (f ∷ ys) → replaces tag f ≡ true
      → NoneOf tag ys
      → last_field tag s ≡ f
  unfolding last_field
  last_wins xs f ys split e h = ap (last_of tag (Ok None)) split ∙ last_of_wins tag (Ok None) xs f ys e h

  pub absent : NoneOf tag (placed 0 (walk s)) → last_field tag s ≡ Ok None
  unfolding last_field
  absent h = none_later tag (Ok None) (placed 0 (walk s)) h
