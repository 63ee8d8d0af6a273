-- Storing one thing after another: what `Did` says holds with no condition, so that a straight line of calls is a chain of `then`. In a
-- loop, what is left, stored from the place reached, gives what all of it gives.
use Prim.Native.Nat.{ℕ, ◌+◌, ◌≤◌}
use mathlib.Core.Path.{◌≡◌, refl, ap, subst, ◌∙◌}
use mathlib.Core.List.{List, [], ◌∷◌, ◌++◌}
use lib.ListN.{length, set, length-append}
use lib.Seq.{sets, length-sets}
use native.Mathlib.Omega.{arith}
use Rattle.laws.proofs.Lists.{sets_then}
use Rattle.copying.specs.Stored.{stored}
use Rattle.copying.proofs.Outputs.{stored_sets}
use Rattle.writer.specs.Straight.{Did}

pub none : (out : List ℕ) (at : ℕ) → Did [] out at at out
none out at = record { place = omega arith; bytes = refl }

pub byte : (b : ℕ) (out : List ℕ) (at : ℕ) → Did (b ∷ []) out at (at + 1) (set out at b)
byte b out at = record { place = refl; bytes = refl }

pub then : {x y out : List ℕ} {at next : ℕ} {after : List ℕ} {end : ℕ} {last : List ℕ}
    → Did x out at next after → Did y after next end last → Did (x ++ y) out at end last
then {x} {y} {out} {at} {next} {after} {end} {last} p q =
    record {
      place = omega (arith, p.place, q.place, length-append x y);
      bytes = q.bytes ∙ ap (λ (o : List ℕ). sets o next y) p.bytes ∙ sets_then out at next x y p.place;
    }

pub told : {x y out : List ℕ} {at next : ℕ} {after : List ℕ} → x ≡ y → Did x out at next after → Did y out at next after
told {x} {y} {out} {at} {next} {after} e p = subst (λ (l : List ℕ). Did l out at next after) e p

-- what `wire_write` stores where there is room
pub did : {x out : List ℕ} {at next : ℕ} {after : List ℕ} → at + length x ≤ length out → next ≡ at + length x → after ≡ stored out at x
    → Did x out at next after
did {x} {out} {at} h e f = record { place = e; bytes = f ∙ stored_sets out at x h }

-- ---- a loop
pub record Left (rest all out₀ : List ℕ) (at₀ : ℕ) (out : List ℕ) (at : ℕ) : Type 0 where
  pub place : at + length rest ≡ at₀ + length all
  pub same_length : length out ≡ length out₀
  pub same : sets out at rest ≡ sets out₀ at₀ all

pub starts : (x out : List ℕ) (at : ℕ) → Left x x out at out at
starts x out at = record { place = refl; same_length = refl; same = refl }

module _ (x y : List ℕ) {all out₀ : List ℕ} {at₀ : ℕ} {out : List ℕ} {at : ℕ} (l : Left (x ++ y) all out₀ at₀ out at) where
  pub first_fits : at₀ + length all ≤ length out₀ → at + length x ≤ length out
  first_fits room = omega (arith, l.place, l.same_length, length-append x y)

  pub steps : {next : ℕ} {after : List ℕ} → Did x out at next after → Left y all out₀ at₀ after next
  steps {next} {after} p =
      record {
        place = omega (arith, p.place, l.place, length-append x y);
        same_length = ap length p.bytes ∙ length-sets out at x ∙ l.same_length;
        same = ap (λ (o : List ℕ). sets o next y) p.bytes ∙ sets_then out at next x y p.place ∙ l.same;
      }

pub none_left : {all out₀ : List ℕ} {at₀ : ℕ} {out : List ℕ} {at : ℕ} → Left [] all out₀ at₀ out at → Did all out₀ at₀ at out
none_left l = record { place = omega (arith, l.place); bytes = l.same }
