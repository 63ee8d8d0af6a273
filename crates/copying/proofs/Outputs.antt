-- What is stored in an output, all of it and byte by byte, and one thing after another.
use Prim.Native.Nat.{ℕ, ◌+◌, ◌≤◌}
use mathlib.Core.Path.{◌≡◌, refl, sym, ◌∙◌}
use mathlib.Core.List.{List, ◌++◌}
use lib.ListN.{length, take, drop, length-append}
use lib.Seq.{sets, sets-eq, length-sets}
use native.Mathlib.Omega.{arith}
use borrow.Author.Tests.{le-leb, leb-true}
use Rattle.laws.proofs.Lists.{sets_then}
use Rattle.laws.proofs.Booleans.{choose}
use Rattle.copying.specs.Stored.{fits, stored}

-- where there is room
module _ (out : List ℕ) (at : ℕ) (x : List ℕ) (room : at + length x ≤ length out) where
  pub stored_all : stored out at x ≡ take at out ++ x ++ drop (at + length x) out
  unfolding stored
  stored_all = rw (le-leb (at + length x) (length out) room)

  -- byte by byte
  pub stored_sets : stored out at x ≡ sets out at x
  stored_sets = stored_all ∙ sym (sets-eq x out at room)

pub length_stored : (out : List ℕ) (at : ℕ) (x : List ℕ) → length (stored out at x) ≡ length out
unfolding stored
length_stored out at x =
    choose (λ (l : List ℕ). length l ≡ length out) (fits out at x) (take at out ++ x ++ drop (at + length x) out) out
    (λ e. rw (sym (sets-eq x out at (leb-true (at + length x) (length out) e))) (length-sets out at x)) (λ e. refl)

-- one after the other is both at once
pub stored_then : (out : List ℕ) (at : ℕ) (x y : List ℕ) → at + length x + length y ≤ length out
    → stored (stored out at x) (at + length x) y ≡ stored out at (x ++ y)
stored_then out at x y h =
    let first : at + length x ≤ length out = omega arith in
    let all : at + length (x ++ y) ≤ length out = omega (arith, length-append x y) in
    stored_sets (stored out at x) (at + length x) y (omega (arith, length_stored out at x))
    ∙ rw (stored_sets out at x first, stored_sets out at (x ++ y) all) (sets_then out at (at + length x) x y refl)
