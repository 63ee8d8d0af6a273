-- What a writer answers and leaves in its output: where there is room, and where there is none.
use Prim.Native.Nat.{ℕ, ◌+◌, ◌≤◌, ◌<◌}
use mathlib.Core.Path.{◌≡◌, refl, sym, ◌∙◌}
use mathlib.Core.Bool.{Bool, true, false, cond}
use mathlib.Core.List.{List, ◌++◌}
use lib.ListN.{length, take, drop}
use borrow.Author.Tests.{le-leb, lt-leb, leb-true}
use Rattle.std.specs.Prelude.{Result, Ok, Err, ⊤}
use Rattle.refusals.specs.Numbers.{output_short}
use Rattle.laws.proofs.Booleans.{clash}
use Rattle.copying.specs.Stored.{fits, stored}
use Rattle.wire_write.specs.Writing.{good_tag, first_ground, found_ground, answer, written_at, tag_stored, tag_written}

-- there is room, or not
module _ (out : List ℕ) (at : ℕ) (x : List ℕ) where
  pub written : at + length x ≤ length out → (next : ℕ) → next ≡ at + length x → Ok next ≡ written_at out at x
  unfolding written_at
  written h next e = rw (le-leb (at + length x) (length out) h, e)

  pub full : length out < at + length x → (Err output_short ≡ written_at out at x) × (out ≡ stored out at x)
  unfolding written_at stored
  full h = (rw (lt-leb (at + length x) (length out) h), rw (lt-leb (at + length x) (length out) h))

-- what starts with a tag
module _ (n w : ℕ) (out : List ℕ) (at : ℕ) (x : List ℕ) (good room : Bool) (is-good : good ≡ good_tag n w) (is-room : room ≡ fits out at x)
  where
    abbrev Found : Result ⊤ ℕ → Type 0
    Found g = g ≡ found_ground (first_ground good room)

    no_ground : (g r : Bool) {u : ⊤} → Ok u ≡ found_ground (first_ground g r) → (g ≡ true) × (r ≡ true)
    no_ground true true e = (refl, refl)
    no_ground true false e = clash cc
    no_ground false r e = clash cc

    -- there is a ground: its number is the answer, and nothing is stored
    pub tag_refused : {code : ℕ} → Found (Err code) → (Err code ≡ tag_written n w out at x) × (out ≡ tag_stored n w out at x)
    unfolding tag_written tag_stored stored
    tag_refused {code = code} found = by good room is-good is-room found
      where
        by : (g r : Bool) → g ≡ good_tag n w → r ≡ fits out at x → Err code ≡ found_ground (first_ground g r)
            → (Err code ≡ answer (first_ground (good_tag n w) (fits out at x)) (at + length x))
            × (out ≡ cond (good_tag n w) (cond (fits out at x) (take at out ++ x ++ drop (at + length x) out) out) out)
        by true true g r e = clash cc
        by true false g r e = let same : code ≡ 27 = cc in rw (sym g, sym r, same) (refl, refl)
        by false r g r' e = let same : code ≡ 11 = cc in rw (sym g, same) (refl, refl)

    module _ {u : ⊤} (none : Found (Ok u)) where
      pub tag_good : good_tag n w ≡ true
      tag_good = sym is-good ∙ (no_ground good room none).0

      pub tag_fits : at + length x ≤ length out
      tag_fits = leb-true (at + length x) (length out) (sym is-room ∙ (no_ground good room none).1)

      -- there is none, and it is as without one
      pub tag_written_lem : tag_written n w out at x ≡ written_at out at x
      unfolding tag_written written_at
      tag_written_lem = rw tag_good

      pub tag_stored_lem : tag_stored n w out at x ≡ stored out at x
      unfolding tag_stored
      tag_stored_lem = rw tag_good

-- A writer that answers the next place found no ground, and the place is the one after what it wrote.
pub accepted : (good room : Bool) (place next : ℕ) → answer (first_ground good room) place ≡ Ok next
    → (good ≡ true) × (room ≡ true) × (place ≡ next)
accepted true true place next e = (refl, refl, cc)
accepted true false place next e = clash cc
accepted false room place next e = clash cc
