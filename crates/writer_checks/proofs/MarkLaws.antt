-- A key whose place has no mark is none of those that are marked.
use Prim.Native.Nat.{ℕ, ◌+◌, ◌-◌, ◌*◌, ◌%◌, ◌<◌, ◌≤◌}
use mathlib.Core.Path.{◌≡◌, refl, ap, ◌∙◌}
use mathlib.Core.Bool.{Bool, true, false}
use mathlib.Core.List.{List, [], ◌∷◌}
use native.Mathlib.Omega.{arith}
use native.Mathlib.Numerals.{add-one}
use borrow.Author.Tests.{eqb-true, eqb-false}
use lib.Dec.{eqb}
use lib.ListN.{length, drop, set, get_or, length-take, length-drop, length-set}
use lib.Seq.{get_or-set_same, get_or-set_other, get_or-take, get_or-drop}
use Rattle.decoder.specs.Rows.{Row, rows_in}
use Rattle.decoder.specs.Fields.{part_of, same_bytes}
use Rattle.decoder.proofs.RowLaws.{row_at, same_equal}
use Rattle.writer_checks.specs.Grounds.{no_key}
use Rattle.writer_checks.specs.Marks.{key_at, place_of, Marked, MarkedFrom}

-- ---- the place of a part of the source
module _ (source : List ℕ) (start size : ℕ) where
  pub place_empty : size ≡ 0 → 0 ≡ place_of (part_of source start size)
  place_empty e = rw e

  pub place_is : start + size ≤ length source → 0 < size
      → (get_or source (start + (size - 1)) 0 + size * 32) % 256 ≡ place_of (part_of source start size)
  place_is within some =
      let long : length (part_of source start size) ≡ size = omega (arith, length-take size (drop start source), length-drop start source) in
      let last : get_or (part_of source start size) (size - 1) 0 ≡ get_or source (start + (size - 1)) 0 =
      get_or-take size (drop start source) (size - 1) 0 (omega arith) ∙ get_or-drop start source (size - 1) 0 in
      rw (long, last)

-- ---- marks
module _ (source seen : List ℕ) where
  -- a mark stays
  stays : (p q : ℕ) → p < length seen → get_or seen q 0 ≡ 1 → get_or (set seen p 1) q 0 ≡ 1
  stays p q h e = by (eqb q p) refl
    where
      by : (t : Bool) → eqb q p ≡ t → get_or (set seen p 1) q 0 ≡ 1
      by true t = rw (eqb-true q p t) (get_or-set_same seen p 1 0 h)
      by false t = get_or-set_other seen p q 1 0 (eqb-false q p t) ∙ e

  all_stay : (p : ℕ) → p < length seen → (rows : List Row) → Marked source seen rows → Marked source (set seen p 1) rows
  unfolding Marked
  all_stay p h [] m = tt
  all_stay p h (row ∷ rows) m = (stays p (place_of (part_of source row.key row.key_size)) h m.0, all_stay p h rows m.1)

  -- one more row is marked
  pub marked_more : (n : ℕ) (l : List ℕ) (i p : ℕ) → i < n → p ≡ place_of (key_at source l i) → MarkedFrom source l n (i + 1) seen
      → MarkedFrom source l n i (set seen p 1)
  unfolding Marked
  marked_more n l i p some e m =
      let h : p < length seen = omega (arith, m.places) in
      let rest = rw (add-one i) at (all_stay p h (drop (i + 1) (rows_in n l)) m.marks) in
      record { places = length-set seen p 1 ∙ m.places; marks = rw (row_at n l i some) (rw (← e) (get_or-set_same seen p 1 0 h), rest) }

  differs : (x key : List ℕ) → get_or seen (place_of x) 0 ≡ 1 → get_or seen (place_of key) 0 ≡ 0 → same_bytes x key ≡ false
  differs x key one none = by (same_bytes x key) refl
    where
      by : (t : Bool) → same_bytes x key ≡ t → t ≡ false
      by true e =
          let same = ap (λ (k : List ℕ). get_or seen (place_of k) 0) (same_equal x key e) in
          let z : ⊥ = omega (arith, one, none, same) in
          absurd z
      by false e = refl

  pub unmarked : (key : List ℕ) → get_or seen (place_of key) 0 ≡ 0 → (rows : List Row) → Marked source seen rows → true ≡ no_key source key rows
  unfolding Marked no_key
  unmarked key none [] m = refl
  unmarked key none (row ∷ rows) m =
      rw (differs (part_of source row.key row.key_size) key m.0 none, ← unmarked key none rows m.1)
