-- What the last arm of a `match` knows of its number is a product, the first arm innermost: a number that names no field of a schema, and
-- one that names no message.
use Prim.Native.Nat.{ℕ, ◌+◌}
use mathlib.Core.Path.{◌≡◌, refl, sym}
use mathlib.Core.Bool.{false}
use mathlib.Core.List.{List, [], ◌∷◌}
use lib.Dec.{eqb}
use borrow.Author.Tests.{ne_eqb}
use Rattle.schema.specs.Schema.{Schema, done, number, bytes, map, message, width, schema_at, part_schema}
use Rattle.schema.specs.Targets.{unknown, look}

-- n is none of the schema's numbers, which follow those that `before` is of
abbrev pub NoField : Schema → (n : ℕ) → (before : Type 0) → Type 0
NoField done n before = before
NoField (number type m name more) n before = NoField more n (before × (n ≡ m → ⊥))
NoField (bytes m name more) n before = NoField more n (before × (n ≡ m → ⊥))
NoField (map m name more) n before = NoField more n (before × (n ≡ m → ⊥))
NoField (message m name inner more) n before = NoField more n (before × (n ≡ m → ⊥))

other : (m n : ℕ) → (n ≡ m → ⊥) → eqb m n ≡ false
other m n h = ne_eqb m n (λ (e : m ≡ n). h (sym e))

past : (sch : Schema) (i n : ℕ) {before : Type 0} → NoField sch n before → (look sch i n ≡ unknown) × before
unfolding look
past done i n h = (refl, h)
past (number type m name more) i n h = let p = past more (i + 1) n h in (rw (other m n p.1.1) p.0, p.1.0)
past (bytes m name more) i n h = let p = past more (i + 2) n h in (rw (other m n p.1.1) p.0, p.1.0)
past (map m name more) i n h = let p = past more i n h in (rw (other m n p.1.1) p.0, p.1.0)
past (message m name inner more) i n h = let p = past more (i + 1 + width inner) n h in (rw (other m n p.1.1) p.0, p.1.0)

pub no_field : (sch : Schema) (i n : ℕ) → NoField sch n (Unit {0}) → look sch i n ≡ unknown
no_field sch i n h = (past sch i n h).0

-- n is none of those in the list, the last first
abbrev pub NoneOf : List ℕ → (n : ℕ) → Type 0
NoneOf [] n = Unit {0}
NoneOf (m ∷ ms) n = NoneOf ms n × (n ≡ m → ⊥)

pub no_message : (n : ℕ) → NoneOf (7 ∷ 6 ∷ 5 ∷ 4 ∷ 2 ∷ 1 ∷ 0 ∷ []) n → part_schema n ≡ done
unfolding part_schema schema_at
no_message n h =
    let from_2 = h.0.0.0.0 in
    rw (
      ne_eqb n 0 from_2.0.0.1,
      ne_eqb n 1 from_2.0.1,
      ne_eqb n 2 from_2.1,
      ne_eqb n 4 h.0.0.0.1,
      ne_eqb n 5 h.0.0.1,
      ne_eqb n 6 h.0.1,
      ne_eqb n 7 h.1,
    )
