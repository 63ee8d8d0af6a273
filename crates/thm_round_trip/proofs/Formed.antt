-- What holds of the six messages' schemas and makes them read back: rising field numbers, at most one map, and no parts within parts.
use Prim.Native.Nat.{ℕ, ◌<◌, ◌≤◌, ◌^◌}
use mathlib.Core.Path.{◌≡◌}
use mathlib.Core.Bool.{Bool, true, false, ◌&&◌}
use native.Mathlib.Omega.{arith}
use Rattle.schema.specs.Schema.{Schema, done, number, bytes, map, message, width}
use Rattle.schema.specs.Kinds.{schema_of}
use Rattle.schema.specs.declared.Kind.{Kind}
use Rattle.schema.specs.declared.Kind.TheVariants as kinds
use Rattle.thm_round_trip.proofs.Said.{has_rows}

unfoldable pub has_parts : Schema → Bool
has_parts done = false
has_parts (number type n name more) = has_parts more
has_parts (bytes n name more) = has_parts more
has_parts (map n name more) = has_parts more
has_parts (message n name inner more) = true

-- a field number above m that a tag can hold
abbrev Above : (m n : ℕ) → Type 0
Above m n = (m < n) × (n < 2 ^ 29)

-- the fields are above m
abbrev pub Formed : (m : ℕ) → Schema → Type 0
Formed m done = Unit {0}
Formed m (number type n name more) = Above m n × Formed n more
Formed m (bytes n name more) = Above m n × Formed n more
Formed m (map n name more) = Above m n × Formed n more × (has_rows more ≡ false)
Formed m (message n name inner more) =
    Above m n × Formed n more × Formed 0 inner × (has_rows inner && has_rows more ≡ false) × (has_parts inner ≡ false)

-- a message as large as a record can be
abbrev pub WellFormed : Schema → Type 0
WellFormed sch = Formed 0 sch × (width sch ≤ 16)

pub well_formed : (k : Kind) → WellFormed (schema_of k)
unfolding width has_rows has_parts
well_formed kinds.Request = search arith
well_formed kinds.Response = search arith
well_formed kinds.Init = search arith
well_formed kinds.Data = search arith
well_formed kinds.Feedback = search arith
well_formed kinds.Close = search arith
