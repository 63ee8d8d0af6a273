-- The schema number of a kind names the kind's message; the number that `message_schema` answers names a message, and no part of one.
use Prim.Native.Nat.{ℕ}
use mathlib.Core.Path.{◌≡◌, refl}
use native.Mathlib.Omega.{arith}
use Rattle.std.proofs.lemmas.Bool.Decides.{nat_tests}
use Rattle.schema.specs.Schema.{schema_at, part_schema, slot_at, message_number}
use Rattle.schema.specs.Kinds.{schema_of, schema_number}
use Rattle.schema.specs.declared.Kind.{Kind}
use Rattle.schema.specs.declared.Kind.TheVariants as kinds

pub numbered : (kind : Kind) → schema_at (schema_number kind) ≡ schema_of kind
unfolding schema_at
numbered kinds.Request = refl
numbered kinds.Response = refl
numbered kinds.Init = refl
numbered kinds.Data = refl
numbered kinds.Feedback = refl
numbered kinds.Close = refl

-- the number of a message is its own, and any other number names a message that has no fields
pub message_number_lem : (n r : ℕ) → r ≡ message_number n → (part_schema r ≡ schema_at n) × (slot_at r ≡ 0)
unfolding part_schema slot_at schema_at
message_number_lem n r answers = rw answers (grind (arith, nat_tests))
