-- Reading: which field of a message a number names, and where its value goes
use Rattle.std.specs.Prelude.{ℕ, ◌+◌, ◌<◌, ◌≡◌, cond, eqb}
use Rattle.schema.specs.Schema.{Schema, done, number, bytes, map, message, width, part_schema, slot_at}
use Rattle.schema.specs.declared.Target.{Target as Place}
use Rattle.schema.specs.declared.Target.TheVariants as places

-- where the value of a field goes: a slot, two slots, the rows, or a message whose mark has that slot; or the message has no such field
pub data Target : Type 0 where
  a_number : (slot : ℕ) → Target
  some_bytes : (slot : ℕ) → Target
  an_entry : Target
  a_message : (slot : ℕ) (inner : Schema) → Target
  unknown : Target

-- the field of number n, where the schema's first slot is i
unfoldable pub look : Schema → ℕ → ℕ → Target
look done i n = unknown
look (number type m name more) i n = cond (eqb m n) (a_number i) (look more (i + 1) n)
look (bytes m name more) i n = cond (eqb m n) (some_bytes i) (look more (i + 2) n)
look (map m name more) i n = cond (eqb m n) an_entry (look more i n)
look (message m name inner more) i n = cond (eqb m n) (a_message i inner) (look more (i + 1 + width inner) n)

-- the target that the code names, which has a schema number for a message
abbrev pub target_of : Place → Target
target_of (places.Number slot) = a_number slot
target_of (places.Bytes slot) = some_bytes slot
target_of places.Entry = an_entry
target_of (places.Message slot inner) = a_message slot (part_schema inner)
target_of places.Unknown = unknown

-- its slots exist, and those of a part of Init follow its mark
abbrev pub Fit : Place → Type 0
Fit (places.Number slot) = slot < 16
Fit (places.Bytes slot) = slot + 1 < 16
Fit places.Entry = Unit {0}
Fit (places.Message slot inner) = (slot < 16) × (slot_at inner ≡ slot + 1)
Fit places.Unknown = Unit {0}
