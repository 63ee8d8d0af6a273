-- `attachment_size_of` reads the slot that the schema gives to field 12, of a request and of a response.
-- Ruled out: "Reading attachment_size of a response from field 11", and a schema in which the slots moved and this definition did not.
use Prim.Native.Nat.{ℕ}
use mathlib.Core.Path.{◌≡◌, refl}
use mathlib.Core.List.{List}
use lib.ListN.{get_or}
use Rattle.schema.specs.Kinds.{schema_of}
use Rattle.schema.specs.Targets.{look, a_number}
use Rattle.schema.specs.declared.Kind.{Kind}
use Rattle.schema.specs.declared.Kind.TheVariants as kinds
use Rattle.records.specs.Records.{attachment_size_of}

abbrev pub AttachmentAt : Kind → (field : ℕ) → Type 0
AttachmentAt kind field =
    (slot : ℕ) × (look (schema_of kind) 0 field ≡ a_number slot) × ((slots : List ℕ) → attachment_size_of kind slots ≡ get_or slots slot 0)

pub attachment_is_12 : AttachmentAt kinds.Request 12 × AttachmentAt kinds.Response 12
unfolding look attachment_size_of
attachment_is_12 = ((13, refl, λ slots. refl), (10, refl, λ slots. refl))
