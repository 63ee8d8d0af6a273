-- What the answers of the code say: for each case the paper's number and values, as places of the slice. The reading starts at place `at`.
use Rattle.std.specs.Prelude.{ℕ, ◌+◌, Option, Some, None, Result, Ok, Err}
use Rattle.refusals.specs.Numbers.{bad_varint}
use Rattle.wire_read.specs.Varint.{VarintResult, got, bad}
use Rattle.wire_read.specs.Tags.{WireType, VARINT, I64, LEN, SGROUP, EGROUP, I32, reserved, TagResult, field, no_tag, tag_error, LengthResult, bytes, length_error}
use Rattle.wire_read.specs.Skipping.{SkipResult, skipped, skip_error}
use Rattle.wire_read.specs.Fields.{FieldResult, no_field, varint_field, fixed64_field, bytes_field, group_field, fixed32_field, field_error}
use Rattle.wire_read.specs.declared.wire_types.WireType as code
use Rattle.wire_read.specs.declared.wire_types.WireType.TheVariants as types
use Rattle.wire_read.specs.declared.Varint.{Varint}
use Rattle.wire_read.specs.declared.Tag.{Tag}
use Rattle.wire_read.specs.declared.Length.{Length}
use Rattle.wire_read.specs.declared.Field.{Field}
use Rattle.wire_read.specs.declared.Field.TheVariants as fields

unfoldable pub varint_at : ℕ → VarintResult → Result Varint ℕ
varint_at at (got v used) = Ok (record { value = v; next = at + used })
varint_at at bad = Err bad_varint

-- the end of the part is no tag
unfoldable pub tag_at : ℕ → TagResult → Result (Option Tag) ℕ
tag_at at (field n w used) = Ok (Some (record { number = n; wire_type = w; next = at + used }))
tag_at at no_tag = Ok None
tag_at at (tag_error code) = Err code

unfoldable pub length_at : ℕ → LengthResult → Result Length ℕ
length_at at (bytes used size) = Ok (record { start = at + used; size = size })
length_at at (length_error code) = Err code

unfoldable pub skip_at : ℕ → SkipResult → Result ℕ ℕ
skip_at at (skipped used) = Ok (at + used)
skip_at at (skip_error code) = Err code

-- what is said of a field: none at the end of the part, and the code of a refusal
abbrev pub FieldAnswer : Type 0
FieldAnswer = Result (Option Field) ℕ

unfoldable pub field_at : ℕ → FieldResult → FieldAnswer
field_at at no_field = Ok None
field_at at (varint_field n v used) = Ok (Some (fields.Varint n v (at + used)))
field_at at (fixed64_field n v used) = Ok (Some (fields.Fixed64 n v (at + used)))
field_at at (bytes_field n used size) = Ok (Some (fields.Bytes n (at + used) size))
field_at at (group_field n used) = Ok (Some (fields.Group n (at + used)))
field_at at (fixed32_field n v used) = Ok (Some (fields.Fixed32 n v (at + used)))
field_at at (field_error code) = Err code

-- what the code's wire types are
abbrev pub type_of : code.WireType → WireType
type_of types.Varint = VARINT
type_of types.I64 = I64
type_of types.Len = LEN
type_of types.SGroup = SGROUP
type_of types.EGroup = EGROUP
type_of types.I32 = I32
type_of types.Reserved = reserved
