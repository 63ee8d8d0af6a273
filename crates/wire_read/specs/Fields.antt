-- The next field of a part, whatever the message. `s` is what is left of the part.
use Rattle.std.specs.Prelude.{ℕ, ◌+◌, ◌*◌, cond, List, [], ◌∷◌, length, take, drop, leb}
use Rattle.refusals.specs.Numbers.{bad_varint, bad_tag, past_end}
use Rattle.wire_read.specs.Varint.{got, bad, varint}
use Rattle.wire_read.specs.Tags.{WireType, VARINT, I64, LEN, SGROUP, EGROUP, I32, reserved, wire_type, field, no_tag, tag_error, tag}
use Rattle.wire_read.specs.Tags.{bytes, length_error, length_prefix}
use Rattle.wire_read.specs.Skipping.{skipped, skip_error, value, group_in, max_depth}

-- The field's number, what it holds and how many bytes it took; of bytes, how many come before them and how many they are.
-- Or the part is at its end; or the error code.
pub data FieldResult : Type 0 where
  no_field : FieldResult
  varint_field : (number value used : ℕ) → FieldResult
  fixed64_field : (number value used : ℕ) → FieldResult
  bytes_field : (number used size : ℕ) → FieldResult
  group_field : (number used : ℕ) → FieldResult
  fixed32_field : (number value used : ℕ) → FieldResult
  field_error : (code : ℕ) → FieldResult

-- a fixed value: the low byte comes first (the Protobuf encoding guide)
unfoldable pub little_endian : List ℕ → ℕ
little_endian [] = 0
little_endian (b ∷ s) = b + 256 * little_endian s

-- what comes after the tag of field `n`
unfoldable pub content : ℕ → WireType → List ℕ → FieldResult
content n VARINT s = elim (varint s) [ bad ↦ field_error bad_varint | got v used ↦ varint_field n v used ]
content n I64 s = cond (leb 8 (length s)) (fixed64_field n (little_endian (take 8 s)) 8) (field_error past_end)
content n LEN s =
    elim (length_prefix s) [ length_error code ↦ field_error code | bytes used size ↦ bytes_field n used size ]
content n SGROUP s =
    elim (value (group_in (length s)) n SGROUP max_depth s)
    [ skip_error code ↦ field_error code | skipped used ↦ group_field n used ]
content n EGROUP s = field_error bad_tag
content n I32 s = cond (leb 4 (length s)) (fixed32_field n (little_endian (take 4 s)) 4) (field_error past_end)
content n reserved s = field_error bad_tag

-- a field whose tag took `n` bytes
unfoldable pub field_after : ℕ → FieldResult → FieldResult
field_after n no_field = no_field
field_after n (varint_field number v used) = varint_field number v (n + used)
field_after n (fixed64_field number v used) = fixed64_field number v (n + used)
field_after n (bytes_field number used size) = bytes_field number (n + used) size
field_after n (group_field number used) = group_field number (n + used)
field_after n (fixed32_field number v used) = fixed32_field number v (n + used)
field_after n (field_error code) = field_error code

-- "at each place tag 10, 11, 13, value 10, 12"
unfoldable pub next_field : List ℕ → FieldResult
next_field s =
    elim (tag s) [
      | no_tag ↦ no_field
      | tag_error code ↦ field_error code
      | field n w used ↦ field_after used (content n (wire_type w) (drop used s))
    ]
