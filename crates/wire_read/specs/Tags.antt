-- Tags, and the lengths that come before bytes. `s` is what is left of the part.
use Rattle.std.specs.Prelude.{ℕ, zero, suc, ◌-◌, ◌/◌, ◌%◌, ◌^◌, cond, ◌&&◌, List, [], ◌∷◌, length, ltb, leb}
use Rattle.refusals.specs.Numbers.{bad_varint, bad_tag, past_end}
use Rattle.wire_read.specs.Varint.{VarintResult, got, bad, varint}

-- The wire types by the names of the Protobuf encoding guide.
pub data WireType : Type 0 where
  VARINT : WireType
  I64 : WireType
  LEN : WireType
  SGROUP : WireType
  EGROUP : WireType
  I32 : WireType
  reserved : WireType

unfoldable pub wire_type : ℕ → WireType
wire_type zero = VARINT
wire_type (suc zero) = I64
wire_type (suc (suc zero)) = LEN
wire_type (suc (suc (suc zero))) = SGROUP
wire_type (suc (suc (suc (suc zero)))) = EGROUP
wire_type (suc (suc (suc (suc (suc zero))))) = I32
wire_type (suc (suc (suc (suc (suc (suc w)))))) = reserved

-- What a tag says: the field number, the number of the wire type and how many bytes the tag took; the part is at its end; or the error
-- code.
pub data TagResult : Type 0 where
  field : (number type used : ℕ) → TagResult
  no_tag : TagResult
  tag_error : (code : ℕ) → TagResult

-- "A tag is a varint up to 4,294,967,295: field number times 8 plus wire type. Field 0 and wire types 6, 7 are bad."
unfoldable pub split : VarintResult → TagResult
split bad = tag_error bad_varint
split (got v used) =
    cond (ltb v (2 ^ 32) && (ltb 0 (v / 8) && ltb (v % 8) 6)) (field (v / 8) (v % 8) used) (tag_error bad_tag)

-- the tag at the start of the part
unfoldable pub tag : List ℕ → TagResult
tag [] = no_tag
tag (b ∷ s) = split (varint (b ∷ s))

-- How many bytes a length took, and how many bytes after it it announces; or the error code.
pub data LengthResult : Type 0 where
  bytes : (used size : ℕ) → LengthResult
  length_error : (code : ℕ) → LengthResult

-- a length that passes the end of the part is 12. The difference is never cut off: a varint takes no more bytes than there are
-- (`varint_in`, proofs/Bounds).
unfoldable pub length_within : List ℕ → VarintResult → LengthResult
length_within s bad = length_error bad_varint
length_within s (got size used) = cond (leb size (length s - used)) (bytes used size) (length_error past_end)

-- the length at the start of the part
unfoldable pub length_prefix : List ℕ → LengthResult
length_prefix s = length_within s (varint s)
