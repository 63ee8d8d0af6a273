-- Worked examples of document 01 that concern fields, with the borders of its rules, as rows of tables: the definitions give each answer.
use Prim.Native.Nat.{ℕ, ◌-◌, ◌^◌}
use mathlib.Core.Path.{◌≡◌, refl}
use mathlib.Core.List.{List, [], ◌∷◌, ◌++◌, map}
use lib.ListN.{replicate}
use lib.IntN.{negsuc}
use Rattle.wire_read.specs.Varint.{VarintResult, got, bad, joined, groups, varint, twos_complement, low_i32}
use Rattle.wire_read.specs.Tags.{wire_type, split, tag, length_within, length_prefix}
use Rattle.wire_read.specs.Skipping.{skip_after, skip_varint, skip_fixed, skip_bytes, value, in_group, group_in}
use Rattle.wire_read.specs.Fields.{FieldResult, no_field, varint_field, fixed64_field, bytes_field, group_field, fixed32_field}
use Rattle.wire_read.specs.Fields.{field_error, little_endian, content, field_after, next_field}

record VarintRow : Type 0 where
  read : List ℕ
  answer : VarintResult

varints : List VarintRow
varints =
    record { read = []; answer = bad }
    ∷ record { read = 0xAC ∷ 0x02 ∷ []; answer = got 300 2 }
    -- cut off
    ∷ record { read = 0xAC ∷ []; answer = bad }
    -- longer than needed
    ∷ record { read = 0xAC ∷ 0x82 ∷ 0x80 ∷ 0x00 ∷ []; answer = got 300 4 }
    -- "nine FF then 02 as a varint: 10"; with 01 it is the largest
    ∷ record { read = replicate 9 0xFF ++ (0x02 ∷ []); answer = bad }
    ∷ record { read = replicate 9 0xFF ++ (0x01 ∷ []); answer = got (2 ^ 64 - 1) 10 }
    -- an eleventh byte
    ∷ record { read = replicate 10 0x80 ++ (0x00 ∷ []); answer = bad }
    ∷ []

varints_read : map (λ (r : VarintRow). varint r.read) varints ≡ map (λ (r : VarintRow). r.answer) varints
unfolding varints varint groups joined
varints_read = refl

record FieldRow : Type 0 where
  read : List ℕ
  answer : FieldResult

-- `n` groups of field 1, one in the other
nested : ℕ → List ℕ
nested n = replicate n 0x0B ++ replicate n 0x0C

fields : List FieldRow
fields =
    record { read = []; answer = no_field }
    -- "Feedback 08 AC 02: 300"
    ∷ record { read = 0x08 ∷ 0xAC ∷ 0x02 ∷ []; answer = varint_field 1 300 3 }
    -- "request 7B 7C: skipped; 7B 84 01: 11"
    ∷ record { read = 0x7B ∷ 0x7C ∷ []; answer = group_field 15 2 }
    ∷ record { read = 0x7B ∷ 0x84 ∷ 0x01 ∷ []; answer = field_error 11 }
    -- an open group, a stray end, a group that holds a field of each kind
    ∷ record { read = 0x7B ∷ []; answer = field_error 12 }
    ∷ record { read = 0x7C ∷ []; answer = field_error 11 }
    ∷ record {
      read =
          0x7B ∷ 0x08 ∷ 0x05 ∷ 0x12 ∷ 0x01 ∷ 0x61 ∷ 0x1D ∷ 1 ∷ 2 ∷ 3 ∷ 4 ∷ 0x21 ∷ 1 ∷ 2 ∷ 3 ∷ 4 ∷ 5 ∷ 6 ∷ 7 ∷ 8
          ∷ 0x7C ∷ 0x08 ∷ [];
      answer = group_field 15 21;
    }
    -- "nested to 32"; 13: "33rd nested group"
    ∷ record { read = nested 32; answer = group_field 1 64 }
    ∷ record { read = nested 33; answer = field_error 13 }
    -- field 0; wire type 6; the largest tag, with wire types 0 and 7; a tag of 2^32
    ∷ record { read = 0x00 ∷ 0x00 ∷ []; answer = field_error 11 }
    ∷ record { read = 0x0E ∷ 0x00 ∷ []; answer = field_error 11 }
    ∷ record { read = 0xF8 ∷ 0xFF ∷ 0xFF ∷ 0xFF ∷ 0x0F ∷ 0x07 ∷ []; answer = varint_field 536870911 7 6 }
    ∷ record { read = 0xFF ∷ 0xFF ∷ 0xFF ∷ 0xFF ∷ 0x0F ∷ 0x07 ∷ []; answer = field_error 11 }
    ∷ record { read = 0x80 ∷ 0x80 ∷ 0x80 ∷ 0x80 ∷ 0x10 ∷ 0x07 ∷ []; answer = field_error 11 }
    -- bytes that are there, and a length one past the end
    ∷ record { read = 0x0A ∷ 0x02 ∷ 0x61 ∷ 0x62 ∷ []; answer = bytes_field 1 2 2 }
    ∷ record { read = 0x0A ∷ 0x03 ∷ 0x61 ∷ 0x62 ∷ []; answer = field_error 12 }
    -- fixed values, the low byte first, and one cut off
    ∷ record { read = 0x0D ∷ 0x01 ∷ 0x02 ∷ 0x00 ∷ 0x80 ∷ []; answer = fixed32_field 1 0x80000201 5 }
    ∷ record { read = 0x09 ∷ 0x01 ∷ 0 ∷ 0 ∷ 0 ∷ 0 ∷ 0 ∷ 0 ∷ 0x80 ∷ []; answer = fixed64_field 1 0x8000000000000001 9 }
    ∷ record { read = 0x0D ∷ 0x01 ∷ 0x02 ∷ 0x00 ∷ []; answer = field_error 12 }
    -- a tag cut off
    ∷ record { read = 0x88 ∷ []; answer = field_error 10 }
    ∷ []

fields_read : map (λ (r : FieldRow). next_field r.read) fields ≡ map (λ (r : FieldRow). r.answer) fields
unfolding fields nested next_field field_after content tag split varint groups joined wire_type length_prefix length_within value in_group
    group_in skip_after skip_varint skip_fixed skip_bytes little_endian
fields_read = refl

-- "response 20, nine FF, 01: ret -1"
minus_one : low_i32 (2 ^ 64 - 1) ≡ negsuc 0
unfolding twos_complement
minus_one = refl
