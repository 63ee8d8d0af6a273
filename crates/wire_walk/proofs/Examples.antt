-- Worked examples of document 01 that concern the walk, as rows of a table: the definitions give each answer.
use Prim.Native.Nat.{ℕ}
use mathlib.Core.Path.{◌≡◌, refl}
use mathlib.Core.List.{List, [], ◌∷◌, map}
use Rattle.wire_read.specs.Varint.{joined, groups, varint}
use Rattle.wire_read.specs.Tags.{wire_type, split, tag, length_within, length_prefix}
use Rattle.wire_read.specs.Skipping.{skip_after, skip_varint, skip_fixed, skip_bytes, value, in_group, group_in}
use Rattle.wire_read.specs.Fields.{little_endian, content, field_after, next_field}
use Rattle.std.specs.Prelude.{Some, None, Ok, Err}
use Rattle.wire_read.specs.Placed.{FieldAnswer, field_at}
use Rattle.wire_read.specs.declared.Field.{Field}
use Rattle.wire_read.specs.declared.Field.TheVariants as fields
use Rattle.wire_walk.specs.Reader.{used_by}
use Rattle.wire_walk.specs.Walk.{onward, walk_in, walk, placed}
use Rattle.wire_walk.specs.Last.{last_of, last_field}

record Row : Type 0 where
  bytes : List ℕ
  -- what a new reader answers, call by call
  answers : List FieldAnswer
  tag : ℕ
  last : FieldAnswer

-- the answer of a field
abbrev found : Field → FieldAnswer
found f = Ok (Some f)

rows : List Row
rows =
    record { bytes = []; answers = Ok None ∷ []; tag = 32; last = Ok None }
    -- "request 20 05 20 07: timeout 7"
    ∷ record {
      bytes = 0x20 ∷ 0x05 ∷ 0x20 ∷ 0x07 ∷ [];
      answers = found (fields.Varint 4 5 2) ∷ found (fields.Varint 4 7 4) ∷ Ok None ∷ [];
      tag = 32;
      last = found (fields.Varint 4 7 4);
    }
    -- field 4 with another wire type after it is skipped
    ∷ record {
      bytes = 0x20 ∷ 0x05 ∷ 0x22 ∷ 0x01 ∷ 0x07 ∷ [];
      answers = found (fields.Varint 4 5 2) ∷ found (fields.Bytes 4 4 1) ∷ Ok None ∷ [];
      tag = 32;
      last = found (fields.Varint 4 5 2);
    }
    -- "request 7B 7C: skipped; 7B 84 01: 11"
    ∷ record { bytes = 0x7B ∷ 0x7C ∷ []; answers = found (fields.Group 15 2) ∷ Ok None ∷ []; tag = 32; last = Ok None }
    ∷ record {
      bytes = 0x20 ∷ 0x05 ∷ 0x7B ∷ 0x84 ∷ 0x01 ∷ [];
      answers = found (fields.Varint 4 5 2) ∷ Err 11 ∷ [];
      tag = 32;
      last = Err 11;
    }
    ∷ []

rows_walked : map (λ (r : Row). placed 0 (walk r.bytes)) rows ≡ map (λ (r : Row). r.answers) rows
unfolding rows walk walk_in onward placed used_by field_at next_field field_after content little_endian tag split wire_type varint groups joined
    length_within length_prefix value in_group group_in skip_after skip_varint skip_fixed skip_bytes
rows_walked = refl

rows_found : map (λ (r : Row). last_field r.tag r.bytes) rows ≡ map (λ (r : Row). r.last) rows
unfolding rows last_field last_of walk walk_in onward placed used_by field_at next_field field_after content little_endian tag split
    wire_type varint groups joined length_within length_prefix value in_group group_in skip_after skip_varint skip_fixed skip_bytes
rows_found = refl
