-- Progress and bounds as places of the slice: an answer that names a next place moves forward and stays within the part.
use Prim.Native.Nat.{ℕ, ◌+◌, ◌-◌, ◌<◌, ◌≤◌, min}
use mathlib.Core.Path.{◌≡◌, subst}
use mathlib.Core.List.{List}
use lib.ListN.{length}
use native.Mathlib.Omega.{arith}
use Rattle.std.specs.Prelude.{Option, Some, None, Result, Ok, Err}
use Rattle.wire_read.specs.Part.{part}
use Rattle.wire_read.specs.Varint.{got, varint}
use Rattle.wire_read.specs.Tags.{field, tag, bytes, length_prefix}
use Rattle.wire_read.specs.Skipping.{SkipResult, skipped}
use Rattle.wire_read.specs.Fields.{FieldResult, no_field, varint_field, fixed64_field, bytes_field, group_field, fixed32_field}
use Rattle.wire_read.specs.Fields.{field_error, next_field}
use Rattle.wire_read.specs.Placed.{varint_at, tag_at, length_at, skip_at, field_at}
use Rattle.wire_read.specs.declared.Varint.{Varint}
use Rattle.wire_read.specs.declared.Tag.{Tag}
use Rattle.wire_read.specs.declared.Length.{Length}
use Rattle.wire_read.specs.declared.Field.{Field}
use Rattle.wire_read.specs.declared.Field.TheVariants as fields
use Rattle.wire_read.proofs.Bounds.{VarintIn, varint_in, TagIn, tag_in, LengthIn, length_prefix_in, SkipIn, FieldIn, next_field_in}
use Rattle.wire_read.proofs.PartLaws.{part_length}
use Rattle.wire_read.proofs.Answers.{is_got, is_field, is_bytes, is_skipped}

module _ (s : List ℕ) (at end : ℕ) where
  pub value_place : {v : Varint} → Ok v ≡ varint_at at (varint (part s at end)) → (at < v.next) × (v.next ≤ min end (length s))
  value_place {v = v} p =
      let g = is_got at (varint (part s at end)) p in
      let b : VarintIn (part s at end) (got v.value (v.next - at)) = subst (VarintIn (part s at end)) g.0 (varint_in (part s at end)) in
      (omega arith, omega (arith, part_length s at end))

  pub tag_place : {t : Tag} → Ok (Some t) ≡ tag_at at (tag (part s at end)) → (at < t.next) × (t.next ≤ min end (length s))
  tag_place {t = t} p =
      let g = is_field at (tag (part s at end)) p in
      let b : TagIn (part s at end) (field t.number t.wire_type (t.next - at)) =
      subst (TagIn (part s at end)) g.0 (tag_in (part s at end)) in
      (omega arith, omega (arith, part_length s at end))

  pub bytes_place : {l : Length} → Ok l ≡ length_at at (length_prefix (part s at end))
      → (at < l.start) × (l.start + l.size ≤ min end (length s))
  bytes_place {l = l} p =
      let g = is_bytes at (length_prefix (part s at end)) p in
      let b : LengthIn (part s at end) (bytes (l.start - at) l.size) =
      subst (LengthIn (part s at end)) g.0 (length_prefix_in (part s at end)) in
      (omega arith, omega (arith, part_length s at end))

  -- of whatever was skipped
  pub skip_place : (o : SkipResult) → SkipIn (part s at end) o → {next : ℕ} → Ok next ≡ skip_at at o
      → (at < next) × (next ≤ min end (length s))
  skip_place o i {next = next} p =
      let g = is_skipped at o p in
      let b : SkipIn (part s at end) (skipped (next - at)) = subst (SkipIn (part s at end)) g.0 i in
      (omega arith, omega (arith, part_length s at end))

-- where a field ends
abbrev pub Within : ℕ → ℕ → Result (Option Field) ℕ → Type 0
Within at stop (Ok None) = Unit {0}
Within at stop (Ok (Some (fields.Varint n v after))) = (at < after) × (after ≤ stop)
Within at stop (Ok (Some (fields.Fixed64 n v after))) = (at < after) × (after ≤ stop)
Within at stop (Ok (Some (fields.Bytes n start size))) = (at < start) × (start + size ≤ stop)
Within at stop (Ok (Some (fields.Group n after))) = (at < after) × (after ≤ stop)
Within at stop (Ok (Some (fields.Fixed32 n v after))) = (at < after) × (after ≤ stop)
Within at stop (Err code) = Unit {0}

module _ (s : List ℕ) (at end : ℕ) where
  placed_within : (f : FieldResult) → FieldIn (part s at end) f → Within at (min end (length s)) (field_at at f)
  unfolding field_at
  placed_within no_field i = tt
  placed_within (varint_field n v used) i = (omega arith, omega (arith, part_length s at end))
  placed_within (fixed64_field n v used) i = (omega arith, omega (arith, part_length s at end))
  placed_within (bytes_field n used size) i = (omega arith, omega (arith, part_length s at end))
  placed_within (group_field n used) i = (omega arith, omega (arith, part_length s at end))
  placed_within (fixed32_field n v used) i = (omega arith, omega (arith, part_length s at end))
  placed_within (field_error code) i = tt

  -- the answer of `next_field`
  pub field_place : Within at (min end (length s)) (field_at at (next_field (part s at end)))
  field_place = placed_within (next_field (part s at end)) (next_field_in (part s at end))
