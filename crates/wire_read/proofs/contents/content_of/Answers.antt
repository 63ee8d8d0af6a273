-- `content_of` meets its contract. Each wire type has its reader, and those with no value are a bad tag.
use Prim.Native.Nat.{ℕ}
use mathlib.Core.Path.{◌≡◌, refl, sym, ap, ◌∙◌}
use mathlib.Core.List.{List}
use mathlib.Core.Logic.{inl, inr}
use lib.Dec.{lit<}
use Rattle.std.specs.Prelude.{Option, Some, Result, Ok}
use Rattle.wire_read.specs.Fields.{fixed64_field, fixed32_field, content}
use Rattle.wire_read.specs.Placed.{type_of, field_at}
use Rattle.wire_read.specs.Tags.{WireType, wire_type}
use Rattle.wire_read.specs.declared.Field.{Field}
use Rattle.wire_read.specs.declared.Field.TheVariants as fields
use Rattle.wire_read.proofs.Answers.{found_as, refused_as, refused_by, passed_on, goes_on}
use Rattle.wire_read.proofs.FixedLaws.{in_slice, refusal, value_found}
use Rattle.wire_read.proofs.MadeOf.{varint_made, bytes_made, group_made}
use Rattle.wire_read.proofs.contents.content_of.Goals as goal

module _ (at n w : ℕ) (z : List ℕ) where
  by_type : {t : WireType} {r : Result (Option Field) ℕ} → t ≡ wire_type w → r ≡ field_at at (content n t z)
      → r ≡ field_at at (content n (wire_type w) z)
  by_type e q = q ∙ ap (λ (t : WireType). field_at at (content n t z)) e

pub returns-in_err-v-in-Varint : goal.returns-in_err-v-in-Varint
returns-in_err-v-in-Varint c =
    by_type _ _ _ _ (ap type_of (sym c.in-Varint.is) ∙ c.from.ensures) (passed_on c.read_varint.ensures _ (varint_made _ _ _) c.in_err-v-in-Varint.was _ c.from_residual.ensures)

pub returns-in_ok-v-in-Varint : goal.returns-in_ok-v-in-Varint
returns-in_ok-v-in-Varint c =
    by_type _ _ _ _ (ap type_of (sym c.in-Varint.is) ∙ c.from.ensures) (goes_on c.read_varint.ensures _ (varint_made _ _ _) c.in_ok-v-in-Varint.was)

pub returns-in_err-next-in-I64 : goal.returns-in_err-next-in-I64
unfolding content
returns-in_err-next-in-I64 c =
    by_type _ _ _ _ (ap type_of (sym c.in-I64.is) ∙ c.from.ensures)
    (refused_by _ _ c.from_residual-in_err-next-in-I64.ensures ∙ refusal _ _ _ 8 _ (refused_as c.skip_fixed.ensures c.in_err-next-in-I64.was))

pub little64-requires : goal.little64-requires
little64-requires c =
    in_slice _ _ _ 8 (lit< tt) (found_as c.skip_fixed.ensures c.in_ok-next-in-I64.was)

pub returns-in_ok-next-in-I64 : goal.returns-in_ok-next-in-I64
unfolding content field_at
returns-in_ok-next-in-I64 c =
    let number = c.args.tag.number in
    by_type _ _ _ _ (ap type_of (sym c.in-I64.is) ∙ c.from.ensures)
    (value_found _ _ _ 8 (λ v. fixed64_field number v 8) (λ v next. Ok (Some (fields.Fixed64 number v next))) (λ v. refl)
    (found_as c.skip_fixed.ensures c.in_ok-next-in-I64.was) c.little64.ensures)

pub returns-in_err-l-in-Len : goal.returns-in_err-l-in-Len
returns-in_err-l-in-Len c =
    by_type _ _ _ _ (ap type_of (sym c.in-Len.is) ∙ c.from.ensures) (passed_on c.read_length.ensures _ (bytes_made _ _ _) c.in_err-l-in-Len.was _ c.from_residual-in_err-l-in-Len.ensures)

pub returns-in_ok-l-in-Len : goal.returns-in_ok-l-in-Len
returns-in_ok-l-in-Len c =
    by_type _ _ _ _ (ap type_of (sym c.in-Len.is) ∙ c.from.ensures) (goes_on c.read_length.ensures _ (bytes_made _ _ _) c.in_ok-l-in-Len.was)

pub returns-in_err-next-in-SGroup : goal.returns-in_err-next-in-SGroup
returns-in_err-next-in-SGroup c =
    by_type _ _ _ _ (ap type_of (sym c.in-SGroup.is) ∙ c.from.ensures)
    (passed_on c.skip_value.ensures _ (group_made _ _ _) c.in_err-next-in-SGroup.was _ c.from_residual-in_err-next-in-SGroup.ensures)

pub returns-in_ok-next-in-SGroup : goal.returns-in_ok-next-in-SGroup
returns-in_ok-next-in-SGroup c =
    by_type _ _ _ _ (ap type_of (sym c.in-SGroup.is) ∙ c.from.ensures) (goes_on c.skip_value.ensures _ (group_made _ _ _) c.in_ok-next-in-SGroup.was)

pub returns-in_err-next-in-I32 : goal.returns-in_err-next-in-I32
unfolding content
returns-in_err-next-in-I32 c =
    by_type _ _ _ _ (ap type_of (sym c.in-I32.is) ∙ c.from.ensures)
    (refused_by _ _ c.from_residual-in_err-next-in-I32.ensures
    ∙ refusal _ _ _ 4 _ (refused_as c.skip_fixed-in-I32.ensures c.in_err-next-in-I32.was))

pub little32-requires : goal.little32-requires
little32-requires c =
    in_slice _ _ _ 4 (lit< tt) (found_as c.skip_fixed-in-I32.ensures c.in_ok-next-in-I32.was)

pub returns-in_ok-next-in-I32 : goal.returns-in_ok-next-in-I32
unfolding content field_at
returns-in_ok-next-in-I32 c =
    let number = c.args.tag.number in
    by_type _ _ _ _ (ap type_of (sym c.in-I32.is) ∙ c.from.ensures)
    (value_found _ _ _ 4 (λ v. fixed32_field number v 4) (λ v next. Ok (Some (fields.Fixed32 number v next))) (λ v. refl)
    (found_as c.skip_fixed-in-I32.ensures c.in_ok-next-in-I32.was) c.little32.ensures)

pub returns-in-EGroup : goal.returns-in-EGroup
unfolding content field_at
returns-in-EGroup c =
    elim c.in-EGroup.is [
      | inl e ↦ by_type _ _ _ _ (ap type_of (sym e) ∙ c.from.ensures) refl
      | inr e ↦ by_type _ _ _ _ (ap type_of (sym e) ∙ c.from.ensures) refl
    ]
