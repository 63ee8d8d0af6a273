-- `skip_group` and `skip_value` meet their contracts together. The laws of the loop and of each wire type are in `Groups`.
use mathlib.Core.Path.{refl, sym, ap, ◌∙◌}
use mathlib.Core.Logic.{inl, inr}
use native.Mathlib.Omega.{arith}
use Rattle.std.specs.Prelude.{Ok}
use Rattle.wire_read.specs.Skipping.{value}
use Rattle.wire_read.specs.Placed.{type_of, skip_at}
use Rattle.wire_read.proofs.Answers.{found_as, refused_as, refused_by}
use Rattle.wire_read.proofs.Groups.{by_type, by_depth, by_group}
use Rattle.wire_read.proofs.Groups.{tag_bounds, value_bounds, onward, open_group, bad_tag_lem, group_end, other_end, bad_value}
use Rattle.wire_read.proofs.+skipping_groups.Goals as goal

pub skip_group-loop-tag-smaller : goal.skip_group-loop-tag-smaller
skip_group-loop-tag-smaller t c =
    let tag = found_as c.read_tag.ensures (c.in_ok-tag.was ∙ ap Ok c.in-Some.is) in
    let next = found_as c.skip_value.ensures c.in_ok-i.was in
    omega (
      arith,
      tag_bounds _ _ _ _ _ _ c.loop-tag.invariant tag,
      value_bounds _ _ _ _ _ _ c.loop-tag.invariant tag c.if-tag-eq4.false next,
    )

pub skip_group-loop-tag-preserved : goal.skip_group-loop-tag-preserved
skip_group-loop-tag-preserved t c =
    let tag = found_as c.read_tag.ensures (c.in_ok-tag.was ∙ ap Ok c.in-Some.is) in
    onward _ _ _ _ _ _ c.loop-tag.invariant tag c.if-tag-eq4.false (found_as c.skip_value.ensures c.in_ok-i.was)

pub skip_group-returns : goal.skip_group-returns
skip_group-returns t c =
    open_group _ _ _ _ _ _ c.loop-tag.invariant (found_as c.read_tag.ensures (c.in_ok-tag.was ∙ ap Ok c.in_default.is))

pub skip_group-returns-in_err-tag : goal.skip_group-returns-in_err-tag
skip_group-returns-in_err-tag t c =
    refused_by _ _ c.from_residual.ensures
    ∙ bad_tag_lem _ _ _ _ _ _ c.loop-tag.invariant (refused_as c.read_tag.ensures c.in_err-tag.was)

pub skip_group-returns-then-tag-number : goal.skip_group-returns-then-tag-number
skip_group-returns-then-tag-number t c =
    let tag = found_as c.read_tag.ensures (c.in_ok-tag.was ∙ ap Ok c.in-Some.is) in
    group_end _ _ _ _ _ _ c.loop-tag.invariant tag c.if-tag-eq4.true c.if-tag-number.true

pub skip_group-returns-then-tag-eq4 : goal.skip_group-returns-then-tag-eq4
skip_group-returns-then-tag-eq4 t c =
    let tag = found_as c.read_tag.ensures (c.in_ok-tag.was ∙ ap Ok c.in-Some.is) in
    other_end _ _ _ _ _ _ c.loop-tag.invariant tag c.if-tag-eq4.true c.if-tag-number.false

pub skip_group-returns-in_err-i : goal.skip_group-returns-in_err-i
skip_group-returns-in_err-i t c =
    let tag = found_as c.read_tag.ensures (c.in_ok-tag.was ∙ ap Ok c.in-Some.is) in
    refused_by _ _ c.from_residual-in_err-i.ensures
    ∙ bad_value _ _ _ _ _ _ c.loop-tag.invariant tag c.if-tag-eq4.false (refused_as c.skip_value.ensures c.in_err-i.was)

-- each wire type, which `from` found
pub skip_value-returns-in-Varint : goal.skip_value-returns-in-Varint
unfolding value
skip_value-returns-in-Varint t c =
    by_type _ _ _ _ _ (ap type_of (sym c.in-Varint.is) ∙ c.from.ensures) c.skip_varint.ensures

pub skip_value-returns-in-I64 : goal.skip_value-returns-in-I64
unfolding value
skip_value-returns-in-I64 t c =
    by_type _ _ _ _ _ (ap type_of (sym c.in-I64.is) ∙ c.from.ensures) c.skip_fixed.ensures

pub skip_value-returns-in-Len : goal.skip_value-returns-in-Len
unfolding value
skip_value-returns-in-Len t c =
    by_type _ _ _ _ _ (ap type_of (sym c.in-Len.is) ∙ c.from.ensures) c.skip_bytes.ensures

pub skip_value-returns-then-depth-eq0 : goal.skip_value-returns-then-depth-eq0
skip_value-returns-then-depth-eq0 t c =
    by_depth _ _ _ _ _ (ap type_of (sym c.in-SGroup.is) ∙ c.from.ensures) c.if-depth-eq0.true

pub skip_value-returns-else-depth-eq0 : goal.skip_value-returns-else-depth-eq0
skip_value-returns-else-depth-eq0 t c =
    by_group _ _ _ _ _ (ap type_of (sym c.in-SGroup.is) ∙ c.from.ensures) c.if-depth-eq0.false c.skip_group.ensures

pub skip_value-returns-in-I32 : goal.skip_value-returns-in-I32
unfolding value
skip_value-returns-in-I32 t c =
    by_type _ _ _ _ _ (ap type_of (sym c.in-I32.is) ∙ c.from.ensures) c.skip_fixed-in-I32.ensures

pub skip_value-returns-in-EGroup : goal.skip_value-returns-in-EGroup
unfolding value skip_at
skip_value-returns-in-EGroup t c =
    elim c.in-EGroup.is [
      | inl e ↦ by_type _ _ _ _ _ (ap type_of (sym e) ∙ c.from.ensures) refl
      | inr e ↦ by_type _ _ _ _ _ (ap type_of (sym e) ∙ c.from.ensures) refl
    ]
