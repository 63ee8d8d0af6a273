-- `next_field` meets its contract. What comes after the tag is the content of the part that starts there.
use Prim.Native.Nat.{ℕ, ◌+◌}
use mathlib.Core.Path.{◌≡◌, refl, sym, ap, ◌∙◌}
use mathlib.Core.List.{List}
use Rattle.std.specs.Prelude.{Option, Some, None, Result, Ok}
use Rattle.wire_read.specs.Fields.{FieldResult, content, next_field}
use Rattle.wire_read.specs.Part.{part}
use Rattle.wire_read.specs.Placed.{tag_at, field_at}
use Rattle.wire_read.specs.Tags.{TagResult, wire_type, tag}
use Rattle.wire_read.specs.declared.Field.{Field}
use Rattle.wire_read.specs.declared.Tag.{Tag}
use Rattle.wire_read.proofs.Cases.{tag_cases}
use Rattle.wire_read.proofs.PartLaws.{part_drop}
use Rattle.wire_read.proofs.Answers.{then, passed_on, goes_on, field_at_after}
use Rattle.wire_read.proofs.next_field.Goals as goal

module _ (s : List ℕ) (at end : ℕ) where
  -- the field of a tag, which may be none
  abbrev field_of : Option Tag → Result (Option Field) ℕ
  field_of None = Ok None
  field_of (Some t) = field_at t.next (content t.number (wire_type t.wire_type) (part s t.next end))

  field_made : then (tag_at at (tag (part s at end))) field_of ≡ field_at at (next_field (part s at end))
  unfolding next_field field_at tag_at
  field_made =
      tag_cases (λ (x : FieldResult). then (tag_at at (tag (part s at end))) field_of ≡ field_at at x)
      (λ (r : TagResult). tag (part s at end) ≡ r) (tag (part s at end)) refl (λ e. rw e) (λ code e. rw e)
      (λ n w used e.
      rw (e, part_drop s at end used) (sym (field_at_after at used (content n (wire_type w) (part s (at + used) end)))))

pub returns-in_err-read_tag : goal.returns-in_err-read_tag
returns-in_err-read_tag c =
    passed_on c.read_tag.ensures _ (field_made _ _ _) c.in_err-read_tag.was _ c.from_residual.ensures

pub returns-in-None : goal.returns-in-None
returns-in-None c =
    goes_on c.read_tag.ensures _ (field_made _ _ _) (c.in_ok-read_tag.was ∙ ap Ok c.in-None.is)

pub returns-in-Some : goal.returns-in-Some
returns-in-Some c =
    c.content_of.ensures ∙ goes_on c.read_tag.ensures _ (field_made _ _ _) (c.in_ok-read_tag.was ∙ ap Ok c.in-Some.is)
