-- `read_tag` meets its contract. A part that is not at its end starts with a varint, and the tag of its value is where it is.
use Prim.Native.Nat.{ℕ, ◌+◌, ◌/◌, ◌%◌, ◌^◌, ◌<◌, ◌≤◌, min}
use mathlib.Core.Path.{◌≡◌, refl, ap, ◌∙◌}
use mathlib.Core.Bool.{Bool, true, false, cond, ◌&&◌}
use mathlib.Core.List.{List}
use lib.ListN.{length}
use lib.Dec.{ltb}
use native.Mathlib.Omega.{arith}
use Rattle.std.specs.Prelude.{Option, Some, None, Result, Ok}
use Rattle.wire_read.specs.Part.{part}
use Rattle.wire_read.specs.Placed.{varint_at, tag_at}
use Rattle.wire_read.specs.Tags.{field, tag_error, split, tag}
use Rattle.wire_read.specs.Varint.{VarintResult, got, bad, varint}
use Rattle.wire_read.specs.declared.Tag.{Tag}
use Rattle.wire_read.specs.declared.Varint.{Varint}
use Rattle.wire_read.proofs.PartLaws.{part_empty, part_cons}
use Rattle.wire_read.proofs.Answers.{then, passed_on, goes_on}
use Rattle.wire_read.proofs.read_tag.Goals as goal

-- the tag that a varint is
abbrev tag_of : Varint → Result (Option Tag) ℕ
tag_of v = tag_at v.next (split (got v.value 0))

split_made : (at : ℕ) (g : VarintResult) → then (varint_at at g) tag_of ≡ tag_at at (split g)
unfolding split tag_at varint_at
split_made at bad = refl
split_made at (got v used) = by (ltb v (2 ^ 32) && (ltb 0 (v / 8) && ltb (v % 8) 6))
  where
    by : (b : Bool)
        → tag_at (at + used) (cond b (field (v / 8) (v % 8) 0) (tag_error 11)) ≡ tag_at at (cond b (field (v / 8) (v % 8) used) (tag_error 11))
    by true = ap (λ (n : ℕ). Ok (Some (record { number = v / 8; wire_type = v % 8; next = n }))) (omega arith)
    by false = refl

module _ (s : List ℕ) (at end stop : ℕ) (is_stop : stop ≡ min end (length s)) where
  at_end : stop ≤ at → Ok None ≡ tag_at at (tag (part s at end))
  unfolding tag tag_at
  at_end h = rw (part_empty s at end (omega arith))

  tag_made : at < stop → then (varint_at at (varint (part s at end))) tag_of ≡ tag_at at (tag (part s at end))
  unfolding tag
  tag_made some =
      let e = part_cons s at end (omega arith) in
      let by-varint : tag (part s at end) ≡ split (varint (part s at end)) = rw e in
      rw by-varint (split_made at (varint (part s at end)))

pub returns-then-part_end-at : goal.returns-then-part_end-at
returns-then-part_end-at c =
    at_end _ _ _ _ c.part_end.ensures c.if-part_end-at.true

pub returns-in_err-v : goal.returns-in_err-v
returns-in_err-v c =
    passed_on c.read_varint.ensures _ (tag_made _ _ _ _ c.part_end.ensures c.if-part_end-at.false) c.in_err-v.was _
    c.from_residual.ensures

pub returns : goal.returns
returns c =
    c.split_tag.ensures ∙ goes_on c.read_varint.ensures _ (tag_made _ _ _ _ c.part_end.ensures c.if-part_end-at.false) c.in_ok-v.was
