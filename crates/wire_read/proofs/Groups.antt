-- The loop of `skip_group`: what is left of the group after the fields that were skipped is what is left of the whole.
-- And what `skip_value` answers for each wire type.
use Prim.Native.Nat.{ℕ, zero, suc, pred, ◌+◌, ◌-◌, ◌<◌, ◌≤◌, min}
use mathlib.Core.Path.{◌≡◌, refl, sym, ap, ◌∙◌}
use mathlib.Core.List.{List, [], ◌∷◌}
use lib.ListN.{length, drop}
use native.Mathlib.Omega.{arith}
use borrow.Author.Tests.{eq-eqb, ne_eqb}
use Rattle.laws.proofs.Booleans.{clash}
use Rattle.std.specs.Prelude.{Option, Some, None, Result, Ok, Err}
use Rattle.wire_read.specs.Part.{part}
use Rattle.wire_read.specs.Tags.{WireType, SGROUP, wire_type, field, no_tag, tag_error, tag}
use Rattle.wire_read.specs.Skipping.{SkipResult, skipped, skip_error, skip_after, value, in_group}
use Rattle.wire_read.specs.Skipping.{group_in}
use Rattle.wire_read.specs.Skipping.{skip_group, skip_value}
use Rattle.wire_read.specs.Placed.{tag_at, skip_at}
use Rattle.wire_read.specs.declared.Tag.{Tag}
use Rattle.wire_read.proofs.PartLaws.{part_length, part_drop, part_shorter}
use Rattle.wire_read.proofs.Bounds.{skip_value_in}
use Rattle.wire_read.proofs.Fuel.{skip_group_enough, skip_value_enough, skip_group_one}
use Rattle.wire_read.proofs.Answers.{is_no_tag, is_tag_error, is_field, is_skip_error, is_skipped, skip_at_after}
use Rattle.wire_read.proofs.Places.{tag_place, skip_place}

-- what `skip_value` answers, by its wire type
module _ (at n w d : ℕ) (z : List ℕ) where
  abbrev Answer : Result ℕ ℕ → Type 0
  Answer r = r ≡ skip_at at (skip_value n w d z)

  -- what is skipped for wire type `t`
  abbrev of_type : WireType → SkipResult
  of_type t = value (group_in (length z)) n t d z

  pub by_type : {t : WireType} {r : Result ℕ ℕ} → t ≡ wire_type w → r ≡ skip_at at (of_type t) → Answer r
  by_type e q = q ∙ ap (λ (t : WireType). skip_at at (of_type t)) e

  pub by_depth : SGROUP ≡ wire_type w → d ≡ 0 → Answer (Err 13)
  unfolding value skip_at
  by_depth e z = by_type e (rw z)

  pub by_group : {r : Result ℕ ℕ} → SGROUP ≡ wire_type w → (d ≡ 0 → ⊥) → r ≡ skip_at at (skip_group n (d - 1) z) → Answer r
  unfolding value
  by_group {r = r} e some q = by_type e (go d some q)
    where
      go : (d : ℕ) → (d ≡ 0 → ⊥) → r ≡ skip_at at (skip_group n (d - 1) z) → r ≡ skip_at at (value (group_in (length z)) n SGROUP d z)
      go zero some q = absurd (some refl)
      go (suc d) some q = let one : suc d - 1 ≡ d = omega arith in rw one at q

pub record Walk (s : List ℕ) (n d at end i : ℕ) : Type 0 where
  pub rest : skip_at at (skip_group n d (part s at end)) ≡ skip_at i (skip_group n d (part s i end))

pub group_starts : (s : List ℕ) (n d at end : ℕ) → Walk s n d at end at
group_starts s n d at end = record { rest = refl }

tag_some : (z : List ℕ) (code : ℕ) → tag z ≡ tag_error code → 0 < length z
unfolding tag
tag_some [] code e = clash cc
tag_some (b ∷ z) code e = omega arith

none_left : (z : List ℕ) (n d : ℕ) → tag z ≡ no_tag → skip_group n d z ≡ skip_error 12
unfolding in_group group_in
none_left [] n d e = refl
none_left (b ∷ z) n d e = cc

module _ (s : List ℕ) (n d at end i : ℕ) (walk : Walk s n d at end i) where
  abbrev left : List ℕ
  left = part s i end

  abbrev first : SkipResult
  first = in_group (group_in (pred (length left))) n d left

  abbrev whole : Result ℕ ℕ
  whole = skip_at at (skip_group n d (part s at end))

  -- what `read_tag` answers of what is left
  abbrev Tagged : Result (Option Tag) ℕ → Type 0
  Tagged x = x ≡ tag_at i (tag left)

  pub open_group : Tagged (Ok None) → Err 12 ≡ whole
  unfolding skip_at
  open_group e = sym (walk.rest ∙ rw (none_left left n d (is_no_tag i (tag left) e)))

  pub bad_tag_lem : {code : ℕ} → Tagged (Err code) → Err code ≡ whole
  unfolding in_group skip_at
  bad_tag_lem {code = code} e =
      let g = is_tag_error i (tag left) e in
      let q : first ≡ skip_error code = cc in
      sym (walk.rest ∙ rw (skip_group_one n d left (tag_some left code g), q))

  module _ {t : Tag} (e : Tagged (Ok (Some t))) where
    abbrev later : List ℕ
    later = part s t.next end

    tagged : (tag left ≡ field t.number t.wire_type (t.next - i)) × (i + (t.next - i) ≡ t.next)
    tagged = is_field i (tag left) e

    pub tag_bounds : (i < t.next) × (t.next ≤ min end (length s))
    tag_bounds = tag_place s i end e

    inside : i < min end (length s)
    inside = omega (arith, tag_bounds)

    opened : skip_group n d left ≡ first
    opened = skip_group_one n d left (omega (arith, tag_bounds, part_length s i end))

    pub group_end : t.wire_type ≡ 4 → t.number ≡ n → Ok t.next ≡ whole
    unfolding in_group skip_at
    group_end four same =
        let g = tagged in let g₀ = g.0 in
        let q : first ≡ skipped (t.next - i) = cc (eq-eqb t.wire_type 4 four, eq-eqb t.number n same) in
        sym (walk.rest ∙ rw (opened, q, g.1))

    pub other_end : t.wire_type ≡ 4 → (t.number ≡ n → ⊥) → Err 11 ≡ whole
    unfolding in_group skip_at
    other_end four other =
        let g = tagged in let g₀ = g.0 in
        let q : first ≡ skip_error 11 = cc (eq-eqb t.wire_type 4 four, ne_eqb t.number n other) in
        sym (walk.rest ∙ rw (opened, q))

    module _ (not_end : t.wire_type ≡ 4 → ⊥) where
      -- what `skip_value` answers after the tag
      abbrev Skips : Result ℕ ℕ → Type 0
      Skips x = x ≡ skip_at t.next (skip_value t.number t.wire_type d later)

      inner : value (group_in (pred (length left))) t.number (wire_type t.wire_type) d (drop (t.next - i) left)
          ≡ skip_value t.number t.wire_type d later
      inner =
          let there : drop (t.next - i) left ≡ later = part_drop s i end (t.next - i) ∙ rw tagged.1 in
          rw there
          (skip_value_enough (pred (length left)) t.number t.wire_type d later (part_shorter s i t.next end tag_bounds.0 inside))

      pub bad_value : {code : ℕ} → Skips (Err code) → Err code ≡ whole
      unfolding in_group skip_at
      bad_value {code = code} f =
          let g = tagged in let g₀ = g.0 in let b = inner in
          let v = is_skip_error t.next (skip_value t.number t.wire_type d later) f in
          let q : first ≡ skip_error code = cc (ne_eqb t.wire_type 4 not_end) in
          sym (walk.rest ∙ rw (opened, q))

      module _ {next : ℕ} (f : Skips (Ok next)) where
        over : (skip_value t.number t.wire_type d later ≡ skipped (next - t.next)) × (t.next + (next - t.next) ≡ next)
        over = is_skipped t.next (skip_value t.number t.wire_type d later) f

        pub value_bounds : (t.next < next) × (next ≤ min end (length s))
        value_bounds =
            let z = later in
            skip_place s t.next end (skip_value t.number t.wire_type d z)
            (skip_value_in (length z) t.number (wire_type t.wire_type) d z) f

        pub onward : Walk s n d at end next
        unfolding in_group
        onward =
            let g = tagged in let g₀ = g.0 in let b = inner in let v = over in let v₀ = v.0 in
            let far : t.next - i + (next - t.next) ≡ next - i = omega (arith, tag_bounds, value_bounds) in
            let there : i + (next - i) ≡ next = omega (arith, tag_bounds, value_bounds) in
            let there_on : drop (next - i) left ≡ part s next end = part_drop s i end (next - i) ∙ rw there in
            let q : first ≡ skip_after (next - i) (group_in (pred (length left)) n d (drop (next - i) left)) =
            cc (ne_eqb t.wire_type 4 not_end) in
            let enough : group_in (pred (length left)) n d (part s next end) ≡ skip_group n d (part s next end) =
            skip_group_enough (pred (length left)) n d (part s next end)
            (part_shorter s i next end (omega (arith, tag_bounds, value_bounds)) inside) in
            record {
              rest =
                  walk.rest
                  ∙ rw (opened, q, there_on, enough) (skip_at_after i (next - i) (skip_group n d (part s next end)) ∙ rw there);
            }
