-- A step of the walk: what `wire_read::next_field` answers of the bytes from a place on, and where the next field starts.
use Prim.Native.Nat.{ℕ, ◌+◌, ◌<◌, ◌≤◌, min}
use mathlib.Core.Path.{◌≡◌, refl, sym, ap, subst, ◌∙◌}
use mathlib.Core.List.{List}
use lib.ListN.{length, take, drop, length-drop}
use native.Mathlib.Omega.{arith}
use Rattle.std.specs.Prelude.{Option, Some, None, Result, Ok, Err}
use Rattle.laws.proofs.Booleans.{clash}
use Rattle.laws.proofs.Lists.{drop_take}
use Rattle.wire_read.specs.Part.{part}
use Rattle.wire_read.specs.Fields.{FieldResult, no_field, varint_field, fixed64_field, bytes_field, group_field, fixed32_field, field_error}
use Rattle.wire_read.specs.Fields.{next_field}
use Rattle.wire_read.specs.Placed.{FieldAnswer, field_at}
use Rattle.wire_read.specs.declared.Field.{Field}
use Rattle.wire_read.specs.declared.Field.TheVariants as fields
use Rattle.wire_read.proofs.Answers.{then}
use Rattle.wire_read.proofs.PartLaws.{part_rest}
use Rattle.wire_read.proofs.Bounds.{FieldIn, next_field_in}
use Rattle.wire_read.proofs.Places.{Within, field_place}
use Rattle.wire_walk.specs.Reader.{used_by, place_behind, stepped, step_at}
use Rattle.wire_walk.specs.declared.Step.{Step}

-- the place after a field
abbrev pub behind_of : Field → ℕ
behind_of (fields.Varint n v next) = next
behind_of (fields.Fixed64 n v next) = next
behind_of (fields.Bytes n start size) = start + size
behind_of (fields.Group n next) = next
behind_of (fields.Fixed32 n v next) = next

-- a field with the place after it
abbrev step_of : Option Field → Result (Option Step) ℕ
step_of None = Ok None
step_of (Some f) = Ok (Some (record { field = f; at = behind_of f }))

step_used : (at : ℕ) (f : FieldResult) → then (field_at at f) step_of ≡ stepped (at + used_by f) (field_at at f)
unfolding field_at used_by
step_used at no_field = refl
step_used at (varint_field n v used) = refl
step_used at (fixed64_field n v used) = refl
step_used at (bytes_field n used size) =
    ap (λ (x : ℕ). Ok (Some (record { field = fields.Bytes n (at + used) size; at = x }))) (omega arith)
step_used at (group_field n used) = refl
step_used at (fixed32_field n v used) = refl
step_used at (field_error code) = refl

module _ (s : List ℕ) (at : ℕ) where
  -- what a step is, by what `next_field` answers
  pub step_made : then (field_at at (next_field (part s at (length s)))) step_of ≡ step_at s at
  unfolding step_at place_behind
  step_made = rw (part_rest s at) (step_used at (next_field (drop at s)))

  pub bytes_within : {n start size : ℕ} → Ok (Some (fields.Bytes n start size)) ≡ field_at at (next_field (part s at (length s)))
      → start + size ≤ length s
  bytes_within e =
      let w = subst (Within at (min (length s) (length s))) (sym e) (field_place s at (length s)) in
      omega (arith, w.1)

-- a field ends within the bytes
used_within : (s : List ℕ) (f : FieldResult) → FieldIn s f → used_by f ≤ length s
unfolding used_by
used_within s no_field h = omega arith
used_within s (varint_field n v used) h = h.1
used_within s (fixed64_field n v used) h = h.1
used_within s (bytes_field n used size) h = h.1
used_within s (group_field n used) h = h.1
used_within s (fixed32_field n v used) h = h.1
used_within s (field_error code) h = omega arith

pub used_in : (s : List ℕ) → used_by (next_field s) ≤ length s
used_in s = used_within s (next_field s) (next_field_in s)

-- what a step says of the field at its place
module _ (s : List ℕ) (at : ℕ) where
  abbrev here : FieldResult
  here = next_field (drop at s)

  pub step_end : Ok None ≡ step_at s at → field_at at here ≡ Ok None
  unfolding step_at
  step_end e = by (field_at at here) refl
    where
      by : (x : FieldAnswer) → field_at at here ≡ x → field_at at here ≡ Ok None
      by (Ok None) q = q
      by (Ok (Some f)) q = clash cc
      by (Err code) q = clash cc

  pub step_error : {code : ℕ} → Err code ≡ step_at s at → field_at at here ≡ Err code
  unfolding step_at
  step_error {code = code} e = by (field_at at here) refl
    where
      by : (x : FieldAnswer) → field_at at here ≡ x → field_at at here ≡ Err code
      by (Ok None) q = clash cc
      by (Ok (Some f)) q = clash cc
      by (Err code') q = cc

  pub step_some : {x : Step} → Ok (Some x) ≡ step_at s at
      → (field_at at here ≡ Ok (Some x.field)) × (x.at ≡ place_behind s at) × (x.at ≡ behind_of x.field)
  unfolding step_at place_behind
  step_some {x = x} e = by (field_at at here) refl
    where
      by : (y : FieldAnswer) → field_at at here ≡ y
          → (field_at at here ≡ Ok (Some x.field)) × (x.at ≡ place_behind s at) × (x.at ≡ behind_of x.field)
      by (Ok None) q = clash cc
      by (Ok (Some f)) q =
          let g : x ≡ record { field = f; at = place_behind s at } = cc in
          let h : f ≡ x.field = ap (λ (y : Step). y.field) (sym g) in
          let made : ◌≡◌ {A = Result (Option Step) ℕ} (Ok (Some (record { field = f; at = behind_of f }))) (Ok (Some x)) =
          ap (λ (y : FieldAnswer). then y step_of) (sym q) ∙ step_used at here ∙ sym e in
          let k : record { field = f; at = behind_of f } ≡ x = cc in (
            q ∙ ap (λ (f : Field). Ok (Some f)) h,
            ap (λ (y : Step). y.at) g,
            ap (λ (y : Step). y.at) (sym k) ∙ ap behind_of h,
          )
      by (Err code) q = clash cc

-- a field takes a byte; the end and a refusal none
pub used_some : (s : List ℕ) (at : ℕ) {f : Field} → field_at at (next_field s) ≡ Ok (Some f) → 0 < used_by (next_field s)
unfolding field_at used_by
used_some s at {f = f} e = by (next_field s) e (next_field_in s)
  where
    by : (g : FieldResult) → field_at at g ≡ Ok (Some f) → FieldIn s g → 0 < used_by g
    by no_field q h = clash cc
    by (varint_field n v used) q h = h.0
    by (fixed64_field n v used) q h = h.0
    by (bytes_field n used size) q h = omega arith
    by (group_field n used) q h = h.0
    by (fixed32_field n v used) q h = h.0
    by (field_error code) q h = clash cc

pub used_none : (at : ℕ) (g : FieldResult) → field_at at g ≡ Ok None → used_by g ≡ 0
unfolding field_at used_by
used_none at no_field q = refl
used_none at (varint_field n v used) q = clash cc
used_none at (fixed64_field n v used) q = clash cc
used_none at (bytes_field n used size) q = clash cc
used_none at (group_field n used) q = clash cc
used_none at (fixed32_field n v used) q = clash cc
used_none at (field_error code) q = clash cc

pub used_error : (at : ℕ) (g : FieldResult) {code : ℕ} → field_at at g ≡ Err code → used_by g ≡ 0
unfolding field_at used_by
used_error at no_field q = clash cc
used_error at (varint_field n v used) q = clash cc
used_error at (fixed64_field n v used) q = clash cc
used_error at (bytes_field n used size) q = clash cc
used_error at (group_field n used) q = clash cc
used_error at (fixed32_field n v used) q = clash cc
used_error at (field_error code) q = refl

-- a reader that moves stays within the bytes
pub place_within : (s : List ℕ) (at : ℕ) → at < place_behind s at → place_behind s at ≤ length s
unfolding place_behind
place_within s at h = omega (arith, used_in (drop at s), length-drop at s)

-- a reader of the bytes up to place `end` finds what `wire_read::next_field` finds in the part that ends there
pub part_found : (s : List ℕ) (at end : ℕ) → field_at at (next_field (drop at (take end s))) ≡ field_at at (next_field (part s at end))
part_found s at end = ap (λ (l : List ℕ). field_at at (next_field l)) (drop_take at end s)
