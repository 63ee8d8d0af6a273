-- What `contents` and `skipping` make of an answer is what the definitions make of the reading that the answer places.
-- Assumes nothing.
use Prim.Native.Nat.{ℕ, ◌+◌}
use mathlib.Core.Path.{◌≡◌, refl, sym, ap, ◌∙◌}
use mathlib.Core.List.{List}
use native.Mathlib.Omega.{arith}
use Rattle.std.specs.Prelude.{Option, Some, Result, Ok}
use Rattle.wire_read.specs.Varint.{VarintResult, varint}
use Rattle.wire_read.specs.Tags.{VARINT, LEN, SGROUP, wire_type, LengthResult, length_prefix}
use Rattle.wire_read.specs.Skipping.{SkipResult, skip_varint, skip_bytes, skip_value}
use Rattle.wire_read.specs.Fields.{FieldResult, content}
use Rattle.wire_read.specs.Placed.{varint_at, length_at, skip_at, field_at}
use Rattle.wire_read.specs.declared.Varint.{Varint}
use Rattle.wire_read.specs.declared.Length.{Length}
use Rattle.wire_read.specs.declared.Field.{Field}
use Rattle.wire_read.specs.declared.Field.TheVariants as fields
use Rattle.wire_read.proofs.Cases.{varint_cases, length_cases, skip_cases}
use Rattle.wire_read.proofs.Answers.{then}

-- the content of a field, made of what was read
abbrev found : Field → Result (Option Field) ℕ
found f = Ok (Some f)

abbrev number_of : ℕ → Varint → Result (Option Field) ℕ
number_of n v = found (fields.Varint n v.value v.next)

abbrev bytes_of : ℕ → Length → Result (Option Field) ℕ
bytes_of n l = found (fields.Bytes n l.start l.size)

abbrev group_of : ℕ → ℕ → Result (Option Field) ℕ
group_of n next = found (fields.Group n next)

-- the place after what was skipped
abbrev after_varint : Varint → Result ℕ ℕ
after_varint v = Ok v.next

abbrev after_bytes : Length → Result ℕ ℕ
after_bytes l = Ok (l.start + l.size)

module _ (at : ℕ) (s : List ℕ) where
  abbrev read : Result Varint ℕ
  read = varint_at at (varint s)

  abbrev announced : Result Length ℕ
  announced = length_at at (length_prefix s)

  pub varint_skipped : then read after_varint ≡ skip_at at (skip_varint s)
  unfolding skip_varint skip_at varint_at
  varint_skipped =
      varint_cases (λ (x : SkipResult). then read after_varint ≡ skip_at at x) (λ (g : VarintResult). varint s ≡ g) (varint s) refl
      (λ e. rw e) (λ v used e. rw e)

  pub bytes_skipped : then announced after_bytes ≡ skip_at at (skip_bytes s)
  unfolding skip_bytes skip_at length_at
  bytes_skipped =
      length_cases (λ (x : SkipResult). then announced after_bytes ≡ skip_at at x) (λ (g : LengthResult). length_prefix s ≡ g)
      (length_prefix s) refl (λ code e. rw e) (λ used size e. rw e (ap Ok (omega arith)))

  module _ (n : ℕ) where
    abbrev skips : Result ℕ ℕ
    skips = skip_at at (skip_value n 3 32 s)

    pub varint_made : then read (number_of n) ≡ field_at at (content n VARINT s)
    unfolding content field_at varint_at
    varint_made =
        varint_cases (λ (x : FieldResult). then read (number_of n) ≡ field_at at x) (λ (g : VarintResult). varint s ≡ g) (varint s) refl
        (λ e. rw e) (λ v used e. rw e)

    pub bytes_made : then announced (bytes_of n) ≡ field_at at (content n LEN s)
    unfolding content field_at length_at
    bytes_made =
        length_cases (λ (x : FieldResult). then announced (bytes_of n) ≡ field_at at x) (λ (g : LengthResult). length_prefix s ≡ g)
        (length_prefix s) refl (λ code e. rw e) (λ used size e. rw e)

    pub group_made : then skips (group_of n) ≡ field_at at (content n SGROUP s)
    unfolding content field_at skip_at wire_type
    group_made =
        skip_cases (λ (x : FieldResult). then skips (group_of n) ≡ field_at at x) (λ (g : SkipResult). skip_value n 3 32 s ≡ g)
        (skip_value n 3 32 s) refl (λ code e. rw e) (λ used e. rw e)

-- The same of the answer of a call, and of a case of it with its values
module _ (at : ℕ) (s : List ℕ) (n : ℕ) where
  pub varint_field_lem : {r q : Result Varint ℕ} → r ≡ varint_at at (varint s) → r ≡ q
      → then q (number_of n) ≡ field_at at (content n VARINT s)
  varint_field_lem is_r e = ap (λ (x : Result Varint ℕ). then x (number_of n)) (sym e ∙ is_r) ∙ varint_made at s n

  pub bytes_field_lem : {r q : Result Length ℕ} → r ≡ length_at at (length_prefix s) → r ≡ q
      → then q (bytes_of n) ≡ field_at at (content n LEN s)
  bytes_field_lem is_r e = ap (λ (x : Result Length ℕ). then x (bytes_of n)) (sym e ∙ is_r) ∙ bytes_made at s n

  pub group_field_lem : {r q : Result ℕ ℕ} → r ≡ skip_at at (skip_value n 3 32 s) → r ≡ q
      → then q (group_of n) ≡ field_at at (content n SGROUP s)
  group_field_lem is_r e = ap (λ (x : Result ℕ ℕ). then x (group_of n)) (sym e ∙ is_r) ∙ group_made at s n
