-- What an answer of the code says of the reading that it places, case by case, and that the place moves with the bytes read; and what a
-- caller answers that passes a refusal on.
use Prim.Native.Nat.{ℕ, ◌+◌, ◌-◌}
use mathlib.Core.Path.{◌≡◌, refl, sym, ap, ◌∙◌}
use native.Mathlib.Omega.{arith}
use Rattle.std.specs.Prelude.{Option, Some, None, Result, Ok, Err, IsErr, IsErrAnd}
use Rattle.laws.proofs.Booleans.{clash}
use Rattle.refusals.specs.Refusals.{number, in_numbers}
use Rattle.refusals.specs.declared.Refusal.{Refusal}
use Rattle.wire_read.specs.Varint.{VarintResult, got, bad}
use Rattle.wire_read.specs.Tags.{TagResult, field, no_tag, tag_error, LengthResult, bytes, length_error}
use Rattle.wire_read.specs.Skipping.{SkipResult, skipped, skip_error, skip_after}
use Rattle.wire_read.specs.Fields.{FieldResult, no_field, varint_field, fixed64_field, bytes_field, group_field, fixed32_field}
use Rattle.wire_read.specs.Fields.{field_error, field_after}
use Rattle.wire_read.specs.Placed.{varint_at, tag_at, length_at, skip_at, field_at}
use Rattle.wire_read.specs.declared.Varint.{Varint}
use Rattle.wire_read.specs.declared.Tag.{Tag}
use Rattle.wire_read.specs.declared.Length.{Length}
use Rattle.wire_read.specs.declared.Field.{Field}
use Rattle.wire_read.specs.declared.Field.TheVariants as fields

-- ---- an answer in the papers' numbers
module _ {A : Type 0} {r : Result A Refusal} {x : Result A ℕ} (is : in_numbers r ≡ x) where
  pub found_as : {a : A} → r ≡ Ok a → Ok a ≡ x
  found_as e = ap in_numbers (sym e) ∙ is

  pub refused_as : {e : Refusal} → r ≡ Err e → Err (number e) ≡ x
  refused_as e = ap in_numbers (sym e) ∙ is

-- the `?` of a refusal
pub refused_by : {A : Type 0} (e : Refusal) (o : Result A Refusal) → IsErr o × IsErrAnd o (λ (e' : Refusal). e' ≡ e)
    → in_numbers o ≡ Err (number e)
refused_by e (Ok a) h = absurd h.1
refused_by e (Err e') h = ap (λ (x : Refusal). Err (number x)) h.1

-- what is done with an answer, where it is no refusal
abbrev pub then : {A B : Type 0} → Result A ℕ → (A → Result B ℕ) → Result B ℕ
then (Ok a) f = f a
then (Err code) f = Err code

module _ {A B : Type 0} {r : Result A Refusal} {x : Result A ℕ} (is : in_numbers r ≡ x) {y : Result B ℕ} (f : A → Result B ℕ) (made : then x f ≡ y)
  where
    pub passed_on : {e : Refusal} → r ≡ Err e → (o : Result B Refusal) → IsErr o × IsErrAnd o (λ (e' : Refusal). e' ≡ e) → in_numbers o ≡ y
    passed_on e o h = refused_by _ o h ∙ ap (λ (o : Result A ℕ). then o f) (refused_as is e) ∙ made

    pub goes_on : {a : A} → r ≡ Ok a → f a ≡ y
    goes_on e = ap (λ (o : Result A ℕ). then o f) (found_as is e) ∙ made

-- ---- the reading in each case of its answer
module _ (at : ℕ) where
  pub is_bad_lem : {code : ℕ} (g : VarintResult) → Err code ≡ varint_at at g → (g ≡ bad) × (code ≡ 10)
  unfolding varint_at
  is_bad_lem (got v used) p = clash cc
  is_bad_lem bad p = (refl, cc)

  pub is_got : {v : Varint} (g : VarintResult) → Ok v ≡ varint_at at g
      → (g ≡ got v.value (v.next - at)) × (at + (v.next - at) ≡ v.next)
  unfolding varint_at
  is_got {v = v} (got v' used) p =
      let e : v ≡ record { value = v'; next = at + used } = cc in
      let a : v.value ≡ v' = ap (λ (x : Varint). x.value) e in
      let b : v.next ≡ at + used = ap (λ (x : Varint). x.next) e in
      let u : v.next - at ≡ used = omega arith in
      (cc, omega arith)
  is_got bad p = clash cc

  pub is_no_tag : (g : TagResult) → Ok None ≡ tag_at at g → g ≡ no_tag
  unfolding tag_at
  is_no_tag no_tag p = refl
  is_no_tag (tag_error code) p = clash cc
  is_no_tag (field n w used) p = clash cc

  pub is_tag_error : {code : ℕ} (g : TagResult) → Err code ≡ tag_at at g → g ≡ tag_error code
  unfolding tag_at
  is_tag_error no_tag p = clash cc
  is_tag_error (tag_error code) p = cc
  is_tag_error (field n w used) p = clash cc

  pub is_field : {t : Tag} (g : TagResult) → Ok (Some t) ≡ tag_at at g
      → (g ≡ field t.number t.wire_type (t.next - at)) × (at + (t.next - at) ≡ t.next)
  unfolding tag_at
  is_field {t = t} (field n w used) p =
      let e : t ≡ record { number = n; wire_type = w; next = at + used } = cc in
      let a : t.number ≡ n = ap (λ (x : Tag). x.number) e in
      let k : t.wire_type ≡ w = ap (λ (x : Tag). x.wire_type) e in
      let b : t.next ≡ at + used = ap (λ (x : Tag). x.next) e in
      let u : t.next - at ≡ used = omega arith in
      (cc, omega arith)
  is_field no_tag p = clash cc
  is_field (tag_error code) p = clash cc

  pub is_bytes : {l : Length} (g : LengthResult) → Ok l ≡ length_at at g
      → (g ≡ bytes (l.start - at) l.size) × (at + (l.start - at) ≡ l.start)
  unfolding length_at
  is_bytes {l = l} (bytes used size) p =
      let e : l ≡ record { start = at + used; size = size } = cc in
      let a : l.size ≡ size = ap (λ (x : Length). x.size) e in
      let b : l.start ≡ at + used = ap (λ (x : Length). x.start) e in
      let u : l.start - at ≡ used = omega arith in
      (cc, omega arith)
  is_bytes (length_error code) p = clash cc

  pub is_skip_error : {code : ℕ} (g : SkipResult) → Err code ≡ skip_at at g → g ≡ skip_error code
  unfolding skip_at
  is_skip_error (skipped used) p = clash cc
  is_skip_error (skip_error code) p = cc

  pub is_skipped : {next : ℕ} (g : SkipResult) → Ok next ≡ skip_at at g → (g ≡ skipped (next - at)) × (at + (next - at) ≡ next)
  unfolding skip_at
  is_skipped {next = next} (skipped used) p =
      let b : next ≡ at + used = cc in
      let u : next - at ≡ used = omega arith in
      (cc, omega arith)
  is_skipped (skip_error code) p = clash cc

-- what follows `n` bytes is `n` places further on
pub skip_at_after : (at n : ℕ) (o : SkipResult) → skip_at at (skip_after n o) ≡ skip_at (at + n) o
unfolding skip_at skip_after
skip_at_after at n (skipped used) = ap Ok (omega arith)
skip_at_after at n (skip_error code) = refl

abbrev found : Field → Result (Option Field) ℕ
found f = Ok (Some f)

pub field_at_after : (at n : ℕ) (f : FieldResult) → field_at at (field_after n f) ≡ field_at (at + n) f
unfolding field_at field_after
field_at_after at n no_field = refl
field_at_after at n (varint_field m v used) = ap (λ (x : ℕ). found (fields.Varint m v x)) (omega arith)
field_at_after at n (fixed64_field m v used) = ap (λ (x : ℕ). found (fields.Fixed64 m v x)) (omega arith)
field_at_after at n (bytes_field m used size) = ap (λ (x : ℕ). found (fields.Bytes m x size)) (omega arith)
field_at_after at n (group_field m used) = ap (λ (x : ℕ). found (fields.Group m x)) (omega arith)
field_at_after at n (fixed32_field m v used) = ap (λ (x : ℕ). found (fields.Fixed32 m v x)) (omega arith)
field_at_after at n (field_error code) = refl

-- The field that an answer of `next_field` at place `at` is about.
abbrev pub field_of : ℕ → Result (Option Field) ℕ → FieldResult
field_of at (Ok None) = no_field
field_of at (Ok (Some (fields.Varint n v after))) = varint_field n v (after - at)
field_of at (Ok (Some (fields.Fixed64 n v after))) = fixed64_field n v (after - at)
field_of at (Ok (Some (fields.Bytes n start size))) = bytes_field n (start - at) size
field_of at (Ok (Some (fields.Group n after))) = group_field n (after - at)
field_of at (Ok (Some (fields.Fixed32 n v after))) = fixed32_field n v (after - at)
field_of at (Err code) = field_error code

field_of_at : (at : ℕ) (f : FieldResult) → f ≡ field_of at (field_at at f)
unfolding field_at
field_of_at at no_field = refl
field_of_at at (varint_field n v used) = ap (varint_field n v) (omega arith)
field_of_at at (fixed64_field n v used) = ap (fixed64_field n v) (omega arith)
field_of_at at (bytes_field n used size) = ap (λ (x : ℕ). bytes_field n x size) (omega arith)
field_of_at at (group_field n used) = ap (group_field n) (omega arith)
field_of_at at (fixed32_field n v used) = ap (fixed32_field n v) (omega arith)
field_of_at at (field_error code) = refl

-- in each of its cases, `q` a constructor with its values
pub is_field_of : (at : ℕ) {q : Result (Option Field) ℕ} (f : FieldResult) → q ≡ field_at at f → f ≡ field_of at q
is_field_of at f p = field_of_at at f ∙ ap (field_of at) (sym p)
