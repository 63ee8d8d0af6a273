-- What holds in each case of an answer holds of a definition that goes by its cases: `Q` is what is known of the answer (of the answer
-- `g` itself it is `λ x. g ≡ x`, by `refl`), `P` what is shown of the definition's value.
-- Assumes nothing.
use Prim.Native.Nat.{ℕ}
use mathlib.Core.Bool.{Bool, true, false}
use Rattle.wire_read.specs.Varint.{VarintResult, got, bad}
use Rattle.wire_read.specs.Tags.{TagResult, field, no_tag, tag_error, LengthResult, bytes, length_error}
use Rattle.wire_read.specs.Skipping.{SkipResult, skipped, skip_error}

module _ {A : Type 0} (P : A → Type 0) where
  pub varint_cases : (Q : VarintResult → Type 0) (g : VarintResult) {x : A} {f : (v used : ℕ) → A} → Q g
      → (Q bad → P x) → ((v used : ℕ) → Q (got v used) → P (f v used))
      → P (elim g [ bad ↦ x | got v used ↦ f v used ])
  varint_cases Q bad q a b = a q
  varint_cases Q (got v used) q a b = b v used q

  pub tag_cases : (Q : TagResult → Type 0) (g : TagResult) {x : A} {y : (code : ℕ) → A} {f : (n w used : ℕ) → A} → Q g
      → (Q no_tag → P x) → ((code : ℕ) → Q (tag_error code) → P (y code)) → ((n w used : ℕ) → Q (field n w used) → P (f n w used))
      → P (elim g [ no_tag ↦ x | tag_error code ↦ y code | field n w used ↦ f n w used ])
  tag_cases Q no_tag q a b c = a q
  tag_cases Q (tag_error code) q a b c = b code q
  tag_cases Q (field n w used) q a b c = c n w used q

  pub length_cases : (Q : LengthResult → Type 0) (g : LengthResult) {x : (code : ℕ) → A} {f : (used size : ℕ) → A} → Q g
      → ((code : ℕ) → Q (length_error code) → P (x code)) → ((used size : ℕ) → Q (bytes used size) → P (f used size))
      → P (elim g [ length_error code ↦ x code | bytes used size ↦ f used size ])
  length_cases Q (length_error code) q a b = a code q
  length_cases Q (bytes used size) q a b = b used size q

  pub skip_cases : (Q : SkipResult → Type 0) (g : SkipResult) {x : (code : ℕ) → A} {f : (used : ℕ) → A} → Q g
      → ((code : ℕ) → Q (skip_error code) → P (x code)) → ((used : ℕ) → Q (skipped used) → P (f used))
      → P (elim g [ skip_error code ↦ x code | skipped used ↦ f used ])
  skip_cases Q (skip_error code) q a b = a code q
  skip_cases Q (skipped used) q a b = b used q

  pub flag_cases : (Q : Bool → Type 0) (b : Bool) {x y : A} → Q b → (Q true → P x) → (Q false → P y) → P (elim b [ true ↦ x | false ↦ y ])
  flag_cases Q true q f g = f q
  flag_cases Q false q f g = g q
