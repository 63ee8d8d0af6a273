-- Each test of the writer, and the ground on which it fails
use Prim.Native.Nat.{ℕ, ◌+◌}
use mathlib.Core.Path.{◌≡◌, refl, sym, ◌∙◌}
use mathlib.Core.Logic.{◌⊎◌, inl, inr}
use mathlib.Core.Bool.{Bool, true, false, true≢false, not, and-true, ◌&&◌, ◌||◌}
use mathlib.Core.List.{List, [], ◌∷◌, ◌++◌}
use borrow.Author.Tests.{eqb-true, eqb-false}
use lib.Dec.{eqb, leb, leb-zero}
use lib.ListN.{length, get_or}
use Rattle.schema.specs.Schema.{Schema, done, number, bytes, map, message, width}
use Rattle.decoder.specs.Rows.{Row}
use Rattle.decoder.specs.Fields.{part_of, same_bytes}
use Rattle.schema.specs.Kinds.{schema_of}
use Rattle.records.specs.Records.{attachment_size_of}
use Rattle.schema.specs.declared.Kind.{Kind}
use Rattle.schema.specs.declared.Kind.TheVariants as kinds
use Rattle.records.specs.declared.Span.{Span}
use Rattle.records.specs.declared.Record.{Record}
use Rattle.records.specs.declared.Record.TheVariants as records
use Rattle.decoder.proofs.RowLaws.{same_true, same_equal, length_rows_in}
use Rattle.records.specs.Content.{kind_of, row_count, mark, slots_of}
use Rattle.writer_checks.specs.Grounds.{spans_within, rows_within, no_key, keys_differ, all_zero, absent_ok, body_ok}
use Rattle.writer.specs.Writing.{rows_of}
use Rattle.refusals.specs.Grounds.{Some}
use Rattle.refusals.proofs.Tests.{Told, Tests, restated, both_pass, never, at_most}
use Rattle.thm_round_trip.specs.Refusals.{record_spans, SpanPast, RowPast, keys_of, ComesAgain, AllZero}
use Rattle.thm_round_trip.specs.Refusals.{AbsentNotZero, request_meta_numbers, response_meta_numbers, PartNotZero, has_body}

-- ---- 17
module _ {A : Type 0} (P : A → Type 0) where
  some_split : (xs ys : List A) → Some P (xs ++ ys) → Some P xs ⊎ Some P ys
  some_split [] ys h = inr h
  some_split (x ∷ xs) ys (inl p) = inl (inl p)
  some_split (x ∷ xs) ys (inr h) = by (some_split xs ys h)
    where
      by : Some P xs ⊎ Some P ys → (P x ⊎ Some P xs) ⊎ Some P ys
      by (inl a) = inl (inr a)
      by (inr b) = inr b

  some_join : (xs ys : List A) → Some P xs ⊎ Some P ys → Some P (xs ++ ys)
  some_join [] ys (inl h) = absurd h
  some_join [] ys (inr h) = h
  some_join (x ∷ xs) ys (inl (inl p)) = inl p
  some_join (x ∷ xs) ys (inl (inr h)) = inr (some_join xs ys (inl h))
  some_join (x ∷ xs) ys (inr h) = inr (some_join xs ys (inr h))

spans_in : Schema → (i : ℕ) → (slots : List ℕ) → List Span
spans_in done i slots = []
spans_in (number type n name more) i slots = spans_in more (i + 1) slots
spans_in (bytes n name more) i slots = record { start = get_or slots i 0; len = get_or slots (i + 1) 0 } ∷ spans_in more (i + 2) slots
spans_in (map n name more) i slots = spans_in more i slots
spans_in (message n name inner more) i slots = spans_in inner (i + 1) slots ++ spans_in more (i + 1 + width inner) slots

spans_are : (r : Record) → spans_in (schema_of (kind_of r)) 0 (slots_of r) ≡ record_spans r
unfolding spans_in kind_of slots_of width
spans_are (records.Request r) = refl
spans_are (records.Response r) = refl
spans_are (records.Init r) = refl
spans_are (records.Data r) = refl
spans_are (records.Feedback r) = refl
spans_are (records.Close r) = refl

module _ (source : List ℕ) where
  spans_within_lem : (sch : Schema) (i : ℕ) (slots : List ℕ)
      → Tests (spans_within (length source) sch i slots) (Some (SpanPast source) (spans_in sch i slots))
  unfolding spans_within spans_in
  spans_within_lem done i slots = never
  spans_within_lem (number type n name more) i slots = spans_within_lem more (i + 1) slots
  spans_within_lem (bytes n name more) i slots =
      both_pass (at_most (get_or slots i 0 + get_or slots (i + 1) 0) (length source)) (spans_within_lem more (i + 2) slots)
  spans_within_lem (map n name more) i slots = spans_within_lem more i slots
  spans_within_lem (message n name inner more) i slots =
      let first = spans_in inner (i + 1) slots in
      let later = spans_in more (i + 1 + width inner) slots in
      restated (some_join (SpanPast source) first later) (some_split (SpanPast source) first later)
      (both_pass (spans_within_lem inner (i + 1) slots) (spans_within_lem more (i + 1 + width inner) slots))

  pub spans_ok : (r : Record)
      → Tests (spans_within (length source) (schema_of (kind_of r)) 0 (slots_of r)) (Some (SpanPast source) (record_spans r))
  spans_ok r = rw (spans_are r) at (spans_within_lem (schema_of (kind_of r)) 0 (slots_of r))

  pub rows_ok_lem : (rows : List Row) → Tests (rows_within (length source) rows) (Some (RowPast source) rows)
  unfolding rows_within
  rows_ok_lem [] = never
  rows_ok_lem (row ∷ rows) =
      both_pass (both_pass (at_most (row.key + row.key_size) (length source)) (at_most (row.value + row.value_size) (length source))) (rows_ok_lem rows)

  -- ---- 18: equal keys
  other_key : (a b : List ℕ) → Tests (not (same_bytes a b)) (a ≡ b)
  other_key a b = record { told = by (same_bytes a b) refl }
    where
      by : (same : Bool) → same_bytes a b ≡ same → Told (not (not same)) (a ≡ b)
      by true e = same_equal a b e
      by false e = λ g. true≢false (sym (same_true a b g) ∙ e)

  no_key_lem : (key : List ℕ) (rows : List Row) → Tests (no_key source key rows) (Some (λ (other : List ℕ). other ≡ key) (keys_of source rows))
  unfolding no_key
  no_key_lem key [] = never
  no_key_lem key (row ∷ rows) = both_pass (other_key (part_of source row.key row.key_size) key) (no_key_lem key rows)

  pub keys_ok : (rows : List Row) → Tests (keys_differ source rows) (ComesAgain (keys_of source rows))
  unfolding keys_differ
  keys_ok [] = never
  keys_ok (row ∷ rows) = both_pass (no_key_lem (part_of source row.key row.key_size) rows) (keys_ok rows)

-- ---- 18: an absent part
zeros_ok : List ℕ → Bool
zeros_ok [] = true
zeros_ok (n ∷ ns) = eqb n 0 && zeros_ok ns

zeros_ok_lem : (ns : List ℕ) → Told (not (zeros_ok ns)) (AllZero ns → ⊥)
unfolding zeros_ok
zeros_ok_lem [] = λ k. k tt
zeros_ok_lem (n ∷ ns) = by (eqb n 0) (zeros_ok ns) refl (zeros_ok_lem ns)
  where
    by : (z ok : Bool) → eqb n 0 ≡ z → Told (not ok) (AllZero ns → ⊥) → Told (not (z && ok)) (AllZero (n ∷ ns) → ⊥)
    by true true e q = λ k. q (λ zs. k (eqb-true n 0 e, zs))
    by true false e q = λ zs. q zs.1
    by false ok e q = λ zs. eqb-false n 0 e zs.0

absent_ok_lem : (present : Bool) (ns : List ℕ) → Tests (not (eqb (mark present) 0) || zeros_ok ns) (AbsentNotZero present ns)
absent_ok_lem true ns = record { told = λ g. true≢false g.0 }
absent_ok_lem false ns = restated (λ k. (refl, k)) (λ g. g.1) (record { told = zeros_ok_lem ns })

pub parts_ok : (r : Record) (numbers : List ℕ) → Tests (absent_ok (rows_of r numbers) (schema_of (kind_of r)) 0 (slots_of r)) (PartNotZero r)
unfolding absent_ok all_zero kind_of slots_of row_count width zeros_ok
parts_ok (records.Request r) numbers = never
parts_ok (records.Response r) numbers = never
parts_ok (records.Init r) numbers =
    let second = absent_ok_lem r.response_meta.present (response_meta_numbers r) in
    rw (length_rows_in r.rows numbers) (both_pass (absent_ok_lem r.request_meta.present (request_meta_numbers r)) (rw (and-true _) second))
parts_ok (records.Data r) numbers = never
parts_ok (records.Feedback r) numbers = never
parts_ok (records.Close r) numbers = never

-- ---- 15
pub body_tests : (kind : Kind) (slots : List ℕ) (size : ℕ)
    → body_ok kind slots size ≡ leb (attachment_size_of kind slots) size && (has_body kind || eqb size 0)
unfolding body_ok attachment_size_of has_body
body_tests kinds.Request slots size = sym (and-true _)
body_tests kinds.Response slots size = sym (and-true _)
body_tests kinds.Init slots size = rw (leb-zero size)
body_tests kinds.Data slots size = rw (leb-zero size)
body_tests kinds.Feedback slots size = rw (leb-zero size)
body_tests kinds.Close slots size = rw (leb-zero size)
