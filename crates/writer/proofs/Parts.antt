-- A part of Init that is present is its tag, its size and its fields.
use Prim.Native.Nat.{ℕ, ◌+◌}
use mathlib.Core.Path.{◌≡◌, refl, sym, ap, ◌∙◌}
use mathlib.Core.Bool.{true}
use mathlib.Core.List.{List, ◌∷◌, ◌++◌}
use lib.ListN.{length, get_or, length-append}
use native.Mathlib.Omega.{arith}
use borrow.Author.Tests.{ne_eqb, le-leb}
use Rattle.wire_write.specs.Writing.{put_varint}
use Rattle.schema.specs.Schema.{request_meta, response_meta}
use Rattle.decoder.specs.Rows.{Row}
use Rattle.writer_checks.specs.Grounds.{spans_within, rows_within}
use Rattle.writer.specs.Straight.{request_meta_length, response_meta_length}
use Rattle.writer.specs.Straight.{MetaIn, SpanIn, size_by, small_tags, put_request_part, put_response_part, request_meta_bytes, response_meta_bytes}
use Rattle.writer.proofs.Pieces.{bytes_are, request_meta_length_lem, response_meta_length_lem}
use Rattle.writer.proofs.Measures.{sized_by}

module _ (size : ℕ) (slots : List ℕ) where
  request_within : MetaIn size slots → spans_within size request_meta 1 slots ≡ true
  unfolding spans_within
  request_within spans = rw (le-leb _ size spans.0, le-leb _ size spans.1, le-leb _ size spans.2)

  response_within : SpanIn size slots 10 → spans_within size response_meta 9 slots ≡ true
  unfolding spans_within
  response_within span = rw (le-leb _ size span)

small : (small_tags request_meta ≡ true) × (small_tags response_meta ≡ true)
unfolding small_tags
small = (refl, refl)

module _ (slots : List ℕ) (rows : List Row) (source : List ℕ) (in_source : rows_within (length source) rows ≡ true) where
  pub request_whole : MetaIn (length source) slots → (get_or slots 0 0 ≡ 0 → ⊥) → (size : ℕ) → size
      ≡ size_by rows request_meta 1 slots
      → put_request_part source rows slots ≡ (10 ∷ put_varint size) ++ request_meta_bytes source rows slots
  request_whole spans present size is_size =
      let same : size ≡ length (request_meta_bytes source rows slots) = is_size
      ∙ sym (sized_by source rows slots in_source request_meta 1 small.0
      (request_within (length source) slots spans)) in
      rw (ne_eqb (get_or slots 0 0) 0 present, same) (bytes_are 1 (omega arith)
      (request_meta_bytes source rows slots))

  pub response_whole : SpanIn (length source) slots 10 → (get_or slots 8 0 ≡ 0 → ⊥) → (size : ℕ) → size
      ≡ size_by rows response_meta 9 slots
      → put_response_part source rows slots ≡ (18 ∷ put_varint size) ++ response_meta_bytes source rows slots
  response_whole span present size is_size =
      let same : size ≡ length (response_meta_bytes source rows slots) = is_size
      ∙ sym (sized_by source rows slots in_source response_meta 9 small.1
      (response_within (length source) slots span)) in
      rw (ne_eqb (get_or slots 8 0) 0 present, same) (bytes_are 2 (omega arith)
      (response_meta_bytes source rows slots))

  -- how long that is
  pub request_room : MetaIn (length source) slots → (get_or slots 0 0 ≡ 0 → ⊥) → (size : ℕ) → size
      ≡ size_by rows request_meta 1 slots
      → length (put_request_part source rows slots)
      ≡ 1 + length (put_varint size) + request_meta_length source rows slots
  request_room spans present size is_size =
      omega (
        arith,
        ap length (request_whole spans present size is_size),
        length-append (10 ∷ put_varint size) (request_meta_bytes source rows slots),
        request_meta_length_lem source rows slots,
      )

  pub response_room : SpanIn (length source) slots 10 → (get_or slots 8 0 ≡ 0 → ⊥) → (size : ℕ) → size
      ≡ size_by rows response_meta 9 slots
      → length (put_response_part source rows slots) ≡ 1 + length (put_varint size) + response_meta_length source slots
  response_room span present size is_size =
      omega (
        arith,
        ap length (response_whole span present size is_size),
        length-append (18 ∷ put_varint size) (response_meta_bytes source rows slots),
        response_meta_length_lem source rows slots,
      )
