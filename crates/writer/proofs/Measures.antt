-- The sizes are the lengths: one law for every schema.
use Prim.Native.Nat.{ℕ, ◌+◌, ◌≤◌, ◌<◌}
use mathlib.Core.Path.{◌≡◌, refl, ap, ◌∙◌}
use mathlib.Core.Bool.{Bool, true, false, cond, ◌&&◌}
use mathlib.Core.List.{List, [], ◌∷◌, ◌++◌}
use lib.ListN.{length, get_or, length-append}
use lib.Dec.{eqb, ltb, leb}
use native.Mathlib.Omega.{arith}
use borrow.Author.Tests.{eq-eqb, ne_eqb, leb-true, ltb-true}
use Rattle.laws.proofs.Booleans.{both}
use Rattle.wire_write.specs.Writing.{put_varint, put_tag, put_bytes}
use Rattle.schema.specs.Schema.{Integer, request_meta, response_meta, init, Schema, done, number, bytes, map, message, width}
use Rattle.decoder.specs.Rows.{Row}
use Rattle.decoder.specs.Fields.{part_of}
use Rattle.writer_checks.specs.Grounds.{spans_within, rows_within}
use Rattle.writer.specs.Encoding.{wide, put_number, put_some, put_entry, put_rows, put_fields}
use Rattle.writer.specs.Straight.{RowIn, put_part}
use Rattle.writer.specs.Straight.{tagged, number_size, size_if, rows_sum, row_size, size_by, small_tags, stream_size}
use Rattle.writer.proofs.Pieces.{part_length, tag_one, bytes_length, some_length, entry_length}

-- ---- one field
module _ (mark size : ℕ) where
  pub size_none : mark ≡ 0 → 0 ≡ size_if mark size
  unfolding size_if
  size_none e = rw (eq-eqb mark 0 e)

  pub size_some : (mark ≡ 0 → ⊥) → tagged size ≡ size_if mark size
  unfolding size_if
  size_some k = rw (ne_eqb mark 0 k)

number_sized : (type : Integer) (n v : ℕ) → n < 15 → length (put_number type n v) ≡ number_size type v
unfolding put_number number_size
number_sized type n v h = by (eqb v 0)
  where
    by : (b : Bool) → length (cond b [] (put_tag n 0 ++ put_varint (wide type v))) ≡ cond b 0 (1 + length (put_varint (wide type v)))
    by true = refl
    by false = omega (arith, length-append (put_tag n 0) (put_varint (wide type v)), ap length (tag_one n 0 (omega arith)))

some_sized : (n : ℕ) (source : List ℕ) (start size : ℕ) → n < 15 → start + size ≤ length source
    → length (put_some n (part_of source start size)) ≡ size_if size size
unfolding put_some size_if
some_sized n source start size h k =
    some_length n h (eqb (length (part_of source start size)) 0) (part_of source start size) ∙ rw (part_length source start size k)

part_sized : (n mark : ℕ) (x : List ℕ) (size : ℕ) → n < 15 → length x ≡ size → length (put_part n mark x) ≡ size_if mark size
unfolding size_if
part_sized n mark x size h e = some_length n h (eqb mark 0) x ∙ rw e

-- the first row and the others
pub row_and : (size : ℕ) (row : Row) (rows : List Row) → rows_within size (row ∷ rows) ≡ true → RowIn size row × (rows_within size rows ≡ true)
unfolding rows_within
row_and size row rows e =
    let a = both _ _ e in
    let b = both _ _ a.0 in
    ((leb-true _ _ b.0, leb-true _ _ b.1), a.1)

rows_sized : (source : List ℕ) (n : ℕ) → n < 15 → (rows : List Row) → rows_within (length source) rows ≡ true
    → length (put_rows source n rows) ≡ rows_sum row_size rows
unfolding put_rows rows_sum
rows_sized source n h [] e = refl
rows_sized source n h (row ∷ rows) e =
    let a = row_and (length source) row rows e in
    length-append (put_bytes n (put_entry source row)) (put_rows source n rows)
    ∙ rw (bytes_length n h (put_entry source row), entry_length source row a.0, rows_sized source n h rows a.1)

-- ---- a message
module _ (source : List ℕ) (rows : List Row) (slots : List ℕ) (in_source : rows_within (length source) rows ≡ true) where
  pub sized_by : (schema : Schema) (i : ℕ) → small_tags schema ≡ true → spans_within (length source) schema i slots ≡ true
      → length (put_fields source rows schema i slots) ≡ size_by rows schema i slots
  unfolding put_fields size_by small_tags spans_within
  sized_by done i h k = refl
  sized_by (number type n name more) i h k =
      let small = both (ltb n 15) (small_tags more) h in
      let v = get_or slots i 0 in
      let here = number_sized type n v (ltb-true n 15 small.0) in
      let rest = sized_by more (i + 1) small.1 k in
      length-append (put_number type n v) (put_fields source rows more (i + 1) slots) ∙ rw (here, rest)
  sized_by (bytes n name more) i h k =
      let small = both (ltb n 15) (small_tags more) h in
      let start = get_or slots i 0 in
      let size = get_or slots (i + 1) 0 in
      let spans = both (leb (start + size) (length source)) (spans_within (length source) more (i + 2) slots) k in
      let here = some_sized n source start size (ltb-true n 15 small.0) (leb-true _ _ spans.0) in
      let rest = sized_by more (i + 2) small.1 spans.1 in
      length-append (put_some n (part_of source start size)) (put_fields source rows more (i + 2) slots) ∙ rw (here, rest)
  sized_by (map n name more) i h k =
      let small = both (ltb n 15) (small_tags more) h in
      let here = rows_sized source n (ltb-true n 15 small.0) rows in_source in
      let rest = sized_by more i small.1 k in
      length-append (put_rows source n rows) (put_fields source rows more i slots) ∙ rw (here, rest)
  sized_by (message n name inner more) i h k =
      let small = both (ltb n 15) (small_tags inner && small_tags more) h in
      let smalls = both (small_tags inner) (small_tags more) small.1 in
      let spans = both (spans_within (length source) inner (i + 1) slots) (spans_within (length source) more (i + 1 + width inner) slots) k in
      let inside = sized_by inner (i + 1) smalls.0 spans.0 in
      let mark = get_or slots i 0 in
      let x = put_fields source rows inner (i + 1) slots in
      let here = part_sized n mark x (size_by rows inner (i + 1) slots) (ltb-true n 15 small.0) inside in
      let rest = sized_by more (i + 1 + width inner) smalls.1 spans.1 in
      length-append (put_part n mark x) (put_fields source rows more (i + 1 + width inner) slots) ∙ rw (here, rest)

-- ---- an Init
module _ (rows : List Row) (slots : List ℕ) where
  init_sum : size_if (get_or slots 0 0) (size_by rows request_meta 1 slots) + size_if (get_or slots 8 0) (size_by rows response_meta 9 slots) +
      stream_size slots
      ≡ size_by rows init 0 slots
  unfolding size_by width
  init_sum = omega arith

  pub init_sized : (a b : ℕ) → a ≡ size_by rows request_meta 1 slots → b ≡ size_by rows response_meta 9 slots
      → size_if (get_or slots 0 0) a + size_if (get_or slots 8 0) b + stream_size slots ≡ size_by rows init 0 slots
  init_sized a b e f = rw (e, f) init_sum
