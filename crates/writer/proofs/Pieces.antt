-- What is written of one field, with a tag of one byte, and how long it is; then each kind's message in its parts
use Prim.Native.Nat.{ℕ, ◌+◌, ◌*◌, ◌≤◌, ◌<◌}
use mathlib.Core.Path.{◌≡◌, refl, sym, ap, ◌∙◌}
use mathlib.Core.Bool.{Bool, true, false, cond}
use mathlib.Core.List.{List, [], ◌∷◌, ◌++◌, append_assoc, append-nil}
use lib.ListN.{length, drop, length-append, length-take, length-drop}
use native.Mathlib.Omega.{arith}
use lib.Dec.{eqb}
use borrow.Author.Tests.{ne_eqb}
use Rattle.wire_write.specs.Writing.{put_varint, put_tag, put_bytes}
use Rattle.wire_write.proofs.Encoding.{shortest_last}
use Rattle.schema.specs.Schema.{Integer, request, response, close, feedback, init, width}
use Rattle.decoder.specs.Fields.{part_of}
use Rattle.decoder.specs.Rows.{Row}
use Rattle.writer.specs.Encoding.{wide, put_number, put_some, put_entry, put_rows, put_fields}
use Rattle.writer.specs.Straight.{RowIn, tagged, number_at, signed_at, some_at, put_first, put_names, put_last, put_status, put_content}
use Rattle.writer.specs.Straight.{put_reason, close_length, request_meta_length, response_meta_length, init_length}
use Rattle.writer.specs.Straight.{request_meta_bytes, response_meta_bytes, put_request_part, put_response_part, request_length, response_length}

pub part_length : (source : List ℕ) (at size : ℕ) → at + size ≤ length source → length (part_of source at size) ≡ size
part_length source at size h = omega (arith, length-take size (drop at source), length-drop at source)

-- ---- "zero and empty ones left out": a field is left out, or written whole
module _ (n : ℕ) (source : List ℕ) (at size : ℕ) where
  pub some_out : size ≡ 0 → put_some n (part_of source at size) ≡ []
  unfolding put_some
  some_out e = rw e

  pub some_in : at + size ≤ length source → (size ≡ 0 → ⊥) → put_some n (part_of source at size) ≡ put_bytes n (part_of source at size)
  unfolding put_some
  some_in h k = rw (ne_eqb (length (part_of source at size)) 0 (λ e. k (sym (part_length source at size h) ∙ e)))

-- ---- a tag of one byte
pub tag_one : (n w : ℕ) → n * 8 + w < 128 → put_tag n w ≡ (n * 8 + w) ∷ []
unfolding put_varint
tag_one n w h = shortest_last 9 (n * 8 + w) h

-- a field of bytes
pub bytes_length : (n : ℕ) → n < 15 → (x : List ℕ) → length (put_bytes n x) ≡ tagged (length x)
bytes_length n h x =
    length-append (put_tag n 2 ++ put_varint (length x)) x
    ∙ omega (arith, length-append (put_tag n 2) (put_varint (length x)), ap length (tag_one n 2 (omega arith)))

pub some_length : (n : ℕ) → n < 15 → (b : Bool) (x : List ℕ) → length (cond b [] (put_bytes n x)) ≡ cond b 0 (tagged (length x))
some_length n h true x = refl
some_length n h false x = bytes_length n h x

pub entry_length : (source : List ℕ) (row : Row) → RowIn (length source) row
    → length (put_entry source row) ≡ tagged row.key_size + tagged row.value_size
unfolding put_entry
entry_length source row h =
    let key = part_of source row.key row.key_size in
    let value = part_of source row.value row.value_size in
    length-append (put_bytes 1 key) (put_bytes 2 value)
    ∙ rw (
      bytes_length 1 (omega arith) key,
      bytes_length 2 (omega arith) value,
      part_length source row.key row.key_size h.0,
      part_length source row.value row.value_size h.1,
    )

-- a number is left out where what it is written as is 0
module _ (n : ℕ) (h : n < 16) where
  pub number_as : (type : Integer) (v w : ℕ) → w ≡ wide type v → eqb w 0 ≡ eqb v 0
      → cond (eqb w 0) [] (n * 8 ∷ put_varint w) ≡ put_number type n v
  unfolding put_number
  number_as type v w e z =
      let plain : n * 8 + 0 ≡ n * 8 = omega arith in
      let tag : put_tag n 0 ≡ n * 8 ∷ [] = tag_one n 0 (omega arith) ∙ rw plain in
      rw (z, tag, ← e)

  pub bytes_are : (x : List ℕ) → put_bytes n x ≡ ((n * 8 + 2) ∷ put_varint (length x)) ++ x
  bytes_are x = ap (λ (t : List ℕ). t ++ put_varint (length x) ++ x) (tag_one n 2 (omega arith))

  -- a part of the source
  module _ (source : List ℕ) (start size : ℕ) (k : start + size ≤ length source) where
    pub span_is : put_bytes n (part_of source start size) ≡ ((n * 8 + 2) ∷ put_varint size) ++ part_of source start size
    span_is = bytes_are (part_of source start size) ∙ rw (part_length source start size k)

    pub span_length : length (put_bytes n (part_of source start size)) ≡ tagged size
    span_length =
        omega (arith, ap length span_is, length-append ((n * 8 + 2) ∷ put_varint size) (part_of source start size), part_length source start size k)

  -- a row
  module _ (source : List ℕ) (row : Row) (k : RowIn (length source) row) (size : ℕ)
      (is_size : size ≡ tagged row.key_size + tagged row.value_size) where
    pub entry_is : put_bytes n (put_entry source row)
        ≡ ((n * 8 + 2) ∷ put_varint size)
        ++ (put_bytes 1 (part_of source row.key row.key_size) ++ put_bytes 2 (part_of source row.value row.value_size))
    unfolding put_entry
    entry_is =
        let same : length (put_entry source row) ≡ size = entry_length source row k ∙ sym is_size in
        bytes_are (put_entry source row) ∙ rw same

    pub entry_room : length (put_bytes n (put_entry source row))
        ≡ 1 + length (put_varint size)
        + (length (put_bytes 1 (part_of source row.key row.key_size)) + length
        (put_bytes 2 (part_of source row.value row.value_size)))
    entry_room =
        let key = put_bytes 1 (part_of source row.key row.key_size) in
        let value = put_bytes 2 (part_of source row.value row.value_size) in
        omega (arith, ap length entry_is, length-append ((n * 8 + 2) ∷ put_varint size) (key ++ value), length-append key value)

-- each kind in its parts
module _ (source : List ℕ) (rows : List Row) (slots : List ℕ) where
  pub request_is : put_first slots ++ (put_names source slots ++ (number_at slots 8 10 ++ (put_rows source 9 rows ++ put_last slots)))
      ≡ put_fields source rows request 0 slots
  unfolding put_fields
  request_is = simp (append_assoc, append-nil)

  pub request_length_lem : length (put_fields source rows request 0 slots) ≡ request_length source rows slots
  request_length_lem = ap length (sym request_is) ∙ simp length-append (omega arith)

  pub response_is : put_status slots ++ (some_at source slots 6 5 ++ (number_at slots 7 7 ++ (put_rows source 8 rows ++ put_content slots)))
      ≡ put_fields source rows response 0 slots
  unfolding put_fields
  response_is = simp (append_assoc, append-nil)

  pub response_length_lem : length (put_fields source rows response 0 slots) ≡ response_length source rows slots
  response_length_lem = ap length (sym response_is) ∙ simp length-append (omega arith)

  pub close_is : put_reason source slots ++ (number_at slots 4 4 ++ (put_rows source 5 rows ++ signed_at slots 6 5))
      ≡ put_fields source rows close 0 slots
  unfolding put_fields
  close_is = simp (append_assoc, append-nil)

  pub close_length_lem : length (put_fields source rows close 0 slots) ≡ close_length source rows slots
  close_length_lem = ap length (sym close_is) ∙ simp length-append (omega arith)

  pub feedback_is : number_at slots 1 0 ≡ put_fields source rows feedback 0 slots
  unfolding put_fields
  feedback_is = simp (append_assoc, append-nil)

  pub request_meta_is : some_at source slots 1 1 ++ (some_at source slots 2 3 ++
      (some_at source slots 3 5 ++ (number_at slots 4 7 ++ put_rows source 5 rows)))
      ≡ request_meta_bytes source rows slots
  unfolding put_fields
  request_meta_is = simp (append_assoc, append-nil)

  pub request_meta_length_lem : length (request_meta_bytes source rows slots) ≡ request_meta_length source rows slots
  request_meta_length_lem = ap length (sym request_meta_is) ∙ simp length-append (omega arith)

  pub response_meta_is : signed_at slots 1 9 ++ some_at source slots 2 10 ≡ response_meta_bytes source rows slots
  unfolding put_fields
  response_meta_is = simp (append_assoc, append-nil)

  pub response_meta_length_lem : length (response_meta_bytes source rows slots) ≡ response_meta_length source slots
  response_meta_length_lem = ap length (sym response_meta_is) ∙ simp length-append (omega arith)

  pub init_is : put_request_part source rows slots
      ++ (put_response_part source rows slots ++ (number_at slots 3 12 ++ (number_at slots 4 13 ++ number_at slots 5 14)))
      ≡ put_fields source rows init 0 slots
  unfolding put_fields width
  init_is = simp (append_assoc, append-nil)

  pub init_length_lem : length (put_fields source rows init 0 slots) ≡ init_length source rows slots
  init_length_lem = ap length (sym init_is) ∙ simp length-append (omega arith)
