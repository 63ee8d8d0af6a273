-- Where the reader finds what was written: the slots and the rows that the fields give, the first of them at `at` of the frame.
use Prim.Native.Nat.{ℕ, suc, ◌+◌}
use mathlib.Core.Path.{◌≡◌, refl, sym, ap, ap₂, ◌∙◌}
use mathlib.Core.Bool.{Bool, true, false, cond}
use mathlib.Core.List.{List, [], ◌∷◌, ◌++◌}
use lib.ListN.{length, take, drop, get_or, replicate, length-append, length-replicate}
use lib.Seq.{take-append_seam, drop-append_seam, take-take, take-add, drop-drop}
use lib.Dec.{eqb}
use native.Mathlib.Omega.{arith}
use Rattle.wire_read.specs.Varint.{low_u32}
use Rattle.wire_write.specs.Writing.{put_bytes}
use Rattle.schema.specs.Schema.{Integer, uint32, int32, Schema, done, number, bytes, map, message, width}
use Rattle.decoder.specs.Rows.{Row}
use Rattle.decoder.specs.Fields.{start_of, part_of}
use Rattle.writer.specs.Encoding.{put_number, put_some, put_entry, put_rows, put_fields}
use Rattle.thm_round_trip.proofs.Written.{head_size}

abbrev pub zeros : ℕ → List ℕ
zeros n = replicate n 0

-- a number's slot
unfoldable pub number_at : Integer → ℕ → ℕ
number_at uint32 v = v
number_at int32 v = low_u32 v

-- ---- rows

abbrev pub key_of : (source : List ℕ) → Row → List ℕ
key_of source row = part_of source row.key row.key_size

abbrev pub value_of : (source : List ℕ) → Row → List ℕ
value_of source row = part_of source row.value row.value_size

-- the row of an entry whose bytes are at `at`
abbrev pub entry_row : (at : ℕ) → (key value : List ℕ) → Row
entry_row at key value =
    record {
      key = start_of (at + head_size 1 key) (length key);
      key_size = length key;
      value = start_of (at + length (put_bytes 1 key) + head_size 2 value) (length value);
      value_size = length value;
    }

unfoldable pub rows_at : (source : List ℕ) → (n : ℕ) → List Row → (at : ℕ) → List Row
rows_at source n [] at = []
rows_at source n (row ∷ rows) at =
    entry_row (at + head_size n (put_entry source row)) (key_of source row) (value_of source row)
    ∷ rows_at source n rows (at + length (put_bytes n (put_entry source row)))

-- ---- fields: the rows and the slots are those that are written
module _ (source : List ℕ) (rows : List Row) (slots : List ℕ) where
  abbrev pub put : Schema → (i : ℕ) → List ℕ
  put sch i = put_fields source rows sch i slots

  -- a part, if it is present
  abbrev pub put_part : (n : ℕ) (inner : Schema) (i : ℕ) → List ℕ
  put_part n inner i = cond (eqb (get_or slots i 0) 0) [] (put_bytes n (put inner (i + 1)))

  abbrev pub text_at : (i : ℕ) → List ℕ
  text_at i = part_of source (get_or slots i 0) (get_or slots (i + 1) 0)

  unfoldable pub slots_at : Schema → (i at : ℕ) → List ℕ
  slots_at done i at = []
  slots_at (number type n name more) i at =
      number_at type (get_or slots i 0) ∷ slots_at more (i + 1) (at + length (put_number type n (get_or slots i 0)))
  slots_at (bytes n name more) i at =
      start_of (at + head_size n (text_at i)) (length (text_at i)) ∷ length (text_at i)
      ∷ slots_at more (i + 2) (at + length (put_some n (text_at i)))
  slots_at (map n name more) i at = slots_at more i (at + length (put_rows source n rows))
  slots_at (message n name inner more) i at =
      cond (eqb (get_or slots i 0) 0) 0 1
      ∷ (cond (eqb (get_or slots i 0) 0) (zeros (width inner)) (slots_at inner (i + 1) (at + head_size n (put inner (i + 1))))
      ++ slots_at more (i + 1 + width inner) (at + length (put_part n inner i)))

  unfoldable pub entries_at : Schema → (i at : ℕ) → List Row
  entries_at done i at = []
  entries_at (number type n name more) i at = entries_at more (i + 1) (at + length (put_number type n (get_or slots i 0)))
  entries_at (bytes n name more) i at = entries_at more (i + 2) (at + length (put_some n (text_at i)))
  entries_at (map n name more) i at = rows_at source n rows at ++ entries_at more i (at + length (put_rows source n rows))
  entries_at (message n name inner more) i at =
      cond (eqb (get_or slots i 0) 0) [] (entries_at inner (i + 1) (at + head_size n (put inner (i + 1))))
      ++ entries_at more (i + 1 + width inner) (at + length (put_part n inner i))

  -- what a part gives, its mark apart
  abbrev pub part_slots : (n : ℕ) (inner : Schema) (i at : ℕ) → List ℕ
  part_slots n inner i at = cond (eqb (get_or slots i 0) 0) (zeros (width inner)) (slots_at inner (i + 1) (at + head_size n (put inner (i + 1))))

  abbrev pub part_entries : (n : ℕ) (inner : Schema) (i at : ℕ) → List Row
  part_entries n inner i at = cond (eqb (get_or slots i 0) 0) [] (entries_at inner (i + 1) (at + head_size n (put inner (i + 1))))

  length_either : (b : Bool) (size : ℕ) (l : List ℕ) → length l ≡ size → length (cond b (zeros size) l) ≡ size
  length_either true size l h = length-replicate size 0
  length_either false size l h = h

  length_slots : (sch : Schema) (i at : ℕ) → length (slots_at sch i at) ≡ width sch
  unfolding slots_at width
  length_slots done i at = refl
  length_slots (number type n name more) i at = ap suc (length_slots more (i + 1) _)
  length_slots (bytes n name more) i at = ap (λ (z : ℕ). suc (suc z)) (length_slots more (i + 2) _)
  length_slots (map n name more) i at = length_slots more i _
  length_slots (message n name inner more) i at =
      ap suc (length-append (part_slots n inner i at) (slots_at more (i + 1 + width inner) (at + length (put_part n inner i)))
      ∙ ap₂ (λ (a b : ℕ). a + b) (length_either (eqb (get_or slots i 0) 0) (width inner) _ (length_slots inner (i + 1) _))
      (length_slots more (i + 1 + width inner) _))

  pub length_part : (n : ℕ) (inner : Schema) (i at : ℕ) → length (part_slots n inner i at) ≡ width inner
  length_part n inner i at =
      let inside = at + head_size n (put inner (i + 1)) in
      length_either (eqb (get_or slots i 0) 0) (width inner) (slots_at inner (i + 1) inside) (length_slots inner (i + 1) inside)

-- ---- bytes that are in the frame

abbrev pub Stands : (frame : List ℕ) (at : ℕ) → List ℕ → Type 0
Stands frame at x = part_of frame at (length x) ≡ x

module _ (frame : List ℕ) (at : ℕ) (x y : List ℕ) (h : Stands frame at (x ++ y)) where
  both : take (length x) (drop at frame) ++ take (length y) (drop (at + length x) frame) ≡ x ++ y
  both =
      ap (λ (z : List ℕ). take (length x) (drop at frame) ++ take (length y) z) (sym (drop-drop (length x) at frame))
      ∙ sym (take-add (length x) (length y) (drop at frame))
      ∙ rw (length-append x y) at h

  pub stands_first : Stands frame at x
  stands_first =
      sym (take-take (length x) (length (x ++ y)) (drop at frame) (omega (arith, length-append x y))) ∙ ap (take (length x)) h
      ∙ take-append_seam x y

  pub stands_later : Stands frame (at + length x) y
  stands_later =
      let behind : x ++ take (length y) (drop (at + length x) frame) ≡ x ++ y = rw stands_first at both in
      sym (drop-append_seam x _) ∙ ap (drop (length x)) behind ∙ drop-append_seam x y
