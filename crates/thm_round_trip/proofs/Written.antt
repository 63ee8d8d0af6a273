-- One step of the reader over a field that was written, whichever the message and whatever follows it.
use Prim.Native.Nat.{ℕ, pred, ◌+◌, ◌*◌, ◌<◌, ◌^◌}
use mathlib.Core.Path.{◌≡◌, sym, ap, ◌∙◌}
use mathlib.Core.List.{List, ◌++◌, append_assoc}
use lib.ListN.{length, drop, length-append}
use lib.Seq.{take-append_seam, drop-append_seam, drop_at}
use native.Mathlib.Omega.{arith}
use Rattle.wire_read.specs.Varint.{low_u32}
use Rattle.wire_read.specs.Fields.{varint_field, bytes_field, next_field}
use Rattle.wire_write.specs.Writing.{put_varint, put_tag, put_bytes}
use Rattle.wire_write.proofs.Encoding.{varint_bounds}
use Rattle.wire_write.proofs.ReadBack.{varint_field_back, bytes_field_back}
use Rattle.schema.specs.Schema.{Schema}
use Rattle.decoder.specs.Fields.{State, Result, ok, set_slot, set_number, with_field, and_then, inside, one_field, fields_in}
use Rattle.schema.specs.Targets.{a_number, look}
use Rattle.decoder.proofs.Steps.{fields_in_same, with_field_enough, fields_in_one}

-- reads the bytes s at `at` with as many steps as they are
abbrev pub reads : (frame : List ℕ) → Schema → (slot at : ℕ) → List ℕ → State → Result
reads frame sch i at s st = fields_in (length s) frame sch i at s st

-- how many bytes are before the content of a field of bytes
abbrev pub head_size : (n : ℕ) → List ℕ → ℕ
head_size n x = length (put_tag n 2) + length (put_varint (length x))

pub length_bytes : (n : ℕ) (x : List ℕ) → length (put_bytes n x) ≡ head_size n x + length x
length_bytes n x =
    length-append (put_tag n 2 ++ put_varint (length x)) x ∙ ap (λ (z : ℕ). z + length x) (length-append (put_tag n 2) (put_varint (length x)))

head_some : (n : ℕ) (x : List ℕ) → 0 < head_size n x
head_some n x = omega (arith, (varint_bounds (n * 8 + 2)).0)

-- the content is after the head
bytes_split : (n : ℕ) (x rest : List ℕ) → put_bytes n x ++ rest ≡ (put_tag n 2 ++ put_varint (length x)) ++ (x ++ rest)
bytes_split n x rest = append_assoc (put_tag n 2 ++ put_varint (length x)) x rest

module _ (frame : List ℕ) (sch : Schema) (i at n : ℕ) (st : State) (some : 0 < n) (high : n < 2 ^ 29) where
  pub number_step : (slot v : ℕ) (rest : List ℕ) → look sch i n ≡ a_number slot → v < 2 ^ 64
      → reads frame sch i at ((put_tag n 0 ++ put_varint v) ++ rest) st
      ≡ reads frame sch i (at + length (put_tag n 0 ++ put_varint v)) rest (set_slot slot (low_u32 v) st)
  unfolding one_field set_number
  number_step slot v rest l h =
      let w = put_tag n 0 ++ put_varint v in
      let s = w ++ rest in
      let size : length (put_tag n 0) + length (put_varint v) ≡ length w = sym (length-append (put_tag n 0) (put_varint v)) in
      let long = length-append w rest in
      let tagged = (varint_bounds (n * 8 + 0)).0 in
      let next : next_field s ≡ varint_field n v (length w) =
      rw (append_assoc (put_tag n 0) (put_varint v) rest, ← size) (varint_field_back n some high v rest h) in
      let left : drop (length w) s ≡ rest = drop-append_seam w rest in
      fields_in_one (length s) frame sch i at s st (omega arith)
      ∙ cc (next, left, l)
      ∙ fields_in_same (pred (length s)) (length rest) frame sch i (at + length w) rest _ (omega arith) (omega arith)

  -- a field of bytes, whichever its target
  pub bytes_step : (x rest : List ℕ) (st' : State) → length x < 2 ^ 64
      → with_field frame (fields_in (length x) frame) (at + head_size n x) x st (look sch i n) ≡ ok st'
      → reads frame sch i at (put_bytes n x ++ rest) st ≡ reads frame sch i (at + length (put_bytes n x)) rest st'
  unfolding one_field inside and_then
  bytes_step x rest st' h t =
      let s = put_bytes n x ++ rest in
      let long = length-append (put_bytes n x) rest in
      let size = length_bytes n x in
      let more = head_some n x in
      let next : next_field s ≡ bytes_field n (head_size n x) (length x) = bytes_field_back n some high x rest h in
      let behind : drop (head_size n x) s ≡ x ++ rest =
      ap (drop (head_size n x)) (bytes_split n x rest)
      ∙ drop_at (put_tag n 2 ++ put_varint (length x)) (x ++ rest) (head_size n x) (length-append (put_tag n 2) (put_varint (length x))) in
      let k = pred (length s) in
      let there : at + head_size n x + length x ≡ at + length (put_bytes n x) = omega arith in
      let step : one_field frame (fields_in k frame) sch i at s st
      ≡ inside frame (fields_in k frame) sch i (at + head_size n x) x rest st (look sch i n) =
      cc (next, behind, take-append_seam x rest, drop-append_seam x rest) in
      fields_in_one (length s) frame sch i at s st (omega arith)
      ∙ step
      ∙ rw (with_field_enough k (length x) frame (at + head_size n x) x st (look sch i n) (omega arith) (omega arith), t, there)
      (fields_in_same k (length rest) frame sch i (at + length (put_bytes n x)) rest st' (omega arith) (omega arith))
