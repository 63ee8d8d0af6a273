-- The bound of a message is no less than its size: one law for every schema. A length of at most 65,536 has a varint of at most 3 bytes, so
-- it is enough that the bound itself is no more than that: nothing is asked of the numbers.
use Prim.Native.Nat.{ℕ, suc, ◌+◌, ◌/◌, ◌≤◌, ◌<◌}
use mathlib.Core.Path.{◌≡◌}
use mathlib.Core.List.{List, [], ◌∷◌}
use lib.ListN.{length, get_or}
use lib.Dec.{eqb, ltb}
use native.Mathlib.Omega.{arith}
use borrow.Author.Tests.{le-leb}
use Rattle.laws.proofs.Booleans.{either}
use Rattle.wire_write.specs.Writing.{shortest, put_varint}
use Rattle.wire_write.proofs.Encoding.{shortest_last, varint_bounds}
use Rattle.schema.specs.Schema.{Integer, Schema, done, number, bytes, map, message, width}
use Rattle.decoder.specs.Rows.{Row}
use Rattle.writer.specs.Encoding.{wide}
use Rattle.writer.specs.Writing.{size_error}
use Rattle.fixed_header.specs.Header.{max_frame}
use Rattle.writer.specs.Straight.{tagged, number_size, size_if, rows_sum, row_size, row_most, size_by, most_by}

-- ---- a length
one : (room v : ℕ) → v < 128 → length (shortest (suc room) v) ≤ 1
one room v h = rw (shortest_last room v h) (omega arith)

more : (room v k : ℕ) → length (shortest room (v / 128)) ≤ k → length (shortest (suc room) v) ≤ suc k
unfolding shortest
more room v k h = either (λ (x : List ℕ). length x ≤ suc k) (ltb v 128) (omega arith) (omega arith)

short : (v : ℕ) → v ≤ 65536 → length (put_varint v) ≤ 3
unfolding put_varint
short v h = more 9 v 2 (more 8 (v / 128) 1 (one 7 (v / 128 / 128) (omega arith)))

-- ---- a field
number_most : (type : Integer) (v : ℕ) → number_size type v ≤ 11
unfolding number_size
number_most type v = either (λ (x : ℕ). x ≤ 11) (eqb v 0) (omega arith) (omega (arith, varint_bounds (wide type v)))

part_most : (mark size : ℕ) → size ≤ 65536 → size_if mark size ≤ 4 + size
unfolding size_if
part_most mark size h = either (λ (x : ℕ). x ≤ 4 + size) (eqb mark 0) (omega arith) (omega (arith, short size h))

rows_most : (rows : List Row) → rows_sum row_most rows ≤ 65536 → rows_sum row_size rows ≤ rows_sum row_most rows
unfolding rows_sum
rows_most [] h = omega arith
rows_most (row ∷ rows) h =
    let key = short row.key_size (omega arith) in
    let value = short row.value_size (omega arith) in
    let inside = short (tagged row.key_size + tagged row.value_size) (omega arith) in
    omega (arith, rows_most rows (omega arith))

-- ---- a message
module _ (rows : List Row) (slots : List ℕ) where
  most_by_lem : (schema : Schema) (i : ℕ) → most_by rows schema i slots ≤ 65536 → size_by rows schema i slots ≤ most_by rows schema i slots
  unfolding size_by most_by
  most_by_lem done i h = omega arith
  most_by_lem (number type n name more) i h = omega (arith, number_most type (get_or slots i 0), most_by_lem more (i + 1) (omega arith))
  most_by_lem (bytes n name more) i h =
      omega (arith, part_most (get_or slots (i + 1) 0) (get_or slots (i + 1) 0) (omega arith), most_by_lem more (i + 2) (omega arith))
  most_by_lem (map n name more) i h = omega (arith, rows_most rows (omega arith), most_by_lem more i (omega arith))
  most_by_lem (message n name inner more) i h =
      let inside = most_by_lem inner (i + 1) (omega arith) in
      omega (
        arith,
        part_most (get_or slots i 0) (size_by rows inner (i + 1) slots) (omega arith),
        most_by_lem more (i + 1 + width inner)
            (omega arith),
      )

  pub surely : (schema : Schema) (most body room c : ℕ) → c ≤ max_frame → most_by rows schema 0 slots ≤ most
      → (16 + most + body ≤ c) × (16 + most + body ≤ room)
      → 0 ≡ size_error c (16 + size_by rows schema 0 slots + body) room
  unfolding size_error
  surely schema most body room c small e h =
      let size = size_by rows schema 0 slots in
      let k = most_by_lem schema 0 (omega arith) in
      rw (le-leb (16 + size + body) c (omega arith), le-leb (16 + size + body) room (omega arith))
