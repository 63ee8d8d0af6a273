-- The shortest varint, byte by byte, and how long it is.
use Prim.Native.Nat.{ℕ, zero, suc, ◌+◌, ◌*◌, ◌/◌, ◌%◌, ◌^◌, ◌<◌, ◌≤◌}
use mathlib.Core.Path.{◌≡◌, ap}
use mathlib.Core.List.{List, [], ◌∷◌}
use lib.ListN.{length}
use lib.Dec.{ltb}
use native.Mathlib.Omega.{arith}
use native.Mathlib.Nat.{div-lt_iff_lt-mul, le-div_iff_mul-le, pow-suc}
use borrow.Author.Tests.{lt-ltb, le-ltb}
use Rattle.laws.proofs.Booleans.{either}
use Rattle.wire_write.specs.Writing.{shortest, put_varint}

pub shortest_last : (room v : ℕ) → v < 128 → shortest (suc room) v ≡ v ∷ []
unfolding shortest
shortest_last room v h = rw (lt-ltb v 128 h)

pub shortest_more : (room v : ℕ) → 128 ≤ v → shortest (suc room) v ≡ (128 + v % 128) ∷ shortest room (v / 128)
unfolding shortest
shortest_more room v h = rw (le-ltb v 128 h)

-- what is left of a number that fits `room` more bytes and one of a single bit
pub left_fits : (room v : ℕ) → v < 2 * 128 ^ suc room → v / 128 < 2 * 128 ^ room
left_fits room v h =
    (div-lt_iff_lt-mul {k = 128} {x = v} {y = 2 * 128 ^ room} (omega arith)).1 (omega (arith, pow-suc 128 room))

abbrev Sized : ℕ → List ℕ → Type 0
Sized most x = (0 < length x) × (length x ≤ most)

pub shortest_bounds : (room v : ℕ) → Sized (suc room) (shortest (suc room) v)
unfolding shortest
shortest_bounds zero v = either (Sized 1) (ltb v 128) (omega arith) (omega arith)
shortest_bounds (suc room) v =
    let left = shortest_bounds room (v / 128) in either (Sized (suc (suc room))) (ltb v 128) (omega arith) (omega arith)

-- "A varint has at most 10 bytes"
pub varint_bounds : (v : ℕ) → (0 < length (put_varint v)) × (length (put_varint v) ≤ 10)
unfolding put_varint
varint_bounds v = shortest_bounds 9 v

-- a number that needs its last bit takes all its bytes
pub shortest_full : (room v : ℕ) → 128 ^ room ≤ v → v < 2 * 128 ^ room → length (shortest (suc room) v) ≡ suc room
shortest_full zero v low high = rw (shortest_last zero v (omega arith))
shortest_full (suc room) v low high =
    let some : 128 ≤ v = omega (arith, pow-suc 128 room, one_more room) in
    rw (shortest_more (suc room) v some)
    (ap suc (shortest_full room (v / 128)
    ((le-div_iff_mul-le {k = 128} {x = 128 ^ room} {y = v} (omega arith)).1 (omega (arith, pow-suc 128 room)))
    (left_fits room v high)))
  where
    one_more : (room : ℕ) → 1 ≤ 128 ^ room
    one_more zero = omega arith
    one_more (suc room) = omega (arith, pow-suc 128 room, one_more room)
