-- Fixed values byte by byte.
use Prim.Native.Nat.{ℕ, suc, ◌+◌, ◌*◌, ◌<◌, ◌≤◌}
use mathlib.Core.Path.{◌≡◌, refl}
use mathlib.Core.List.{List, []}
use lib.ListN.{length, take, drop, get_or}
use lib.Seq.{drop-cons}
use native.Mathlib.Omega.{arith}
use Rattle.wire_read.specs.Fields.{little_endian}

pub little_none : little_endian [] ≡ 0
unfolding little_endian
little_none = refl

little_cons : (s : List ℕ) (i j n : ℕ) → i < length s → j ≡ suc i
    → little_endian (take (suc n) (drop i s)) ≡ get_or s i 0 + 256 * little_endian (take n (drop j s))
unfolding little_endian
little_cons s i j n h e = rw (drop-cons s i 0 h, e)

-- four bytes below `n` more
pub little_four : (s : List ℕ) (at n : ℕ) → at + 4 ≤ length s
    → little_endian (take (suc (suc (suc (suc n)))) (drop at s))
    ≡ get_or s at 0 + 256 * get_or s (at + 1) 0 + 65536 * get_or s (at + 2) 0 + 16777216 * get_or s (at + 3) 0
    + 4294967296 * little_endian (take n (drop (at + 4) s))
little_four s at n h =
    omega (
      arith,
      little_cons s at (at + 1) (suc (suc (suc n))) (omega arith) (omega arith),
      little_cons s (at + 1) (at + 2) (suc (suc n)) (omega arith) (omega arith),
      little_cons s (at + 2) (at + 3) (suc n) (omega arith) (omega arith),
      little_cons s (at + 3) (at + 4) n (omega arith) (omega arith),
    )

pub little_eight : (s : List ℕ) (at : ℕ) → at + 8 ≤ length s
    → little_endian (take 8 (drop at s))
    ≡ get_or s at 0 + 256 * get_or s (at + 1) 0 + 65536 * get_or s (at + 2) 0 + 16777216 * get_or s (at + 3) 0
    + 4294967296 * get_or s (at + 4) 0 + 1099511627776 * get_or s (at + 5) 0 + 281474976710656 * get_or s (at + 6) 0
    + 72057594037927936 * get_or s (at + 7) 0
little_eight s at h =
    omega (
      arith,
      little_four s at 4 (omega arith),
      little_cons s (at + 4) (at + 5) 3 (omega arith) (omega arith),
      little_cons s (at + 5) (at + 6) 2 (omega arith) (omega arith),
      little_cons s (at + 6) (at + 7) 1 (omega arith) (omega arith),
      little_cons s (at + 7) (at + 8) 0 (omega arith) (omega arith),
      little_none,
    )
