-- int32 as two's complement: the low 32 bits of a varint, read as the machine's signed number.
use Prim.Native.Nat.{ℕ, suc, ◌-◌, ◌%◌, ◌^◌, ◌<◌}
use mathlib.Core.Path.{◌≡◌, ap}
use mathlib.Core.Bool.{cond}
use lib.IntN.{ℤ, pos, negsuc}
use native.Mathlib.Omega.{arith}
use borrow.Author.Tests.{ltb-true, ltb-false}
use mir.Syntax.{w32}
use mir.Val.{to_z}
use lib.Dec.{ltb}
use lib.Signed.{mag}
use Rattle.laws.proofs.Booleans.{choose}
use Rattle.wire_read.specs.Varint.{twos_complement, low_i32}

pub signed_is : (n : ℕ) → to_z w32 n ≡ twos_complement n
unfolding twos_complement
signed_is n =
    let same : 2 ^ 32 - suc n ≡ 2 ^ 32 - 1 - n = omega arith in
    ap (λ (x : ℕ). cond (ltb n (2 ^ 31)) (pos n) (negsuc x)) same

-- an int32 is -2^31 to 2^31 - 1: `mag` is n for n and for -1 - n
pub two_small : (n : ℕ) → n < 2 ^ 32 → mag (twos_complement n) < 2 ^ 31
unfolding twos_complement
two_small n h =
    choose (λ (z : ℤ). mag z < 2 ^ 31) (ltb n (2 ^ 31)) (pos n) (negsuc (2 ^ 32 - 1 - n))
    (λ e. ltb-true n (2 ^ 31) e)
    (λ e. let l = ltb-false n (2 ^ 31) e in omega arith)

pub low_small : (v : ℕ) → mag (low_i32 v) < 2 ^ 31
low_small v = two_small (v % 2 ^ 32) (omega arith)
