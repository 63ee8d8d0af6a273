-- A signed field of a struct holds the bits of its number, and a slot the bits of its field; it is read back as that number.
use Prim.Native.Nat.{ℕ, ◌<◌, ◌^◌}
use mathlib.Core.Path.{◌≡◌, ◌∙◌}
use lib.IntN.{ℤ}
use mir.Syntax.{w32}
use mir.Val.{to_z, of_z, SFits}
use mir.Facts.{to_z-of_z}
use Rattle.std.proofs.lemmas.Bool.Decides.{nat_tests}
use native.Mathlib.Omega.{arith}
use Rattle.wire_read.specs.Varint.{low_i32, twos_complement}
use Rattle.wire_write.specs.Writing.{sign_extended}
use Rattle.records.specs.Content.{bits}

pub read_back : {z wanted : ℤ} → SFits w32 z → z ≡ wanted → to_z w32 (of_z w32 z) ≡ wanted
read_back fits e = to_z-of_z fits ∙ e

pub low_signed : (n : ℕ) → n < 2 ^ 32 → to_z w32 n ≡ low_i32 n
unfolding twos_complement
low_signed n h = grind (arith, nat_tests)

pub bits_back : (z : ℤ) → SFits w32 z → of_z w32 z ≡ bits z
unfolding sign_extended
bits_back z h = grind (arith, nat_tests)
