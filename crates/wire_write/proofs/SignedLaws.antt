-- What an int32 is written as, its two's complement in 64 bits, in the terms of the machine's signed operations.
use mathlib.Core.Path.{◌≡◌, refl}
use lib.IntN.{ℤ, pos, negsuc}
use native.Mathlib.Omega.{arith}
use mir.Syntax.{w32, w64}
use mir.Val.{SFits, to_z, of_z}
use mir.ValLaws.{to_z-of_z}
use Rattle.wire_write.specs.Writing.{sign_extended}

bits_are : (v : ℤ) → of_z w64 v ≡ sign_extended v
unfolding sign_extended
bits_are (pos n) = refl
bits_are (negsuc n) = refl

-- an int32 made an int64, whose bits are read
pub bits_value : (v : ℤ) → SFits w32 v → of_z w64 (to_z w64 (of_z w64 (to_z w32 (of_z w32 v)))) ≡ sign_extended v
bits_value v f = rw (to_z-of_z w32 v f, to_z-of_z w64 v (record { sfits = omega (arith, f.sfits) })) (bits_are v)
