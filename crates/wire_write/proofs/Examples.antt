-- Numbers of document 01's examples, and a field of bytes, as they are written, as rows of a table: the definitions give each answer.
use Prim.Native.Nat.{ℕ}
use mathlib.Core.Path.{◌≡◌, refl}
use mathlib.Core.List.{List, [], ◌∷◌, ◌++◌, map}
use lib.ListN.{replicate}
use lib.IntN.{negsuc}
use Rattle.wire_write.specs.Writing.{shortest, put_varint, sign_extended, put_bytes}

record WriteRow : Type 0 where
  wrote : List ℕ
  answer : List ℕ

writes : List WriteRow
writes =
    record { wrote = put_varint 0; answer = 0x00 ∷ [] }
    ∷ record { wrote = put_varint 300; answer = 0xAC ∷ 0x02 ∷ [] }
    -- -1, as an int32 is written
    ∷ record { wrote = put_varint (sign_extended (negsuc 0)); answer = replicate 9 0xFF ++ (0x01 ∷ []) }
    ∷ record { wrote = put_bytes 1 (0x61 ∷ 0x62 ∷ []); answer = 0x0A ∷ 0x02 ∷ 0x61 ∷ 0x62 ∷ [] }
    ∷ []

writes_right : map (λ (r : WriteRow). r.wrote) writes ≡ map (λ (r : WriteRow). r.answer) writes
unfolding writes put_varint shortest sign_extended
writes_right = refl
