-- The premise of the round trip: numbers of 32 bits
use Rattle.std.specs.Prelude.{◌<◌, ◌^◌, List, [], ◌∷◌}
use Rattle.std.specs.Int.Signed.{mag}
use Rattle.message.specs.Meaning.{Said, unsigned, signed, present, text}

-- the numbers of a record that a program can hold: "Types are as in 000", 32 bits each. Every record that a program passes is in it
-- (`held_in_range`, proofs/Held).
abbrev pub InRange : List Said → Type 0
InRange [] = Unit {0}
InRange (unsigned n ∷ said) = (n < 2 ^ 32) × InRange said
InRange (signed z ∷ said) = (mag z < 2 ^ 31) × InRange said
InRange (present b ∷ said) = InRange said
InRange (text x ∷ said) = InRange said
