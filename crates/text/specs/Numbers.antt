-- Numbers as text, in ASCII
use Rattle.std.specs.Prelude.{ℕ, zero, suc, ◌-◌, ◌/◌, ◌%◌, ◌^◌, cond, List, [], ◌∷◌, ◌++◌, ltb}
use Prim.Native.Char.{code}
use Prim.Native.String.{String, [] as empty, ◌∷◌ as ◌then◌}
use Rattle.text.specs.Digits.{hex_digit_ascii, last_digits}

-- a text as bytes
abbrev pub ascii : String → List ℕ
ascii empty = []
ascii (c then s) = code c ∷ ascii s

-- how many decimal digits a number has: the fewest that hold it, for any n up to `steps` (`places_fewest`); `decimal` gives n steps.
-- So the clause for no steps answers only for 0, which has one digit
unfoldable pub places_in : (steps : ℕ) → ℕ → ℕ
places_in zero n = 1
places_in (suc steps) n = cond (ltb n 10) 1 (suc (places_in steps (n / 10)))

-- a number in decimal, with no zero in front
unfoldable pub decimal : ℕ → List ℕ
decimal n = last_digits 10 (places_in n n) n

-- a number in decimal that is given by its 64 bits, in two's complement
abbrev pub signed : (bits : ℕ) → List ℕ
signed bits = cond (ltb bits (2 ^ 63)) (decimal bits) (ascii "-" ++ decimal (2 ^ 64 - bits))

-- a byte as two digits
abbrev pub hex_byte : ℕ → List ℕ
hex_byte b = hex_digit_ascii (b / 16) ∷ hex_digit_ascii (b % 16) ∷ []
