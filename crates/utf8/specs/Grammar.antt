-- RFC 3629, section 4, "Syntax of UTF-8 Byte Sequences", byte by byte.
use Rattle.std.specs.Prelude.{ℕ, zero, suc, Bool, true, false, cond, List, [], ◌∷◌, leb, eqb}

-- how many bytes follow the first byte of a character; 4 where none begins with it
unfoldable pub follows : ℕ → ℕ
follows b =
    cond (leb b 0x7F) 0 (cond (leb b 0xC1) 4 (cond (leb b 0xDF) 1 (cond (leb b 0xEF) 2 (cond (leb b 0xF4) 3 4))))

-- "UTF8-3 = %xE0 %xA0-BF UTF8-tail / ..", "UTF8-4 = %xF0 %x90-BF 2( UTF8-tail ) / .."
unfoldable pub lowest : ℕ → ℕ
lowest b = cond (eqb b 0xE0) 0xA0 (cond (eqb b 0xF0) 0x90 0x80)

-- "%xED %x80-9F UTF8-tail", "%xF4 %x80-8F 2( UTF8-tail )"
unfoldable pub highest : ℕ → ℕ
highest b = cond (eqb b 0xED) 0x9F (cond (eqb b 0xF4) 0x8F 0xBF)

-- The bytes end `need` bytes later the character that is begun, the next of them from `lo` to `hi`, and go on as characters.
unfoldable pub tailed : List ℕ → (need lo hi : ℕ) → Bool
tailed [] zero lo hi = true
tailed [] (suc n) lo hi = false
tailed (b ∷ s) zero lo hi = cond (leb (follows b) 3) (tailed s (follows b) (lowest b) (highest b)) false
tailed (b ∷ s) (suc n) lo hi = cond (leb lo b) (cond (leb b hi) (tailed s n 0x80 0xBF) false) false

-- "UTF8-octets = *( UTF8-char )"
abbrev pub utf8 : List ℕ → Bool
utf8 s = tailed s 0 0x80 0xBF
