-- Two of the examples of RFC 3629, the borders of its ranges, and bytes that it rules out, as rows of tables: the definitions give
-- each answer.
use Prim.Native.Nat.{ℕ}
use mathlib.Core.Path.{◌≡◌, refl}
use mathlib.Core.Bool.{true, false}
use mathlib.Core.List.{List, [], ◌∷◌, map}
use lib.ListN.{length, replicate}
use Rattle.utf8.specs.Grammar.{follows, lowest, highest, tailed, utf8}
use Rattle.utf8.specs.Ascii.{ascii}

good : List (List ℕ)
good =
    []
    -- NUL, and the last of one byte
    ∷ (0x00 ∷ [])
    ∷ (0x7F ∷ [])
    -- section 7: "A<NOT IDENTICAL TO><ALPHA>."
    ∷ (0x41 ∷ 0xE2 ∷ 0x89 ∷ 0xA2 ∷ 0xCE ∷ 0x91 ∷ 0x2E ∷ [])
    -- a byte order mark, and a character of four bytes
    ∷ (0xEF ∷ 0xBB ∷ 0xBF ∷ 0xF0 ∷ 0xA3 ∷ 0x8E ∷ 0xB4 ∷ [])
    -- the first and the last of two bytes
    ∷ (0xC2 ∷ 0x80 ∷ [])
    ∷ (0xDF ∷ 0xBF ∷ [])
    -- the first of three bytes, the last before the surrogates, the first after them
    ∷ (0xE0 ∷ 0xA0 ∷ 0x80 ∷ [])
    ∷ (0xED ∷ 0x9F ∷ 0xBF ∷ [])
    ∷ (0xEE ∷ 0x80 ∷ 0x80 ∷ [])
    -- U+FFFE and U+FFFF, which are no characters
    ∷ (0xEF ∷ 0xBF ∷ 0xBE ∷ [])
    ∷ (0xEF ∷ 0xBF ∷ 0xBF ∷ [])
    -- the first of four bytes, and U+10FFFF
    ∷ (0xF0 ∷ 0x90 ∷ 0x80 ∷ 0x80 ∷ [])
    ∷ (0xF4 ∷ 0x8F ∷ 0xBF ∷ 0xBF ∷ [])
    ∷ []

good_taken : map utf8 good ≡ replicate (length good) true
unfolding good follows lowest highest tailed
good_taken = refl

bad : List (List ℕ)
bad =
    -- section 3: "the overlong UTF-8 sequence C0 80"
    (0xC0 ∷ 0x80 ∷ [])
    ∷ (0xC1 ∷ 0xBF ∷ [])
    -- other overlong forms
    ∷ (0xE0 ∷ 0x80 ∷ 0x80 ∷ [])
    ∷ (0xE0 ∷ 0x9F ∷ 0xBF ∷ [])
    ∷ (0xF0 ∷ 0x8F ∷ 0xBF ∷ 0xBF ∷ [])
    -- the first and the last surrogate
    ∷ (0xED ∷ 0xA0 ∷ 0x80 ∷ [])
    ∷ (0xED ∷ 0xBF ∷ 0xBF ∷ [])
    -- section 3: "the surrogate pair ED A1 8C ED BE B4"
    ∷ (0xED ∷ 0xA1 ∷ 0x8C ∷ 0xED ∷ 0xBE ∷ 0xB4 ∷ [])
    -- U+110000, and first bytes that there are not
    ∷ (0xF4 ∷ 0x90 ∷ 0x80 ∷ 0x80 ∷ [])
    ∷ (0xF5 ∷ 0x80 ∷ 0x80 ∷ 0x80 ∷ [])
    ∷ (0xFF ∷ [])
    -- no first byte asks for it
    ∷ (0x80 ∷ [])
    -- cut off, at the end and before another character
    ∷ (0xE2 ∷ 0x82 ∷ [])
    ∷ (0xE2 ∷ 0x82 ∷ 0x41 ∷ [])
    ∷ []

bad_refused : map utf8 bad ≡ replicate (length bad) false
unfolding bad follows lowest highest tailed
bad_refused = refl

ascii_to_7_F : ascii (0x00 ∷ 0x41 ∷ 0x7F ∷ []) ≡ true
unfolding ascii
ascii_to_7_F = refl

no_ascii : ascii (0x41 ∷ 0x80 ∷ []) ≡ false
unfolding ascii
no_ascii = refl
