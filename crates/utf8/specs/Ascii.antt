-- RFC 3629, section 4: "UTF8-1 = %x00-7F", the characters of one byte
use Rattle.std.specs.Prelude.{ℕ, Bool, true, ◌&&◌, List, [], ◌∷◌, leb}

-- every byte is a character of its own
unfoldable pub ascii : List ℕ → Bool
ascii [] = true
ascii (b ∷ s) = leb b 0x7F && ascii s
