-- RFC 3629, section 3: the numbers that have an encoding, and the table of their bytes.
use Rattle.std.specs.Prelude.{ℕ, ◌+◌, ◌/◌, ◌%◌, ◌≤◌, ◌<◌, ◌≡◌, cond, ◌⊎◌, List, [], ◌∷◌, ◌++◌, leb}

unfoldable pub encode : ℕ → List ℕ
encode c =
    cond (leb c 0x7F) (c ∷ [])
    (cond (leb c 0x7FF) ((0xC0 + c / 64) ∷ (0x80 + c % 64) ∷ [])
    (cond (leb c 0xFFFF) ((0xE0 + c / 4096) ∷ (0x80 + c / 64 % 64) ∷ (0x80 + c % 64) ∷ [])
    ((0xF0 + c / 262144) ∷ (0x80 + c / 4096 % 64) ∷ (0x80 + c / 64 % 64) ∷ (0x80 + c % 64) ∷ [])))

-- up to U+10FFFF, and no surrogate
pub record Scalar (c : ℕ) : Type 0 where
  pub top : c ≤ 0x10FFFF
  pub plain : (c < 0xD800) ⊎ (0xDFFF < c)

pub data Scalars : List ℕ → Type 0 where
  none : Scalars []
  more : {c : ℕ} {cs : List ℕ} → Scalar c → Scalars cs → Scalars (c ∷ cs)

unfoldable pub encodes : List ℕ → List ℕ
encodes [] = []
encodes (c ∷ cs) = encode c ++ encodes cs

-- "UTF-8 by RFC 3629: shortest form, no surrogates, nothing above U+10FFFF": the encodings of numbers, end to end
abbrev pub Utf8 : List ℕ → Type 0
Utf8 x = (cs : List ℕ) × Scalars cs × (encodes cs ≡ x)
