-- The fixed header. "Order: judge 9, then 3 to 8", of which document 02 takes out 8 and before which it puts 41.
-- Assumes nothing.
use Rattle.std.specs.Prelude.{ℕ, ◌-◌, ◌≤◌, ◌≡◌, ◌⊎◌, List, [], ◌∷◌, length, get_or}
use Rattle.fixed_header.specs.Header.{WrongCeiling, total_of, header_size_of}
use Rattle.refusals.specs.Grounds.{Ground, ground_of, Entry, numbered}

-- the paper's byte n of a header, counted from 1: n is never 0 below
abbrev pub byte : List ℕ → ℕ → ℕ
byte h n = get_or h (n - 1) 0

-- "3 | data type | 0 unary, 1 stream"
abbrev pub Unary : List ℕ → Type 0
Unary h = byte h 3 ≡ 0

-- ---- "3-8 | header judge | magic; data type; stream type; total; header size; reserved", without the last: when each is wrong

-- "1-2 | magic | 09 30"
abbrev pub WrongMagic : List ℕ → Type 0
WrongMagic h = (byte h 1 ≡ 0x09) × (byte h 2 ≡ 0x30) → ⊥

-- "3 | data type | 0 unary, 1 stream"
abbrev pub WrongDataType : List ℕ → Type 0
WrongDataType h = (byte h 3 ≡ 0) ⊎ (byte h 3 ≡ 1) → ⊥

-- "4 | stream type | 1 Init, 2 Data, 3 Feedback, 4 Close; ignored in unary"
abbrev pub WrongStreamType : List ℕ → Type 0
WrongStreamType h = Unary h ⊎ ((1 ≤ byte h 4) × (byte h 4 ≤ 4)) → ⊥

-- "5-8 | total size, these 16 included | 16 to 65,536"; document 02, P11: "1, 6 and 19 speak of the ceiling"
abbrev pub WrongTotal : (c : ℕ) → List ℕ → Type 0
WrongTotal c h = (16 ≤ total_of h) × (total_of h ≤ c) → ⊥

-- "9-10 | header size | unary: at most total less 16; stream: 0". A total below 16, of which 16 cannot be taken, is 6 before.
abbrev pub WrongHeaderSize : List ℕ → Type 0
WrongHeaderSize h = (Unary h × (header_size_of h ≤ total_of h - 16)) ⊎ ((Unary h → ⊥) × (header_size_of h ≡ 0)) → ⊥

abbrev pub faults : (c : ℕ) → List ℕ → List Ground
faults c h =
    ground_of 3 (WrongMagic h)
    ∷ ground_of 4 (WrongDataType h)
    ∷ ground_of 5 (WrongStreamType h)
    ∷ ground_of 6 (WrongTotal c h)
    ∷ ground_of 7 (WrongHeaderSize h)
    ∷ []

-- ---- `check_header`: 41 "before all others"; "9 | length isn't the total (judge: not 16)"; "gets a number: 0 or the refusal"
abbrev pub header_grounds : (c : ℕ) → List ℕ → List Ground
header_grounds c h = ground_of 41 (WrongCeiling c) ∷ ground_of 9 (length h ≡ 16 → ⊥) ∷ faults c h

abbrev pub header_check : (c : ℕ) → List ℕ → Entry ℕ
header_check c h = numbered (header_grounds c h)
