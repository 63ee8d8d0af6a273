-- Document 01, "The 16 bytes": what a fixed header says, and the error code (document 01: refusal number) of a bad one
use Rattle.std.specs.Prelude.{ℕ, ◌+◌, ◌-◌, ◌*◌, ◌%◌, ◌<◌, ◌≤◌, ◌⊎◌, List, Bool, cond, Result, Ok, Err, ◌&&◌, ◌||◌, eqb, ltb, leb, length, take, get_or}
use Rattle.laws.specs.Chains.{unless}
use Rattle.fixed_header.specs.declared.FixedHeader.{FixedHeader}
use Rattle.fixed_header.specs.declared.FrameType.{FrameType}
use Rattle.fixed_header.specs.declared.FrameType.TheVariants.{Unary, Init, Data, Feedback, Close}

-- Document 01's "16 to 65,536": the largest ceiling
abbrev pub max_frame : ℕ
max_frame = 65536

-- Document 02, P11: "The header judge is now told a ceiling, from 16 to 65,536". The test, and the same as a premise of laws
unfoldable pub ceiling_ok : ℕ → Bool
ceiling_ok c = leb 16 c && leb c max_frame

abbrev pub CeilingOk : ℕ → Type 0
CeilingOk c = (16 ≤ c) × (c ≤ max_frame)

-- the ground of 41: "ceiling outside the range"
abbrev pub WrongCeiling : ℕ → Type 0
WrongCeiling c = (c < 16) ⊎ (max_frame < c)

-- "Numbers are big-endian": the two and the four bytes at a place. Places are counted from 0, the paper's bytes from 1
unfoldable pub be16_of : List ℕ → ℕ → ℕ
be16_of h at = get_or h at 0 * 256 + get_or h (at + 1) 0

unfoldable pub be32_of : List ℕ → ℕ → ℕ
be32_of h at = be16_of h at * 65536 + be16_of h (at + 2)

-- "5-8 | total size, these 16 included"
unfoldable pub total_of : List ℕ → ℕ
total_of h = be32_of h 4

-- "9-10 | header size"
unfoldable pub header_size_of : List ℕ → ℕ
header_size_of h = be16_of h 8

-- "11-14 | request id or stream id | any"
unfoldable pub id_of : List ℕ → ℕ
id_of h = be32_of h 10

-- "magic | 09 30"
unfoldable pub magic_ok : ℕ → ℕ → Bool
magic_ok first second = eqb first 0x09 && eqb second 0x30

-- "data type | 0 unary, 1 stream"
unfoldable pub data_type_ok : ℕ → Bool
data_type_ok data_type = leb data_type 1

-- "stream type | 1 Init, 2 Data, 3 Feedback, 4 Close; ignored in unary"
unfoldable pub stream_type_ok : ℕ → ℕ → Bool
stream_type_ok data_type stream_type = eqb data_type 0 || (leb 1 stream_type && leb stream_type 4)

-- "total size, these 16 included | 16 to 65,536"; P11: "1, 6 and 19 speak of the ceiling"
unfoldable pub total_ok : (c total : ℕ) → Bool
total_ok c total = leb 16 total && leb total c

-- "header size | unary: at most total less 16; stream: 0". A total under 16 breaks the rule before this one, so the subtraction does not
-- stop at 0 (`good_total`).
unfoldable pub header_size_ok : ℕ → ℕ → ℕ → Bool
header_size_ok data_type total size = cond (eqb data_type 0) (leb size (total - 16)) (eqb size 0)

-- Document 02, P2: "Source document 002 calls byte 15 the protocol version and only byte 16 reserved"; "Readers accept all versions and
-- ignore byte 16." So no rule is about these two bytes. Of a byte the remainder is the byte (`version_is_byte_15`)
unfoldable pub version_of : List ℕ → ℕ
version_of h = get_or h 14 0 % 256

-- "3-8 | header judge | magic; data type; stream type; total; header size; reserved", of which document 02 takes out 8: the first that is
-- broken, 0 for none. The types have what the later rules say as their last argument.
abbrev pub type_fault : (first second data_type stream_type later : ℕ) → ℕ
type_fault first second data_type stream_type later =
    unless (magic_ok first second) 3 (unless (data_type_ok data_type) 4 (unless (stream_type_ok data_type stream_type) 5 later))

abbrev pub size_fault : (c data_type total size : ℕ) → ℕ
size_fault c data_type total size = unless (total_ok c total) 6 (unless (header_size_ok data_type total size) 7 0)

unfoldable pub fault_of : (c : ℕ) → List ℕ → ℕ
fault_of c h =
    type_fault (get_or h 0 0) (get_or h 1 0) (get_or h 2 0) (get_or h 3 0)
    (size_fault c (get_or h 2 0) (total_of h) (header_size_of h))

-- Document 01's judge of a fixed header. P11: "41 ceiling outside the range, before all others". "Order: judge 9, then 3 to 8", without 8;
-- "9 | length isn't the total (judge: not 16)"
unfoldable pub header_error : (c : ℕ) → List ℕ → ℕ
header_error c h = unless (ceiling_ok c) 41 (unless (eqb (length h) 16) 9 (fault_of c h))

-- "data type | 0 unary, 1 stream"; "1 Init, 2 Data, 3 Feedback, 4 Close"
unfoldable pub type_of : ℕ → ℕ → FrameType
type_of data_type stream_type =
    cond (eqb data_type 0) Unary
    (cond (eqb stream_type 1) Init
    (cond (eqb stream_type 2) Data
    (cond (eqb stream_type 3) Feedback
    Close)))

-- what 16 bytes say
abbrev pub header_in : List ℕ → FixedHeader
header_in h =
    record {
      frame_type = type_of (get_or h 2 0) (get_or h 3 0);
      total = total_of h;
      header_size = header_size_of h;
      id = id_of h;
      version = version_of h;
    }

-- what a good header says, and of a bad one its error code
unfoldable pub parsed : (c : ℕ) → List ℕ → Result FixedHeader ℕ
parsed c h = cond (eqb (header_error c h) 0) (Ok (header_in h)) (Err (header_error c h))

-- the total size that the first 16 bytes declare, 0 where there are fewer
unfoldable pub declared_size : List ℕ → ℕ
declared_size bytes = cond (ltb (length bytes) 16) 0 (total_of (take 16 bytes))
