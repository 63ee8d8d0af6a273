-- Document 01, "The 16 bytes", as they are written
use Rattle.std.specs.Prelude.{ℕ, ◌/◌, ◌%◌, ◌^◌, ◌<◌, ◌≡◌, true, cond, List, [], ◌∷◌, ◌++◌, leb, length, drop}
use Rattle.fixed_header.specs.Header.{CeilingOk, total_ok, header_size_ok}
use Rattle.fixed_header.specs.declared.FixedHeader.{FixedHeader}
use Rattle.fixed_header.specs.declared.FrameType.{FrameType}
use Rattle.fixed_header.specs.declared.FrameType.TheVariants.{Unary, Init, Data, Feedback, Close}

-- "Numbers are big-endian": the low 16 and the low 32 bits of a number. `header_back` (proofs/RoundTrip) has the headers of which that is
-- all
abbrev pub put16 : ℕ → List ℕ
put16 n = (n / 256 % 256) ∷ (n % 256) ∷ []

abbrev pub put32 : ℕ → List ℕ
put32 n = put16 (n / 65536) ++ put16 (n % 65536)

-- "0 unary, 1 stream"
abbrev pub data_type_of : FrameType → ℕ
data_type_of Unary = 0
data_type_of Init = 1
data_type_of Data = 1
data_type_of Feedback = 1
data_type_of Close = 1

-- "1 Init, 2 Data, 3 Feedback, 4 Close; ignored in unary, written 0"
abbrev pub stream_type_of : FrameType → ℕ
stream_type_of Unary = 0
stream_type_of Init = 1
stream_type_of Data = 2
stream_type_of Feedback = 3
stream_type_of Close = 4

-- "magic 09 30". Document 02, P2: "the writer writes the version given and 0 in byte 16". Of a version of 8 bits the remainder is the
-- version (`version_back` in proofs/RoundTrip)
unfoldable pub fixed_header : FixedHeader → List ℕ
fixed_header h =
    0x09 ∷ 0x30 ∷ data_type_of h.frame_type ∷ stream_type_of h.frame_type
    ∷ put32 h.total ++ put16 h.header_size ++ put32 h.id ++ (h.version % 256) ∷ 0 ∷ []

-- a header that keeps the rules of document 01 under a ceiling in range, with an id of 32 bits and a version of 8
pub record Keeps (c : ℕ) (h : FixedHeader) : Type 0 where
  pub in_range : CeilingOk c
  pub total_good : total_ok c h.total ≡ true
  pub size_good : header_size_ok (data_type_of h.frame_type) h.total h.header_size ≡ true
  pub id_small : h.id < 2 ^ 32
  pub version_small : h.version < 2 ^ 8

-- how many bytes were put, and the output afterwards
pub record Output : Type 0 where
  pub count : ℕ
  pub output : List ℕ

-- the 16 bytes at the start of an output that has as many, and nothing in a shorter one
unfoldable pub header_put : FixedHeader → (output : List ℕ) → Output
header_put h output =
    cond (leb 16 (length output)) (record { count = 16; output = fixed_header h ++ drop 16 output }) (record { count = 0; output = output })
