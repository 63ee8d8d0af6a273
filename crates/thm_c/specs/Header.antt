-- What a caller in C sees of a call of `trpc_header_check` and of `trpc_header_parse`, where each gives what its contract ensures.
-- The numbers are read as include/bekurapi.h says.
use Rattle.std.specs.Prelude.{ℕ, ◌≡◌, cond, List, Result, Ok, Err, eqb}
use Rattle.fixed_header.specs.Header.{header_error}
use Rattle.fixed_header.specs.declared.FrameType.{FrameType}
use Rattle.fixed_header.specs.declared.FrameType.TheVariants.{Unary, Init, Data, Feedback, Close}
use Rattle.fixed_header.specs.declared.FixedHeader.{FixedHeader}
use Rattle.bekurapi.specs.Answers.{ParsedAs}

-- what C has after a call of `trpc_header_parse`: the number returned, and what is in the five that were lent
pub record CParsed : Type 0 where
  pub code : ℕ
  pub frame_type : ℕ
  pub total : ℕ
  pub header_size : ℕ
  pub id : ℕ
  pub version : ℕ

-- ---- the `ensures` of each function, of what a call of it gave

-- `trpc_header_check` only returns a number
abbrev pub CChecks : (c : ℕ) → (bytes : List ℕ) (code : ℕ) → Type 0
CChecks c bytes code = code ≡ header_error c bytes

abbrev pub CParses : (c : ℕ) → (bytes : List ℕ) → CParsed → Type 0
CParses c bytes x = ParsedAs c bytes x.code x.frame_type x.total x.header_size x.id x.version

-- ---- what the numbers say

-- "0 unary", and "1 Init, 2 Data, 3 Feedback, 4 Close"
abbrev pub type_from : ℕ → FrameType
type_from n = cond (eqb n 0) Unary (cond (eqb n 1) Init (cond (eqb n 2) Data (cond (eqb n 3) Feedback Close)))

-- the error code, or what the header says
abbrev pub header_from : CParsed → Result FixedHeader ℕ
header_from x =
    cond (eqb x.code 0)
    (Ok (record {
      frame_type = type_from x.frame_type;
      total = x.total;
      header_size = x.header_size;
      id = x.id;
      version = x.version;
    }))
    (Err x.code)
