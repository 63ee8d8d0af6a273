-- The answers about a fixed header, of the deframer, of the end of a stream and of the reader as numbers: "For an answer that is an enum, a
-- definition gives this paper's number and values for each of its cases."
use Rattle.std.specs.Prelude.{ℕ, ◌≡◌, List, Result, Ok, Err}
use Rattle.fixed_header.specs.Header.{parsed}
use Rattle.deframer.specs.Deframe.{Out, deframed}
use Rattle.fixed_header.specs.declared.FrameType.{FrameType}
use Rattle.fixed_header.specs.declared.FrameType.TheVariants as types
use Rattle.fixed_header.specs.declared.FixedHeader.{FixedHeader}
use Rattle.deframer.specs.declared.Deframer.{Deframer}
use Rattle.deframer.specs.Progress.{Progress}
use Rattle.deframer.specs.Progress.{Frame, NeedMore, Refused}
use Rattle.deframer.specs.End.{End}
use Rattle.deframer.specs.End as end
use Rattle.message.specs.Frames.{Answer}

-- "data type | 0 unary, 1 stream"; "stream type | 1 Init, 2 Data, 3 Feedback, 4 Close": the stream type, and 0 for unary
abbrev pub type_number : FrameType → ℕ
type_number types.Unary = 0
type_number types.Init = 1
type_number types.Data = 2
type_number types.Feedback = 3
type_number types.Close = 4

-- A header says type, sizes, id and version, or it is refused.
abbrev pub parsed_error : Result FixedHeader ℕ → ℕ
parsed_error (Ok h) = 0
parsed_error (Err code) = code

-- what a good one says; of a refused one all is zero
abbrev pub header_given : Result FixedHeader ℕ → FixedHeader
header_given (Ok h) = h
header_given (Err code) = record { frame_type = types.Unary; total = 0; header_size = 0; id = 0; version = 0 }

-- so a call of `trpc_header_parse` gave the number that is returned and the five that it hands out
pub record ParsedAs (c : ℕ) (bytes : List ℕ) (code frame_type total header_size id version : ℕ) : Type 0 where
  pub code_is : code ≡ parsed_error (parsed c bytes)
  pub type_is : frame_type ≡ type_number (header_given (parsed c bytes)).frame_type
  pub total_is : total ≡ (header_given (parsed c bytes)).total
  pub header_size_is : header_size ≡ (header_given (parsed c bytes)).header_size
  pub id_is : id ≡ (header_given (parsed c bytes)).id
  pub version_is : version ≡ (header_given (parsed c bytes)).version

-- "The state is a count of held bytes and a refusal number (0 for none)."
abbrev pub deframer_of : (held error : ℕ) → Deframer
deframer_of held error = record { held = held; error = error }

-- what a call of the deframer gives
abbrev pub deframed_from : (c held error : ℕ) → (buffer piece : List ℕ) → Out
deframed_from c held error buffer piece = deframed c (deframer_of held error) buffer piece

-- "The answer is one of three: a whole frame with its size, more is needed, or a refusal"
abbrev pub progress_error : Progress → ℕ
progress_error (Frame size) = 0
progress_error NeedMore = 0
progress_error (Refused code) = code

abbrev pub progress_size : Progress → ℕ
progress_size (Frame size) = size
progress_size NeedMore = 0
progress_size (Refused code) = 0

-- "with it come the next state and the count taken": a call of `trpc_deframe` gave the number that is returned, and left state, buffer,
-- count taken and the frame's size
pub record DeframedAs (c held error : ℕ) (buffer piece : List ℕ)
    (code held₁ error₁ : ℕ) (buffer₁ : List ℕ) (taken size : ℕ) : Type 0 where
  pub code_is : code ≡ progress_error (deframed_from c held error buffer piece).step.progress
  pub size_is : size ≡ progress_size (deframed_from c held error buffer piece).step.progress
  pub state_is : deframer_of held₁ error₁ ≡ (deframed_from c held error buffer piece).step.next
  pub taken_is : taken ≡ (deframed_from c held error buffer piece).step.taken
  pub buffer_is : buffer₁ ≡ (deframed_from c held error buffer piece).buffer

-- "The end verdict, asked with state and buffer, is clean (nothing held), short with the count held, or the refusal."
abbrev pub end_error : End → ℕ
end_error end.Clean = 0
end_error (end.Short count) = 0
end_error (end.Refused code) = code

abbrev pub end_short : End → ℕ
end_short end.Clean = 0
end_short (end.Short count) = count
end_short (end.Refused code) = 0

-- A reading is a record or the refusal.
abbrev pub answer_error : Answer → ℕ
answer_error (Ok r) = 0
answer_error (Err code) = code
