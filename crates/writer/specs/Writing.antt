-- Writing a frame: the refusal or the bytes, and the output afterwards
use Rattle.std.specs.Prelude.{ℕ, ◌+◌, cond, List, ◌++◌, length, drop, leb, eqb, Result, Ok, Err}
use Rattle.laws.specs.Chains.{unless}
use Rattle.fixed_header.specs.Header.{ceiling_ok}
use Rattle.fixed_header.specs.Put.{fixed_header}
use Rattle.fixed_header.specs.declared.FixedHeader.{FixedHeader}
use Rattle.fixed_header.specs.declared.FrameType.{FrameType}
use Rattle.fixed_header.specs.declared.FrameType.TheVariants.{Unary, Init, Data, Feedback, Close}
use Rattle.decoder.specs.Rows.{rows_in, Row}
use Rattle.schema.specs.Kinds.{schema_of}
use Rattle.schema.specs.declared.Kind.{Kind}
use Rattle.schema.specs.declared.Kind.TheVariants as kinds
use Rattle.records.specs.declared.Record.{Record}
use Rattle.records.specs.Content.{kind_of, record_id, record_version, row_count, slots_of}
use Rattle.writer.specs.Encoding.{put_fields}
use Rattle.writer_checks.specs.Grounds.{content_error}

-- ---- "The 16 bytes"
-- "data type | 0 unary, 1 stream"; "stream type | 1 Init, 2 Data, 3 Feedback, 4 Close"
abbrev pub frame_type_of : Kind → FrameType
frame_type_of kinds.Request = Unary
frame_type_of kinds.Response = Unary
frame_type_of kinds.Init = Init
frame_type_of kinds.Data = Data
frame_type_of kinds.Feedback = Feedback
frame_type_of kinds.Close = Close

-- "header size | unary: at most total less 16; stream: 0": that of a message of `size` bytes
abbrev pub header_size_of : FrameType → (size : ℕ) → ℕ
header_size_of Unary size = size
header_size_of Init size = 0
header_size_of Data size = 0
header_size_of Feedback size = 0
header_size_of Close size = 0

-- the fixed header of a frame with this message and this body
abbrev pub header_for : Kind → (id version : ℕ) → (message body : List ℕ) → FixedHeader
header_for kind id version message body =
    record {
      frame_type = frame_type_of kind;
      total = 16 + length message + length body;
      header_size = header_size_of (frame_type_of kind) (length message);
      id = id;
      version = version;
    }

-- ---- the frame
-- the rows of a record, four numbers each
abbrev pub rows_of : Record → (numbers : List ℕ) → List Row
rows_of r numbers = rows_in (row_count r) numbers

-- the header message
abbrev pub message_of : Record → (source numbers : List ℕ) → List ℕ
message_of r source numbers = put_fields source (rows_of r numbers) (schema_of (kind_of r)) 0 (slots_of r)

-- "A unary frame is these 16, the header message, then the body. A stream frame is these 16, then its message, or raw bytes for Data." A
-- Data frame's message is empty, and a body with the other stream kinds is refused.
unfoldable pub frame_of : Record → (source numbers body : List ℕ) → List ℕ
frame_of r source numbers body =
    fixed_header (header_for (kind_of r) (record_id r) (record_version r) (message_of r source numbers) body)
    ++ message_of r source numbers ++ body

-- ---- the refusals
-- "frame over 65,536", "output shorter than the frame": by the sizes of frame and output. Document 02, P11: "1, 6 and 19 speak of the
-- ceiling"
unfoldable pub size_error : (c total room : ℕ) → ℕ
size_error c total room = unless (leb total c) 19 (unless (leb total room) 27 0)

-- "Writer 18's first three grounds, 17, 18's others, 15, 19, 20, 27." Document 02 took 20 out. Those up to 15 are in `writer_checks`. The
-- first that holds, 0 for none. P11: "41 ceiling outside the range, before all others"
unfoldable pub write_error : (c : ℕ) → Record → (source numbers body : List ℕ) → (room : ℕ) → ℕ
write_error c r source numbers body room =
    unless (ceiling_ok c) 41
    (unless (eqb (content_error (kind_of r) (slots_of r) (row_count r) source numbers (length body)) 0)
    (content_error (kind_of r) (slots_of r) (row_count r) source numbers (length body))
    (size_error c (length (frame_of r source numbers body)) room))

-- ---- writing
-- how many bytes the frame has, or the refusal's number; and the output afterwards
pub record Writing : Type 0 where
  pub answer : Result ℕ ℕ
  pub output : List ℕ

-- "all others leave rows, output and list untouched"
abbrev pub refused_with : ℕ → List ℕ → Writing
refused_with code output = record { answer = Err code; output = output }

-- "Bytes past the frame stay as they were."
abbrev pub wrote : List ℕ → List ℕ → Writing
wrote frame output = record { answer = Ok (length frame); output = frame ++ drop (length frame) output }

-- "The writer takes a record, the bytes its starts refer to, its rows and a body." "A number is given exactly when its ground holds and
-- none before it in the order does; with no ground the entry does its work."
abbrev pub written : (c : ℕ) → Record → (source numbers body output : List ℕ) → Writing
written c r source numbers body output =
    cond (eqb (write_error c r source numbers body (length output)) 0)
    (wrote (frame_of r source numbers body) output)
    (refused_with (write_error c r source numbers body (length output)) output)

-- "a refused write counts 0 bytes": what each answer says, as the paper's numbers
unfoldable pub count_of : Result ℕ ℕ → ℕ
count_of (Ok size) = size
count_of (Err code) = 0

unfoldable pub error_of : Result ℕ ℕ → ℕ
error_of (Ok size) = 0
error_of (Err code) = code
