-- The frames, records and jobs of the examples. What an example does not name is 0 or empty; the id is 7
use Rattle.std.specs.Prelude.{ℕ, ◌+◌, ◌-◌, List, [], ◌∷◌, ◌++◌, ℤ, pos, length, replicate}
use Rattle.message.specs.Frames.{Reading}
use Rattle.records.specs.declared.Span.{Span}
use Rattle.records.specs.declared.Record.{Record}
use Rattle.records.specs.declared.Record.TheVariants.{Request, Response, Feedback}
use Rattle.std.specs.Prelude.{Ok, Err}
use Rattle.queue.specs.declared.Job.{Job}

-- a fixed header: magic, data and stream type, the four bytes of the total, the second byte of the header size
abbrev pub fixed_header : (first second data_type stream_type : ℕ) → (total : List ℕ) → (header_size : ℕ) → List ℕ
fixed_header first second data_type stream_type total header_size =
    first ∷ second ∷ data_type ∷ stream_type ∷ (total ++ (0 ∷ header_size ∷ 0 ∷ 0 ∷ 0 ∷ 7 ∷ 0 ∷ 0 ∷ []))

-- a total below 256
abbrev pub small : ℕ → List ℕ
small total = 0 ∷ 0 ∷ 0 ∷ total ∷ []

abbrev pub unary : (total : List ℕ) → (header_size : ℕ) → List ℕ
unary total header_size = fixed_header 0x09 0x30 0 0 total header_size

-- a stream frame of 16 bytes
abbrev pub streamed : (stream_type : ℕ) → List ℕ
streamed stream_type = fixed_header 0x09 0x30 1 stream_type (small 16) 0

-- a frame of a header message and a body; one of a stream message
abbrev pub unary_frame : (header body : List ℕ) → List ℕ
unary_frame header body = unary (small (16 + length header + length body)) (length header) ++ header ++ body

abbrev pub stream_frame : (stream_type : ℕ) → (message : List ℕ) → List ℕ
stream_frame stream_type message = fixed_header 0x09 0x30 1 stream_type (small (16 + length message)) 0 ++ message

-- ---- what frames read as
abbrev pub none : Span
none = record { start = 0; len = 0 }

abbrev pub request_of : (header_version version timeout : ℕ) → (func : Span) → (rows : ℕ) → Record
request_of header_version version timeout func rows =
    Request (record {
      id = 7;
      header_version = header_version;
      version = version;
      call_type = 0;
      request_id = 0;
      timeout = timeout;
      caller = none;
      callee = none;
      func = func;
      message_type = 0;
      content_type = 0;
      content_encoding = 0;
      attachment_size = 0;
      rows = rows;
    })

abbrev pub request : (timeout : ℕ) → (func : Span) → (rows : ℕ) → Record
request timeout func rows = request_of 0 0 timeout func rows

abbrev pub response : (ret : ℤ) → (attachment : ℕ) → Record
response ret attachment =
    Response (record {
      id = 7;
      header_version = 0;
      version = 0;
      call_type = 0;
      request_id = 0;
      ret = ret;
      func_ret = pos 0;
      error_msg = none;
      message_type = 0;
      content_type = 0;
      content_encoding = 0;
      attachment_size = attachment;
      rows = 0;
    })

abbrev pub feedback : (increment : ℕ) → Record
feedback increment = Feedback (record { id = 7; header_version = 0; window_size_increment = increment; rows = 0 })

-- a record with its header, its body, its attachment and the row numbers up to the last that is not 0
abbrev pub whole : Record → (header body attachment rows : List ℕ) → Reading
whole r header body attachment rows =
    record { answer = Ok r; header = header; body = body; attachment = attachment; rows = rows ++ replicate (256 - length rows) 0 }

-- with a header only
abbrev pub plain : Record → (header : List ℕ) → Reading
plain r header = whole r header [] [] []

abbrev pub refused : ℕ → Reading
refused number = record { answer = Err number; header = []; body = []; attachment = []; rows = replicate 256 0 }

-- ---- a job, and one at arrival 0
abbrev pub arriving : (arrival request timeout : ℕ) → Job
arriving arrival request timeout = record { connection = 1; request = request; timeout = timeout; zero = 0; arrival = arrival }

abbrev pub at_zero : (request timeout : ℕ) → Job
at_zero request timeout = arriving 0 request timeout
