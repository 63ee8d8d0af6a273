-- Document 01, "Checked examples": "Those marked * are shown to hold for the definitions themselves, as rows of a single table under a
-- single statement." And three rows of document 02, P2.
use Rattle.std.specs.Prelude.{ℕ, true, false, List, [], ◌∷◌, ◌++◌, ℤ, pos, negsuc, replicate}
use Rattle.fixed_header.specs.declared.FrameType.TheVariants as types
use Rattle.deframer.specs.End as end
use Rattle.schema.specs.declared.Kind.TheVariants as kinds
use Rattle.records.specs.declared.Record.TheVariants.{Init}
use Rattle.thm_examples.specs.Rows.{Row, stream, judged, says, reads, takes}
use Rattle.thm_examples.specs.Bytes.{fixed_header, small, unary, streamed, unary_frame, stream_frame, none, request_of, request}
use Rattle.thm_examples.specs.Bytes.{response, feedback, whole, plain, refused, arriving, at_zero}

-- a frame that is only a header message
abbrev pub as_request : (header : List ℕ) → (timeout : ℕ) → Row
as_request header timeout = reads kinds.Request (unary_frame header []) (plain (request timeout none 0) header)

abbrev pub as_response : (header : List ℕ) → (ret : ℤ) → Row
as_response header ret = reads kinds.Response (unary_frame header []) (plain (response ret 0) header)

abbrev pub refused_request : (header : List ℕ) → (number : ℕ) → Row
refused_request header number = reads kinds.Request (unary_frame header []) (refused number)

abbrev pub table : List Row
table =
    -- "empty stream: no frame, clean"
    stream [] [] end.Clean
    -- "09 30 00 00 00 00 00 10 00 00 00 00 00 07 00 00: unary, id 7; as a request every message field zero"
    ∷ says (0x09 ∷ 0x30 ∷ 0 ∷ 0 ∷ 0 ∷ 0 ∷ 0 ∷ 0x10 ∷ 0 ∷ 0 ∷ 0 ∷ 0 ∷ 0 ∷ 0x07 ∷ 0 ∷ 0 ∷ [])
    (record { frame_type = types.Unary; total = 16; header_size = 0; id = 7; version = 0 })
    ∷ reads kinds.Request (0x09 ∷ 0x30 ∷ 0 ∷ 0 ∷ 0 ∷ 0 ∷ 0 ∷ 0x10 ∷ 0 ∷ 0 ∷ 0 ∷ 0 ∷ 0 ∷ 0x07 ∷ 0 ∷ 0 ∷ []) (plain (request 0 none 0) [])
    -- document 02, P2: byte 15 is the version, and byte 16 is ignored; the message's `version`, here 2, is another
    ∷ says (0x09 ∷ 0x30 ∷ 0 ∷ 0 ∷ 0 ∷ 0 ∷ 0 ∷ 0x10 ∷ 0 ∷ 0 ∷ 0 ∷ 0 ∷ 0 ∷ 0x07 ∷ 1 ∷ 0 ∷ [])
    (record { frame_type = types.Unary; total = 16; header_size = 0; id = 7; version = 1 })
    ∷ says (0x09 ∷ 0x30 ∷ 0 ∷ 0 ∷ 0 ∷ 0 ∷ 0 ∷ 0x10 ∷ 0 ∷ 0 ∷ 0 ∷ 0 ∷ 0 ∷ 0x07 ∷ 0 ∷ 0xFF ∷ [])
    (record { frame_type = types.Unary; total = 16; header_size = 0; id = 7; version = 0 })
    ∷ reads kinds.Request (0x09 ∷ 0x30 ∷ 0 ∷ 0 ∷ 0 ∷ 0 ∷ 0 ∷ 0x12 ∷ 0 ∷ 2 ∷ 0 ∷ 0 ∷ 0 ∷ 0x07 ∷ 1 ∷ 0xFF ∷ 0x08 ∷ 0x02 ∷ [])
    (plain (request_of 1 2 0 none 0) (0x08 ∷ 0x02 ∷ []))
    -- "the same with total 15: 6; with 00 01 00 00 good; with 00 01 00 01: 6"
    ∷ judged (unary (0 ∷ 0 ∷ 0 ∷ 15 ∷ []) 0) 6
    ∷ judged (unary (0x00 ∷ 0x01 ∷ 0x00 ∷ 0x00 ∷ []) 0) 0
    ∷ judged (unary (0x00 ∷ 0x01 ∷ 0x00 ∷ 0x01 ∷ []) 0) 6
    -- "magic 30 09: 3"
    ∷ judged (fixed_header 0x30 0x09 0 0 (small 16) 0) 3
    -- "stream type 0: 5; 4 good; 5: 5"
    ∷ judged (streamed 0) 5
    ∷ judged (streamed 4) 0
    ∷ judged (streamed 5) 5
    -- "unary total 20, header size 4 good; 5: 7"
    ∷ judged (unary (small 20) 4) 0
    ∷ judged (unary (small 20) 5) 7
    -- "Feedback 08 AC 02: 300"
    ∷ reads kinds.Feedback (stream_frame 3 (0x08 ∷ 0xAC ∷ 0x02 ∷ [])) (plain (feedback 300) (0x08 ∷ 0xAC ∷ 0x02 ∷ []))
    -- "request 20 88 27: timeout 5,000; 20 05 20 07: timeout 7"
    ∷ as_request (0x20 ∷ 0x88 ∷ 0x27 ∷ []) 5000
    ∷ as_request (0x20 ∷ 0x05 ∷ 0x20 ∷ 0x07 ∷ []) 7
    -- "response 20, nine FF, 01: ret -1"
    ∷ as_response (0x20 ∷ (replicate 9 0xFF ++ (0x01 ∷ []))) (negsuc 0)
    -- "response 60 05 with 5 body bytes: attachment 5; with 4: 15"
    ∷ reads kinds.Response (unary_frame (0x60 ∷ 0x05 ∷ []) (1 ∷ 2 ∷ 3 ∷ 4 ∷ 5 ∷ []))
    (whole (response (pos 0) 5) (0x60 ∷ 0x05 ∷ []) (1 ∷ 2 ∷ 3 ∷ 4 ∷ 5 ∷ []) (1 ∷ 2 ∷ 3 ∷ 4 ∷ 5 ∷ []) [])
    ∷ reads kinds.Response (unary_frame (0x60 ∷ 0x05 ∷ []) (1 ∷ 2 ∷ 3 ∷ 4 ∷ [])) (refused 15)
    -- "request 7B 7C: skipped; 7B 84 01: 11"
    ∷ as_request (0x7B ∷ 0x7C ∷ []) 0
    ∷ refused_request (0x7B ∷ 0x84 ∷ 0x01 ∷ []) 11
    -- "jobs at arrival 0 with timeouts 0; 4,000,000,000; 600,000 are taken as 600,000; 4,000,000,000; 0"
    ∷ takes (at_zero 1 0 ∷ at_zero 2 4_000_000_000 ∷ at_zero 3 600_000 ∷ []) (at_zero 3 600_000 ∷ at_zero 2 4_000_000_000 ∷ at_zero 1 0 ∷ [])
    ∷ []

-- a map entry a = 1, one of key b only, and a = 2
abbrev pub repeated_key : List ℕ
repeated_key =
    0x4A ∷ 0x06 ∷ 0x0A ∷ 0x01 ∷ 0x61 ∷ 0x12 ∷ 0x01 ∷ 0x31
    ∷ 0x4A ∷ 0x03 ∷ 0x0A ∷ 0x01 ∷ 0x62
    ∷ 0x4A ∷ 0x06 ∷ 0x0A ∷ 0x01 ∷ 0x61 ∷ 0x12 ∷ 0x01 ∷ 0x32 ∷ []

-- a request_meta of caller a, and one of func b
abbrev pub repeated_meta : List ℕ
repeated_meta = 0x0A ∷ 0x03 ∷ 0x0A ∷ 0x01 ∷ 0x61 ∷ 0x0A ∷ 0x03 ∷ 0x1A ∷ 0x01 ∷ 0x62 ∷ []

-- the lines of document 01 that are not marked, and borders of its rules
abbrev pub further : List Row
further =
    -- "stream, header size 1: 7"
    judged (fixed_header 0x09 0x30 1 1 (small 20) 1) 7
    -- "Due time is arrival plus timeout": 100 and 5 are later than 0 and 20
    ∷ takes (arriving 100 1 5 ∷ arriving 0 2 20 ∷ []) (arriving 0 2 20 ∷ arriving 100 1 5 ∷ [])
    -- "response 58 05: attachment 0"
    ∷ as_response (0x58 ∷ 0x05 ∷ []) (pos 0)
    -- "nine FF then 02 as a varint: 10"
    ∷ refused_request (0x20 ∷ (replicate 9 0xFF ++ (0x02 ∷ []))) 10
    -- "Refusing a wrong magic at its first byte: a stream of that one byte must end short"
    ∷ stream (0x30 ∷ []) [] (end.Short 1)
    -- "Input 09 30 01 03 .. prints exactly": a Feedback of id 5 and 19 bytes, and one byte more
    ∷ stream
    (0x09 ∷ 0x30 ∷ 0x01 ∷ 0x03 ∷ 0 ∷ 0 ∷ 0 ∷ 0x13 ∷ 0 ∷ 0 ∷ 0 ∷ 0 ∷ 0 ∷ 0x05 ∷ 0 ∷ 0 ∷ 0x08 ∷ 0xAC ∷ 0x02 ∷ 0x09 ∷ [])
    ((0x09 ∷ 0x30 ∷ 0x01 ∷ 0x03 ∷ 0 ∷ 0 ∷ 0 ∷ 0x13 ∷ 0 ∷ 0 ∷ 0 ∷ 0 ∷ 0 ∷ 0x05 ∷ 0 ∷ 0 ∷ 0x08 ∷ 0xAC ∷ 0x02 ∷ []) ∷ [])
    (end.Short 1)
    -- "The attachment is the last attachment_size bytes of the body": 5 of 6
    ∷ reads kinds.Response (unary_frame (0x60 ∷ 0x05 ∷ []) (1 ∷ 2 ∷ 3 ∷ 4 ∷ 5 ∷ 6 ∷ []))
    (whole (response (pos 0) 5) (0x60 ∷ 0x05 ∷ []) (1 ∷ 2 ∷ 3 ∷ 4 ∷ 5 ∷ 6 ∷ []) (2 ∷ 3 ∷ 4 ∷ 5 ∷ 6 ∷ []) [])
    -- a known field with another wire type: timeout as bytes, func as a number
    ∷ as_request (0x22 ∷ 0x01 ∷ 0x61 ∷ 0x38 ∷ 0x05 ∷ []) 0
    -- bytes, and an empty field that comes later
    ∷ reads kinds.Request (unary_frame (0x3A ∷ 0x02 ∷ 0x61 ∷ 0x62 ∷ []) [])
    (plain (request 0 (record { start = 18; len = 2 }) 0) (0x3A ∷ 0x02 ∷ 0x61 ∷ 0x62 ∷ []))
    ∷ as_request (0x3A ∷ 0x02 ∷ 0x61 ∷ 0x62 ∷ 0x3A ∷ 0x00 ∷ []) 0
    -- "A key that comes again keeps its row and takes the new value": a = 1, b, a = 2
    ∷ reads kinds.Request (unary_frame repeated_key []) (whole (request 0 none 2) repeated_key [] [] (20 ∷ 1 ∷ 36 ∷ 1 ∷ 28 ∷ 1 ∷ []))
    -- "A message field that comes again is merged into the earlier one": a request_meta with caller, and one with func
    ∷ reads kinds.Init (stream_frame 1 repeated_meta)
    (plain
    (Init (record {
      id = 7;
      header_version = 0;
      request_meta = record {
        present = true;
        caller = record { start = 20; len = 1 };
        callee = none;
        func = record { start = 25; len = 1 };
        message_type = 0;
      };
      response_meta = record { present = false; ret = pos 0; error_msg = none };
      init_window_size = 0;
      content_type = 0;
      content_encoding = 0;
      rows = 0;
    }))
    repeated_meta)
    -- the wrong kind of frame
    ∷ reads kinds.Close (stream_frame 3 []) (refused 9)
    ∷ []
