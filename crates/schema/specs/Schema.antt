-- The messages of source document 000: each field's number, name and type. One definition of reading goes by this description.
use Rattle.std.specs.Prelude.{ℕ, suc, ◌+◌, cond, eqb, ltb}
use Prim.Native.String.{String}

pub data Integer : Type 0 where
  uint32 : Integer
  int32 : Integer

-- The fields of a message by rising number. A record has slots in the same order: one for a number, two for bytes (start and length),
-- none for a map, whose rows are apart, and for a message its present mark and then its own slots.
pub data Schema : Type 0 where
  done : Schema
  number : Integer → (n : ℕ) (name : String) → Schema → Schema
  bytes : (n : ℕ) (name : String) → Schema → Schema
  map : (n : ℕ) (name : String) → Schema → Schema
  message : (n : ℕ) (name : String) (inner : Schema) → Schema → Schema

unfoldable pub width : Schema → ℕ
width done = 0
width (number type n name more) = suc (width more)
width (bytes n name more) = suc (suc (width more))
width (map n name more) = width more
width (message n name inner more) = suc (width inner + width more)

-- "Request: version 1, call_type 2, request_id 3, timeout 4, caller 5, callee 6, func 7, message_type 8, trans_info 9, content_type 10,
-- content_encoding 11, attachment_size 12."
abbrev pub request : Schema
request =
    number uint32 1 "version"
    (number uint32 2 "call_type"
    (number uint32 3 "request_id"
    (number uint32 4 "timeout"
    (bytes 5 "caller"
    (bytes 6 "callee"
    (bytes 7 "func"
    (number uint32 8 "message_type"
    (map 9 "trans_info"
    (number uint32 10 "content_type"
    (number uint32 11 "content_encoding"
    (number uint32 12 "attachment_size"
    done)))))))))))

-- "Response: version 1, call_type 2, request_id 3, ret 4, func_ret 5, error_msg 6, message_type 7, trans_info 8, content_type 9,
-- content_encoding 10, attachment_size 12 (there is no 11)."
abbrev pub response : Schema
response =
    number uint32 1 "version"
    (number uint32 2 "call_type"
    (number uint32 3 "request_id"
    (number int32 4 "ret"
    (number int32 5 "func_ret"
    (bytes 6 "error_msg"
    (number uint32 7 "message_type"
    (map 8 "trans_info"
    (number uint32 9 "content_type"
    (number uint32 10 "content_encoding"
    (number uint32 12 "attachment_size"
    done))))))))))

-- "request_meta 1 (caller 1, callee 2, func 3, message_type 4, trans_info 5)"
abbrev pub request_meta : Schema
request_meta =
    bytes 1 "caller"
    (bytes 2 "callee"
    (bytes 3 "func"
    (number uint32 4 "message_type"
    (map 5 "trans_info"
    done))))

-- "response_meta 2 (ret 1, error_msg 2)"
abbrev pub response_meta : Schema
response_meta =
    number int32 1 "ret"
    (bytes 2 "error_msg"
    done)

-- "Init: request_meta 1, response_meta 2, init_window_size 3, content_type 4, content_encoding 5."
abbrev pub init : Schema
init =
    message 1 "request_meta" request_meta
    (message 2 "response_meta" response_meta
    (number uint32 3 "init_window_size"
    (number uint32 4 "content_type"
    (number uint32 5 "content_encoding"
    done))))

-- "Feedback: window_size_increment 1."
abbrev pub feedback : Schema
feedback =
    number uint32 1 "window_size_increment"
    done

-- "Close: close_type 1, ret 2, msg 3, message_type 4, trans_info 5, func_ret 6."
abbrev pub close : Schema
close =
    number int32 1 "close_type"
    (number int32 2 "ret"
    (bytes 3 "msg"
    (number uint32 4 "message_type"
    (map 5 "trans_info"
    (number int32 6 "func_ret"
    done)))))

-- "A map entry is a message of key 1 and value 2."
abbrev pub entry : Schema
entry =
    bytes 1 "key"
    (bytes 2 "value"
    done)

-- ---- the schema numbers, by which reader and writer name a message

-- the message of a schema number, in the order of the kinds; of any other number one that has no fields, as Data
unfoldable pub schema_at : ℕ → Schema
schema_at n =
    cond (eqb n 0) request
    (cond (eqb n 1) response
    (cond (eqb n 2) init
    (cond (eqb n 4) feedback
    (cond (eqb n 5) close
    done))))

-- and 6 and 7 for the parts of Init
unfoldable pub part_schema : ℕ → Schema
part_schema n = cond (eqb n 6) request_meta (cond (eqb n 7) response_meta (schema_at n))

-- the first slot of a message: the parts of Init have theirs after their present marks
unfoldable pub slot_at : ℕ → ℕ
slot_at n = cond (eqb n 6) 1 (cond (eqb n 7) 9 0)

-- the slots of a record: Init, the largest message, has 15
abbrev pub slot_count : ℕ
slot_count = 16

-- a caller names a message and no part of one: any other number names a message that has no fields, as Data (`message_number_lem`)
abbrev pub message_number : ℕ → ℕ
message_number n = cond (ltb n 6) n 3
