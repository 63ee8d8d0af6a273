-- What the writer takes from a record: its kind, its id, its version, its fields by the order of its schema, and how many rows it has
use Rattle.std.specs.Prelude.{ℕ, Bool, cond, List, [], ◌∷◌, replicate, ℤ}
use Rattle.wire_read.specs.Varint.{low_u32}
use Rattle.wire_write.specs.Writing.{sign_extended}
use Rattle.schema.specs.Schema.{slot_count}
use Rattle.schema.specs.declared.Kind.{Kind}
use Rattle.schema.specs.declared.Kind.TheVariants as kinds
use Rattle.records.specs.declared.Record.{Record}
use Rattle.records.specs.declared.Record.TheVariants.{Request, Response, Init, Data, Feedback, Close}

unfoldable pub kind_of : Record → Kind
kind_of (Request r) = kinds.Request
kind_of (Response r) = kinds.Response
kind_of (Init r) = kinds.Init
kind_of (Data r) = kinds.Data
kind_of (Feedback r) = kinds.Feedback
kind_of (Close r) = kinds.Close

-- "the id of bytes 11-14"
unfoldable pub record_id : Record → ℕ
record_id (Request r) = r.id
record_id (Response r) = r.id
record_id (Init r) = r.id
record_id (Data r) = r.id
record_id (Feedback r) = r.id
record_id (Close r) = r.id

-- "Every record carries the version" (document 02, P2)
unfoldable pub record_version : Record → ℕ
record_version (Request r) = r.header_version
record_version (Response r) = r.header_version
record_version (Init r) = r.header_version
record_version (Data r) = r.header_version
record_version (Feedback r) = r.header_version
record_version (Close r) = r.header_version

-- "and the row count"
unfoldable pub row_count : Record → ℕ
row_count (Request r) = r.rows
row_count (Response r) = r.rows
row_count (Init r) = r.rows
row_count (Data r) = r.rows
row_count (Feedback r) = r.rows
row_count (Close r) = r.rows

-- the 32 bits of an int32, as two's complement; a present mark
abbrev pub bits : ℤ → ℕ
bits z = low_u32 (sign_extended z)

abbrev pub mark : Bool → ℕ
mark present = cond present 1 0

-- "that kind's own fields and present marks": the slots of the kind's schema, and zeros up to 16; Init, the largest, has 15
unfoldable pub slots_of : Record → List ℕ
slots_of (Request r) =
    r.version ∷ r.call_type ∷ r.request_id ∷ r.timeout
    ∷ r.caller.start ∷ r.caller.len
    ∷ r.callee.start ∷ r.callee.len
    ∷ r.func.start ∷ r.func.len
    ∷ r.message_type ∷ r.content_type ∷ r.content_encoding ∷ r.attachment_size
    ∷ 0 ∷ 0 ∷ []
slots_of (Response r) =
    r.version ∷ r.call_type ∷ r.request_id ∷ bits r.ret ∷ bits r.func_ret
    ∷ r.error_msg.start ∷ r.error_msg.len
    ∷ r.message_type ∷ r.content_type ∷ r.content_encoding ∷ r.attachment_size
    ∷ 0 ∷ 0 ∷ 0 ∷ 0 ∷ 0 ∷ []
slots_of (Init r) =
    mark r.request_meta.present
    ∷ r.request_meta.caller.start ∷ r.request_meta.caller.len
    ∷ r.request_meta.callee.start ∷ r.request_meta.callee.len
    ∷ r.request_meta.func.start ∷ r.request_meta.func.len
    ∷ r.request_meta.message_type
    ∷ mark r.response_meta.present
    ∷ bits r.response_meta.ret
    ∷ r.response_meta.error_msg.start ∷ r.response_meta.error_msg.len
    ∷ r.init_window_size ∷ r.content_type ∷ r.content_encoding
    ∷ 0 ∷ []
slots_of (Data r) = replicate slot_count 0
slots_of (Feedback r) = r.window_size_increment ∷ replicate 15 0
slots_of (Close r) =
    bits r.close_type ∷ bits r.ret
    ∷ r.msg.start ∷ r.msg.len
    ∷ r.message_type ∷ bits r.func_ret
    ∷ replicate 10 0
