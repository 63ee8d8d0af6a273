-- What a record says: the values of a message's slots, by its schema's order
use Rattle.std.specs.Prelude.{ℕ, ◌+◌, not, List, get_or, eqb}
use Rattle.wire_read.specs.Varint.{low_i32}
use Rattle.schema.specs.declared.Kind.{Kind}
use Rattle.schema.specs.declared.Kind.TheVariants as kinds
use Rattle.records.specs.declared.Span.{Span}
use Rattle.records.specs.declared.RequestMeta.{RequestMeta}
use Rattle.records.specs.declared.ResponseMeta.{ResponseMeta}
use Rattle.records.specs.declared.Record.{Record}
use Rattle.records.specs.declared.Record.TheVariants.{Request, Response, Init, Data, Feedback, Close}

-- "A byte field is a start and length"
abbrev pub span_at : List ℕ → ℕ → Span
span_at l i = record { start = get_or l i 0; len = get_or l (i + 1) 0 }

-- "Both meta parts of Init carry a present mark."
abbrev pub request_meta_of : List ℕ → RequestMeta
request_meta_of l =
    record {
      present = not (eqb (get_or l 0 0) 0);
      caller = span_at l 1;
      callee = span_at l 3;
      func = span_at l 5;
      message_type = get_or l 7 0;
    }

abbrev pub response_meta_of : List ℕ → ResponseMeta
response_meta_of l = record { present = not (eqb (get_or l 8 0) 0); ret = low_i32 (get_or l 9 0); error_msg = span_at l 10 }

-- "Beside its kind, a record is the id of bytes 11-14, that kind's own fields and present marks, and the row count; no more." Document 02,
-- P2: "Every record carries the version" of byte 15. The `version` of a request or a response is a field of its message, another thing
unfoldable pub record_of : Kind → (id header_version : ℕ) → (slots : List ℕ) → (rows : ℕ) → Record
record_of kinds.Request id header_version l rows =
    Request (record {
      id = id;
      header_version = header_version;
      version = get_or l 0 0;
      call_type = get_or l 1 0;
      request_id = get_or l 2 0;
      timeout = get_or l 3 0;
      caller = span_at l 4;
      callee = span_at l 6;
      func = span_at l 8;
      message_type = get_or l 10 0;
      content_type = get_or l 11 0;
      content_encoding = get_or l 12 0;
      attachment_size = get_or l 13 0;
      rows = rows;
    })
record_of kinds.Response id header_version l rows =
    Response (record {
      id = id;
      header_version = header_version;
      version = get_or l 0 0;
      call_type = get_or l 1 0;
      request_id = get_or l 2 0;
      ret = low_i32 (get_or l 3 0);
      func_ret = low_i32 (get_or l 4 0);
      error_msg = span_at l 5;
      message_type = get_or l 7 0;
      content_type = get_or l 8 0;
      content_encoding = get_or l 9 0;
      attachment_size = get_or l 10 0;
      rows = rows;
    })
record_of kinds.Init id header_version l rows =
    Init (record {
      id = id;
      header_version = header_version;
      request_meta = request_meta_of l;
      response_meta = response_meta_of l;
      init_window_size = get_or l 12 0;
      content_type = get_or l 13 0;
      content_encoding = get_or l 14 0;
      rows = rows;
    })
record_of kinds.Data id header_version l rows = Data (record { id = id; header_version = header_version; rows = rows })
record_of kinds.Feedback id header_version l rows =
    Feedback (record { id = id; header_version = header_version; window_size_increment = get_or l 0 0; rows = rows })
record_of kinds.Close id header_version l rows =
    Close (record {
      id = id;
      header_version = header_version;
      close_type = low_i32 (get_or l 0 0);
      ret = low_i32 (get_or l 1 0);
      msg = span_at l 2;
      message_type = get_or l 4 0;
      func_ret = low_i32 (get_or l 5 0);
      rows = rows;
    })

-- the attachment_size of a record that has one
unfoldable pub attachment_size_of : Kind → (slots : List ℕ) → ℕ
attachment_size_of kinds.Request l = get_or l 13 0
attachment_size_of kinds.Response l = get_or l 10 0
attachment_size_of kinds.Init l = 0
attachment_size_of kinds.Data l = 0
attachment_size_of kinds.Feedback l = 0
attachment_size_of kinds.Close l = 0
