-- Document 02, P2: "Every record carries the version". What a reading is with another version, and all else as it was
use Rattle.std.specs.Prelude.{ℕ}
use Rattle.records.specs.declared.Record.{Record}
use Rattle.records.specs.declared.Record.TheVariants.{Request, Response, Init, Data, Feedback, Close}
use Rattle.message.specs.Frames.{Answer}
use Rattle.std.specs.Prelude.{Ok, Err}
use Rattle.message.specs.Frames.{Reading}

-- a record with that version: byte 15 of the frame, and not the `version` that is a field of a request's or a response's message
unfoldable pub versioned : ℕ → Record → Record
versioned v (Request r) =
    Request (record {
      id = r.id;
      header_version = v;
      version = r.version;
      call_type = r.call_type;
      request_id = r.request_id;
      timeout = r.timeout;
      caller = r.caller;
      callee = r.callee;
      func = r.func;
      message_type = r.message_type;
      content_type = r.content_type;
      content_encoding = r.content_encoding;
      attachment_size = r.attachment_size;
      rows = r.rows;
    })
versioned v (Response r) =
    Response (record {
      id = r.id;
      header_version = v;
      version = r.version;
      call_type = r.call_type;
      request_id = r.request_id;
      ret = r.ret;
      func_ret = r.func_ret;
      error_msg = r.error_msg;
      message_type = r.message_type;
      content_type = r.content_type;
      content_encoding = r.content_encoding;
      attachment_size = r.attachment_size;
      rows = r.rows;
    })
versioned v (Init r) =
    Init (record {
      id = r.id;
      header_version = v;
      request_meta = r.request_meta;
      response_meta = r.response_meta;
      init_window_size = r.init_window_size;
      content_type = r.content_type;
      content_encoding = r.content_encoding;
      rows = r.rows;
    })
versioned v (Data r) = Data (record { id = r.id; header_version = v; rows = r.rows })
versioned v (Feedback r) =
    Feedback (record { id = r.id; header_version = v; window_size_increment = r.window_size_increment; rows = r.rows })
versioned v (Close r) =
    Close (record {
      id = r.id;
      header_version = v;
      close_type = r.close_type;
      ret = r.ret;
      msg = r.msg;
      message_type = r.message_type;
      func_ret = r.func_ret;
      rows = r.rows;
    })

-- a refusal carries no version
abbrev pub answer_versioned : ℕ → Answer → Answer
answer_versioned v (Ok r) = Ok (versioned v r)
answer_versioned v (Err code) = Err code

abbrev pub reading_versioned : ℕ → Reading → Reading
reading_versioned v x =
    record {
      answer = answer_versioned v x.answer;
      header = x.header;
      body = x.body;
      attachment = x.attachment;
      rows = x.rows;
    }
