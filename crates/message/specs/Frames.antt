-- Document 01, "The messages": reading a frame as a named kind
use Rattle.std.specs.Prelude.{ℕ, ◌+◌, ◌-◌, Bool, not, cond, ◌&&◌, List, [], length, take, drop, get_or, ltb, leb, eqb, Result, Ok, Err}
use Rattle.fixed_header.specs.Header.{ceiling_ok, header_error, total_of, header_size_of, id_of, version_of}
use Rattle.decoder.specs.Fields.{State, ok, refused, read_message}
use Rattle.decoder.specs.Fields as fields
use Rattle.decoder.specs.Rows.{row_numbers, laid_out}
use Rattle.schema.specs.Kinds.{schema_of}
use Rattle.records.specs.Records.{record_of, attachment_size_of}
use Rattle.schema.specs.declared.Kind.{Kind}
use Rattle.schema.specs.declared.Kind.TheVariants as kinds
use Rattle.records.specs.declared.Record.{Record}

-- the record, or the error code
abbrev pub Answer : Type 0
Answer = Result Record ℕ

-- what is handed back: the record or the error code, header, body and attachment as bytes, and the row numbers afterwards
pub record Reading : Type 0 where
  pub answer : Answer
  pub header : List ℕ
  pub body : List ℕ
  pub attachment : List ℕ
  pub rows : List ℕ

-- ---- the parts
-- "A unary frame is these 16, the header message, then the body. A stream frame is these 16, then its message, or raw bytes for Data."
-- "In Init, Feedback and Close the message is the header and the others are empty; Data has only a body."
unfoldable pub header_of : Kind → List ℕ → List ℕ
header_of kinds.Request f = take (header_size_of f) (drop 16 f)
header_of kinds.Response f = take (header_size_of f) (drop 16 f)
header_of kinds.Init f = drop 16 f
header_of kinds.Data f = []
header_of kinds.Feedback f = drop 16 f
header_of kinds.Close f = drop 16 f

unfoldable pub body_of : Kind → List ℕ → List ℕ
body_of kinds.Request f = drop (16 + header_size_of f) f
body_of kinds.Response f = drop (16 + header_size_of f) f
body_of kinds.Init f = []
body_of kinds.Data f = drop 16 f
body_of kinds.Feedback f = []
body_of kinds.Close f = []

-- "The attachment is the last attachment_size bytes of the body." A larger one is refused with 15 (`with_attachment`), so the subtraction is
-- not cut off: `length_last` in proofs/PartPlaces.
abbrev pub last_bytes : ℕ → List ℕ → List ℕ
last_bytes n body = drop (length body - n) body

-- ---- "the wrong kind of frame": "the caller of the reader names which of the six kinds it expects, for stream frames too"
-- the data type and the stream type of a kind; the stream type of a unary frame is ignored
unfoldable pub kind_fits : Kind → (data_type stream_type : ℕ) → Bool
kind_fits kinds.Request d t = eqb d 0
kind_fits kinds.Response d t = eqb d 0
kind_fits kinds.Init d t = eqb d 1 && eqb t 1
kind_fits kinds.Data d t = eqb d 1 && eqb t 2
kind_fits kinds.Feedback d t = eqb d 1 && eqb t 3
kind_fits kinds.Close d t = eqb d 1 && eqb t 4

-- ---- reading a frame
-- "empty if refused"; "all others leave rows untouched"
abbrev pub refused_untouched : ℕ → List ℕ → Reading
refused_untouched code lent = record { answer = Err code; header = []; body = []; attachment = []; rows = lent }

-- "A reader's refusals 10 to 15 leave the first 256 row numbers 0"
abbrev pub refused_cleared : ℕ → List ℕ → Reading
refused_cleared code lent = record { answer = Err code; header = []; body = []; attachment = []; rows = laid_out [] lent }

-- "15 | attachment larger than body", "15 last"
unfoldable pub with_attachment : Kind → List ℕ → List ℕ → State → Reading
with_attachment kind f lent st =
    cond (leb (attachment_size_of kind st.slots) (length (body_of kind f)))
    (record {
      answer = Ok (record_of kind (id_of f) (version_of f) st.slots (length st.rows));
      header = header_of kind f;
      body = body_of kind f;
      attachment = last_bytes (attachment_size_of kind st.slots) (body_of kind f);
      rows = laid_out st.rows lent;
    })
    (refused_cleared 15 lent)

-- what a message that was read, or refused, comes to
unfoldable pub answered : Kind → List ℕ → List ℕ → fields.Result → Reading
answered kind f lent (refused code) = refused_cleared code lent
answered kind f lent (ok st) = with_attachment kind f lent st

-- what the message of a whole frame of its kind comes to
abbrev pub read_whole : Kind → List ℕ → List ℕ → Reading
read_whole kind f lent = answered kind f lent (read_message f (schema_of kind) 16 (header_of kind f))

-- "Reader: 16; fewer than 16 bytes is 9; 3 to 8; 9; then fields from left to right, ..; 15 last", without 8. Document 02, P11: "41 ceiling
-- outside the range, before all others"
unfoldable pub read_frame : (c : ℕ) → Kind → List ℕ → List ℕ → Reading
read_frame c kind f lent =
    cond (not (ceiling_ok c)) (refused_untouched 41 lent)
    (cond (ltb (length lent) row_numbers) (refused_untouched 16 lent)
    (cond (ltb (length f) 16) (refused_untouched 9 lent)
    (cond (eqb (header_error c (take 16 f)) 0)
    (cond (eqb (length f) (total_of f) && kind_fits kind (get_or f 2 0) (get_or f 3 0)) (read_whole kind f lent)
    (refused_untouched 9 lent))
    (refused_untouched (header_error c (take 16 f)) lent))))
