-- Any call of any entry that gives refusal numbers, in Rattle and for C, with any arguments and anything that the caller has afterwards;
-- that this is what the entry's contract ensures (`AsEnsured`); and the number in the answer, "0 or the refusal" (`number_in`). Where an
-- entry is given a ceiling, it is the first argument, c.
-- Assumes nothing.
use Rattle.std.specs.Prelude.{ℕ, ◌≡◌, List, Option, Result}
use Rattle.wire_read.specs.Part.{part}
use Rattle.wire_read.specs.Varint.{varint}
use Rattle.wire_read.specs.Tags.{tag, length_prefix}
use Rattle.wire_read.specs.Skipping.{skip_field}
use Rattle.wire_read.specs.Fields.{next_field}
use Rattle.wire_read.specs.Placed.{varint_at, tag_at, length_at, skip_at, field_at}
use Rattle.wire_read.specs.declared.Varint.{Varint}
use Rattle.wire_read.specs.declared.Tag.{Tag}
use Rattle.wire_read.specs.declared.Length.{Length}
use Rattle.wire_read.specs.declared.Field.{Field}
use Rattle.wire_write.specs.Writing.{put_varint, put_tag, put_bytes}
use Rattle.wire_walk.specs.Reader.{next_of, step_at}
use Rattle.wire_walk.specs.Last.{last_field}
use Rattle.wire_walk.specs.declared.FieldReader.{FieldReader}
use Rattle.wire_walk.specs.declared.Moved.{Moved}
use Rattle.wire_walk.specs.declared.Step.{Step}
use Rattle.fixed_header.specs.Header.{header_error, parsed}
use Rattle.fixed_header.specs.declared.FixedHeader.{FixedHeader}
use Rattle.deframer.specs.Deframe.{Out}
use Rattle.deframer.specs.declared.Deframer.{Deframer}
use Rattle.deframer.specs.End.{End}
use Rattle.decoder.specs.Decoding.{decoded}
use Rattle.decoder.specs.declared.Slots.{Slots}
use Rattle.schema.specs.declared.Kind.{Kind}
use Rattle.records.specs.Records.{record_of}
use Rattle.records.specs.declared.Record.{Record}
use Rattle.message.specs.Frames.{Reading}
use Rattle.message.specs.declared.Located.{Located}
use Rattle.writer_checks.specs.Grounds.{content_error}
use Rattle.writer.specs.Writing.{Writing}
use Rattle.queue.specs.Calls.{added, after_add, taken, cancelled, after_removal}
use Rattle.queue.specs.declared.Job.{Job}
use Rattle.queue.specs.declared.Queue.{Queue}
use Rattle.queue.specs.declared.Added.{Added}
use Rattle.queue.specs.declared.Removed.{Removed}
use Rattle.refusals.specs.Grounds.{number_of}
use Rattle.refusals.specs.Refusals.{in_numbers, code_of}
use Rattle.refusals.specs.declared.Refusal.{Refusal}
use Rattle.thm_stream.specs.Trace.{Deframes, Finishes, Reads}
use Rattle.thm_refusals.specs.Deframer.{progress_says, end_says}
use Rattle.thm_refusals.specs.Reader.{answer_says}
use Rattle.thm_refusals.specs.FieldWriter.{FieldWriting, verdict_of, Raw, Tagged}
use Rattle.thm_round_trip.specs.Calls.{Writes, Locates}
use Rattle.thm_round_trip.specs.Refusals.{encoded_says}
use Rattle.thm_queue.specs.Calls.{Seen}
use Rattle.thm_queue.specs.Calls as calls
use Rattle.thm_c.specs.Entries.{parsed_says}
use Rattle.thm_c.specs.Header.{CParsed, CChecks, CParses}
use Rattle.thm_c.specs.Calls.{CDeframed, CFinished, CDeframes, CFinishes}
use Rattle.thm_c.specs.Readings.{CRead, CReads}
use Rattle.thm_c.specs.RoundTrip.{CWritten, CWrites}

-- ---- a call: its arguments, and what the caller has afterwards
pub data AnyCall : Type 0 where
  -- `fixed_header`
  check_header : (c : ℕ) (bytes : List ℕ) (code : ℕ) → AnyCall
  parse_header : (c : ℕ) (bytes : List ℕ) (p : Result FixedHeader ℕ) → AnyCall
  -- `deframer`
  deframe : (c : ℕ) (state : Deframer) (buffer piece : List ℕ) (o : Out) → AnyCall
  finish : (c : ℕ) (state : Deframer) (buffer : List ℕ) (e : End) → AnyCall
  -- `wire_read`
  read_varint : (s : List ℕ) (at end : ℕ) (v : Result Varint Refusal) → AnyCall
  read_tag : (s : List ℕ) (at end : ℕ) (t : Result (Option Tag) Refusal) → AnyCall
  read_length : (s : List ℕ) (at end : ℕ) (l : Result Length Refusal) → AnyCall
  skip_field_call : (s : List ℕ) (at end n w depth : ℕ) (k : Result ℕ Refusal) → AnyCall
  next_field_call : (s : List ℕ) (at end : ℕ) (f : Result (Option Field) Refusal) → AnyCall
  -- `wire_walk`
  reader_next : (r : FieldReader) (m : Result (Option Moved) Refusal) → AnyCall
  field_at_call : (s : List ℕ) (at : ℕ) (x : Result (Option Step) Refusal) → AnyCall
  last_field_call : (s : List ℕ) (t : ℕ) (f : Result (Option Field) Refusal) → AnyCall
  -- `wire_write`
  write_varint : (v : ℕ) (out : List ℕ) (at : ℕ) (x : FieldWriting) → AnyCall
  write_tag : (n w : ℕ) (out : List ℕ) (at : ℕ) (x : FieldWriting) → AnyCall
  write_raw : (content out : List ℕ) (at : ℕ) (x : FieldWriting) → AnyCall
  write_bytes : (n : ℕ) (content out : List ℕ) (at : ℕ) (x : FieldWriting) → AnyCall
  -- `decoder`
  decode : (frame : List ℕ) (at end schema : ℕ) (lent : List ℕ) (d : Result Slots Refusal) → AnyCall
  -- `message`
  read_spans : (c : ℕ) (kind : Kind) (frame lent : List ℕ) (x : Located) (rows : List ℕ) → AnyCall
  -- `reader`
  read : (c : ℕ) (kind : Kind) (frame lent : List ℕ) (x : Reading) → AnyCall
  -- `writer_checks`
  content_error_call : (kind : Kind) (slots : List ℕ) (count : ℕ) (source numbers : List ℕ) (body_size code : ℕ) → AnyCall
  -- `writer`
  write : (c : ℕ) (r : Record) (source numbers body output : List ℕ) (w : Writing) → AnyCall
  write_slots : (c : ℕ) (kind : Kind) (id version : ℕ) (slots : List ℕ) (count : ℕ) (source numbers body output : List ℕ) (w : Writing)
      → AnyCall
  -- `queue`
  queue_add : (q : Queue) (j : Job) (a : Added) → AnyCall
  queue_take : (q : Queue) (a : Removed) → AnyCall
  queue_cancel : (q : Queue) (connection request : ℕ) (a : Removed) → AnyCall
  -- `bekurapi`: the six readers and the six writers by their kind
  trpc_header_check : (c : ℕ) (bytes : List ℕ) (code : ℕ) → AnyCall
  trpc_header_parse : (c : ℕ) (bytes : List ℕ) (d : CParsed) → AnyCall
  trpc_deframe : (c held error : ℕ) (buffer piece : List ℕ) (d : CDeframed) → AnyCall
  trpc_finish : (c held error : ℕ) (buffer : List ℕ) (f : CFinished) → AnyCall
  trpc_read : (c : ℕ) (kind : Kind) (frame lent : List ℕ) (x : CRead) → AnyCall
  trpc_write : (c : ℕ) (kind : Kind) (numbers source rows body out : List ℕ) (w : CWritten) → AnyCall
  -- `queue_in_place`
  trpc_queue_add : (q : Queue) (connection request timeout arrival : ℕ) (s : Seen) → AnyCall
  trpc_queue_take : (q : Queue) (s : Seen) → AnyCall
  trpc_queue_cancel : (q : Queue) (connection request : ℕ) (s : Seen) → AnyCall

-- ---- it gave what its contract ensures
abbrev pub AsEnsured : AnyCall → Type 0
AsEnsured (check_header c bytes code) = code ≡ header_error c bytes
AsEnsured (parse_header c bytes p) = p ≡ parsed c bytes
AsEnsured (deframe c state buffer piece o) = Deframes c state buffer piece o
AsEnsured (finish c state buffer e) = Finishes c state buffer e
AsEnsured (read_varint s at end v) = in_numbers v ≡ varint_at at (varint (part s at end))
AsEnsured (read_tag s at end t) = in_numbers t ≡ tag_at at (tag (part s at end))
AsEnsured (read_length s at end l) = in_numbers l ≡ length_at at (length_prefix (part s at end))
AsEnsured (skip_field_call s at end n w depth k) = in_numbers k ≡ skip_at at (skip_field n w depth (part s at end))
AsEnsured (next_field_call s at end f) = in_numbers f ≡ field_at at (next_field (part s at end))
AsEnsured (reader_next r m) = in_numbers m ≡ next_of r
AsEnsured (field_at_call s at x) = in_numbers x ≡ step_at s at
AsEnsured (last_field_call s t f) = in_numbers f ≡ last_field t s
AsEnsured (write_varint v out at x) = Raw out at (put_varint v) x
AsEnsured (write_tag n w out at x) = Tagged n w out at (put_tag n w) x
AsEnsured (write_raw content out at x) = Raw out at content x
AsEnsured (write_bytes n content out at x) = Tagged n 2 out at (put_bytes n content) x
AsEnsured (decode frame at end schema lent d) = in_numbers d ≡ (decoded frame at end schema lent).answer
AsEnsured (read_spans c kind frame lent x rows) = Locates c kind frame lent x rows
AsEnsured (read c kind frame lent x) = Reads c kind frame lent x
AsEnsured (content_error_call kind slots count source numbers body_size code) =
    code ≡ content_error kind slots count source numbers body_size
AsEnsured (write c r source numbers body output w) = Writes c r source numbers body output w
AsEnsured (write_slots c kind id version slots count source numbers body output w) =
    Writes c (record_of kind id version slots count) source numbers body output w
AsEnsured (queue_add q j a) = after_add a ≡ added q j
AsEnsured (queue_take q a) = after_removal a ≡ taken q
AsEnsured (queue_cancel q connection request a) = after_removal a ≡ cancelled q connection request
AsEnsured (trpc_header_check c bytes code) = CChecks c bytes code
AsEnsured (trpc_header_parse c bytes d) = CParses c bytes d
AsEnsured (trpc_deframe c held error buffer piece d) = CDeframes c held error buffer piece d
AsEnsured (trpc_finish c held error buffer f) = CFinishes c held error buffer f
AsEnsured (trpc_read c kind frame lent x) = CReads c kind frame lent x
AsEnsured (trpc_write c kind numbers source rows body out w) = CWrites c kind numbers source rows body out w
AsEnsured (trpc_queue_add q connection request timeout arrival s) = calls.Ensured q (calls.add connection request timeout arrival) s
AsEnsured (trpc_queue_take q s) = calls.Ensured q calls.take s
AsEnsured (trpc_queue_cancel q connection request s) = calls.Ensured q (calls.cancel connection request) s

-- ---- the number in the answer, 0 for none
abbrev pub number_in : AnyCall → ℕ
number_in (check_header c bytes code) = code
number_in (parse_header c bytes p) = number_of (parsed_says p)
number_in (deframe c state buffer piece o) = number_of (progress_says o.step.progress)
number_in (finish c state buffer e) = number_of (end_says e)
number_in (read_varint s at end v) = code_of v
number_in (read_tag s at end t) = code_of t
number_in (read_length s at end l) = code_of l
number_in (skip_field_call s at end n w depth k) = code_of k
number_in (next_field_call s at end f) = code_of f
number_in (reader_next r m) = code_of m
number_in (field_at_call s at x) = code_of x
number_in (last_field_call s t f) = code_of f
number_in (write_varint v out at x) = number_of (verdict_of x.answer)
number_in (write_tag n w out at x) = number_of (verdict_of x.answer)
number_in (write_raw content out at x) = number_of (verdict_of x.answer)
number_in (write_bytes n content out at x) = number_of (verdict_of x.answer)
number_in (decode frame at end schema lent d) = code_of d
number_in (read_spans c kind frame lent x rows) = code_of x.answer
number_in (read c kind frame lent x) = number_of (answer_says x.answer)
number_in (content_error_call kind slots count source numbers body_size code) = code
number_in (write c r source numbers body output w) = number_of (encoded_says w.answer)
number_in (write_slots c kind id version slots count source numbers body output w) = number_of (encoded_says w.answer)
number_in (queue_add q j a) = code_of a.answer
number_in (queue_take q a) = code_of a.job
number_in (queue_cancel q connection request a) = code_of a.job
number_in (trpc_header_check c bytes code) = code
number_in (trpc_header_parse c bytes d) = d.code
number_in (trpc_deframe c held error buffer piece d) = d.code
number_in (trpc_finish c held error buffer f) = f.code
number_in (trpc_read c kind frame lent x) = x.code
number_in (trpc_write c kind numbers source rows body out w) = w.code
number_in (trpc_queue_add q connection request timeout arrival s) = s.error
number_in (trpc_queue_take q s) = s.error
number_in (trpc_queue_cancel q connection request s) = s.error
