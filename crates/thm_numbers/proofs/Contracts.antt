-- What `AsEnsured` says of a call is the `ensures` of the entry's contract, of `read` without the places of its parts and of `decode`
-- without the rows: the two are the same by computation, so neither can be changed without the other. A law NAME-ensures has the
-- contract on its left side. Where a law of a crate below (`thm_refusals`, `thm_stream`, `thm_round_trip`, `thm_queue`, `thm_c`) has it
-- there, NAME-is takes it from that law (`left_of`). `tests/entries` looks whose contract each law has, and that it is of any call.
-- Assumes nothing.
use Prim.Native.Nat.{ℕ}
use mathlib.Core.Path.{◌≡◌, refl}
use mathlib.Core.List.{List}
use lib.ListN.{length}
use seplogic.Ra.Ura.{Ura}
use base.Logic.{SProp, sep}
use base.Fml.{Lft}
use prog.Memory.{Memory}
use prog.Routine.{Routine}
use types.Logic.{Logic}
use contract.Monad.{Fun, fact}
use denote.Ref.{Bor, MutBor}
use denote.Triple.Clauses.{at_exit}
use Rattle.std.specs.Prelude.{Option, Result}
use Rattle.refusals.specs.Refusals.{in_numbers}
use Rattle.refusals.specs.declared.Refusal.{Refusal}
use Rattle.wire_read.specs.declared.Varint.{Varint}
use Rattle.wire_read.specs.declared.Tag.{Tag}
use Rattle.wire_read.specs.declared.Length.{Length}
use Rattle.wire_read.specs.declared.Field.{Field}
use Rattle.wire_read.specs.contracts.read_varint as read_varint
use Rattle.wire_read.specs.contracts.read_tag as read_tag
use Rattle.wire_read.specs.contracts.read_length as read_length
use Rattle.wire_read.specs.contracts.skip_field as skip_field_call
use Rattle.wire_read.specs.contracts.next_field as next_field
use Rattle.wire_walk.specs.declared.FieldReader.{FieldReader}
use Rattle.wire_walk.specs.declared.Moved.{Moved}
use Rattle.wire_walk.specs.declared.Step.{Step}
use Rattle.wire_walk.specs.contracts.FieldReader.next as reader_next
use Rattle.wire_walk.specs.contracts.field_at as field_at
use Rattle.wire_walk.specs.contracts.last_field as last_field_call
use Rattle.std.specs.Prelude.{Result}
use Rattle.refusals.specs.Refusals.{in_numbers, code_of}
use Rattle.refusals.specs.declared.Refusal.{Refusal}
use Rattle.fixed_header.specs.declared.FixedHeader.{FixedHeader}
use Rattle.fixed_header.specs.contracts.parse_header as parse_header
use Rattle.decoder.specs.Decoding.{decoded}
use Rattle.decoder.specs.declared.Slots.{Slots}
use Rattle.decoder.specs.contracts.decode as decode
use Rattle.writer_checks.specs.contracts.content_error as content_error_call
use Rattle.queue.specs.declared.Job.{Job}
use Rattle.queue.specs.declared.Queue.{Queue}
use Rattle.queue.specs.declared.Added.{Added}
use Rattle.queue.specs.declared.Removed.{Removed}
use Rattle.queue.specs.contracts.add as add
use Rattle.queue.specs.contracts.take as take
use Rattle.queue.specs.contracts.cancel as cancel
use Rattle.deframer.specs.Deframe.{Out}
use Rattle.deframer.specs.declared.Deframer.{Deframer}
use Rattle.deframer.specs.InNumbers.{step_in_numbers, end_in_numbers}
use Rattle.deframer.specs.declared.End.{End}
use Rattle.deframer.specs.declared.Step as deframer_step
use Rattle.schema.specs.declared.Kind.{Kind}
use Rattle.schema.specs.declared.Kind.TheVariants as kinds
use Rattle.records.specs.declared.Record.{Record}
use Rattle.message.specs.Frames.{read_frame}
use Rattle.message.specs.Spans.{spans_of}
use Rattle.message.specs.declared.Located.{Located}
use Rattle.reader.specs.Places.{PartsStand}
use Rattle.reader.specs.declared.Reading as reader
use Rattle.refusals.specs.Refusals.{in_numbers, code_of}
use Rattle.thm_stream.specs.Trace.{Answers, Leaves}
use Rattle.thm_stream.proofs.Contracts as stream
use Rattle.thm_refusals.specs.FieldWriter.{FieldWriting}
use Rattle.thm_refusals.proofs.Contracts as header
use Rattle.thm_refusals.proofs.FieldWriter as field_writer
use Rattle.thm_round_trip.proofs.Contracts as round_trip
use Rattle.thm_queue.specs.Calls.{Seen}
use Rattle.thm_queue.proofs.Contracts as queue
use Rattle.thm_c.specs.Header.{CParsed}
use Rattle.thm_c.specs.Calls.{CDeframed, CFinished}
use Rattle.thm_c.specs.Readings.{CRead}
use Rattle.thm_c.specs.RoundTrip.{CWritten}
use Rattle.thm_c.proofs.Contracts as c_calls
use Rattle.thm_numbers.specs.AnyCall.{AsEnsured}
use Rattle.thm_numbers.specs.AnyCall as calls

module _ {M : Type 1} {𝓤 : Ura M} (𝓛 : Logic 𝓤) (mem : Memory → SProp 𝓤) (run : Routine → Fun 𝓤) (κ ι : Lft)
    (s : Bor (List ℕ)) where
  -- ---- `fixed_header`
  pub parse_header_ensures : (ceiling : ℕ) (p : Result FixedHeader Refusal)
      → (parse_header.clauses 𝓛 mem run (κ, tt) (s, (ceiling, tt))).ensures tt p
      (at_exit parse_header.ended (κ, tt) (s, (ceiling, tt)) (tt, (tt, tt)))
      ≡ fact 𝓤 (AsEnsured (calls.parse_header ceiling s.now (in_numbers p)))
  parse_header_ensures ceiling p = refl

  -- ---- `wire_read`
  module _ (at end : ℕ) where
    pub read_varint_ensures : (v : Result Varint Refusal)
        → (read_varint.clauses 𝓛 mem run (κ, tt) (s, (at, (end, tt)))).ensures tt v
        (at_exit read_varint.ended (κ, tt) (s, (at, (end, tt))) (tt, (tt, (tt, tt))))
        ≡ fact 𝓤 (AsEnsured (calls.read_varint s.now at end v))
    read_varint_ensures v = refl

    pub read_tag_ensures : (t : Result (Option Tag) Refusal)
        → (read_tag.clauses 𝓛 mem run (κ, tt) (s, (at, (end, tt)))).ensures tt t
        (at_exit read_tag.ended (κ, tt) (s, (at, (end, tt))) (tt, (tt, (tt, tt))))
        ≡ fact 𝓤 (AsEnsured (calls.read_tag s.now at end t))
    read_tag_ensures t = refl

    pub read_length_ensures : (l : Result Length Refusal)
        → (read_length.clauses 𝓛 mem run (κ, tt) (s, (at, (end, tt)))).ensures tt l
        (at_exit read_length.ended (κ, tt) (s, (at, (end, tt))) (tt, (tt, (tt, tt))))
        ≡ fact 𝓤 (AsEnsured (calls.read_length s.now at end l))
    read_length_ensures l = refl

    pub skip_field_ensures : (n w depth : ℕ) (k : Result ℕ Refusal)
        → (skip_field_call.clauses 𝓛 mem run (κ, tt) (s, (at, (end, (n, (w, (depth, tt))))))).ensures tt k
        (at_exit skip_field_call.ended (κ, tt) (s, (at, (end, (n, (w, (depth, tt)))))) (tt, (tt, (tt, (tt, (tt, (tt, tt)))))))
        ≡ fact 𝓤 (AsEnsured (calls.skip_field_call s.now at end n w depth k))
    skip_field_ensures n w depth k = refl

    pub next_field_ensures : (f : Result (Option Field) Refusal)
        → (next_field.clauses 𝓛 mem run (κ, tt) (s, (at, (end, tt)))).ensures tt f
        (at_exit next_field.ended (κ, tt) (s, (at, (end, tt))) (tt, (tt, (tt, tt))))
        ≡ fact 𝓤 (AsEnsured (calls.next_field_call s.now at end f))
    next_field_ensures f = refl

  -- ---- `wire_walk`
  pub reader_next_ensures : (r : FieldReader) (m : Result (Option Moved) Refusal)
      → (reader_next.clauses 𝓛 mem run (κ, tt) (r, tt)).ensures tt m (at_exit reader_next.ended (κ, tt) (r, tt) (tt, tt))
      ≡ fact 𝓤 (AsEnsured (calls.reader_next r m))
  reader_next_ensures r m = refl

  pub field_at_ensures : (at : ℕ) (x : Result (Option Step) Refusal)
      → (field_at.clauses 𝓛 mem run (κ, tt) (s, (at, tt))).ensures tt x (at_exit field_at.ended (κ, tt) (s, (at, tt)) (tt, (tt, tt)))
      ≡ fact 𝓤 (AsEnsured (calls.field_at_call s.now at x))
  field_at_ensures at x = refl

  pub last_field_ensures : (t : ℕ) (f : Result (Option Field) Refusal)
      → (last_field_call.clauses 𝓛 mem run (κ, tt) (s, (t, tt))).ensures tt f
      (at_exit last_field_call.ended (κ, tt) (s, (t, tt)) (tt, (tt, tt)))
      ≡ fact 𝓤 (AsEnsured (calls.last_field_call s.now t f))
  last_field_ensures t f = refl

  -- ---- `decoder`, with the row numbers afterwards
  pub decode_ensures : (at end schema : ℕ) (lent : MutBor (List ℕ)) (d : Result Slots Refusal) (after : List ℕ)
      → (decode.clauses 𝓛 mem run (κ, (ι, tt)) (s, (at, (end, (schema, (lent, tt)))))).ensures tt d
      (at_exit decode.ended (κ, (ι, tt)) (s, (at, (end, (schema, (lent, tt))))) (tt, (tt, (tt, (tt, (after, tt))))))
      ≡ sep 𝓤 (fact 𝓤 (AsEnsured (calls.decode s.now at end schema lent.now d)))
      (fact 𝓤 (after ≡ (decoded s.now at end schema lent.now).rows))
  decode_ensures at end schema lent d after = refl

  -- ---- `writer_checks`
  pub content_error_ensures : (θ : Lft) (kind : Kind) (slots : Bor (List ℕ)) (count : ℕ) (lent : Bor (List ℕ)) (body_size : ℕ) (r : Result (Unit {0}) Refusal)
      → (content_error_call.clauses 𝓛 mem run (θ, (κ, (ι, tt))) (kind, (slots, (count, (s, (lent, (body_size, tt))))))).ensures tt r
      (at_exit content_error_call.ended (θ, (κ, (ι, tt))) (kind, (slots, (count, (s, (lent, (body_size, tt))))))
      (tt, (tt, (tt, (tt, (tt, (tt, tt)))))))
      ≡ fact 𝓤 (AsEnsured (calls.content_error_call kind slots.now count s.now lent.now body_size (code_of r)))
  content_error_ensures θ kind slots count lent body_size r = refl

  -- ---- `queue`
  pub queue_add_ensures : (q : Queue) (j : Job) (a : Added)
      → (add.clauses 𝓛 mem run tt (q, (j, tt))).ensures tt a (at_exit add.ended tt (q, (j, tt)) (tt, (tt, tt)))
      ≡ fact 𝓤 (AsEnsured (calls.queue_add q j a))
  queue_add_ensures q j a = refl

  pub queue_take_ensures : (q : Queue) (a : Removed)
      → (take.clauses 𝓛 mem run tt (q, tt)).ensures tt a (at_exit take.ended tt (q, tt) (tt, tt))
      ≡ fact 𝓤 (AsEnsured (calls.queue_take q a))
  queue_take_ensures q a = refl

  pub queue_cancel_ensures : (q : Queue) (connection request : ℕ) (a : Removed)
      → (cancel.clauses 𝓛 mem run tt (q, (connection, (request, tt)))).ensures tt a
      (at_exit cancel.ended tt (q, (connection, (request, tt))) (tt, (tt, (tt, tt))))
      ≡ fact 𝓤 (AsEnsured (calls.queue_cancel q connection request a))
  queue_cancel_ensures q connection request a = refl

-- ---- what the crates below tie: the left side of such a law is what the contract ensures
abbrev left_of : {A : Type 2} {x y : A} → x ≡ y → A
left_of {A} {x} {y} law = x

-- an answer of `deframe` and the buffer afterwards, as a call of `AnyCall` has them
abbrev left : deframer_step.Step → (buffer : List ℕ) → Out
left step after = record { step = step_in_numbers step; buffer = after }

module _ {M : Type 1} {𝓤 : Ura M} (𝓛 : Logic 𝓤) (mem : Memory → SProp 𝓤) (run : Routine → Fun 𝓤) (κ ι : Lft) where
  -- `fixed_header`
  pub check_header_is : (bytes : Bor (List ℕ)) (ceiling : ℕ) (r : Result (Unit {0}) Refusal)
      → left_of (header.header_ensures 𝓛 mem run κ bytes ceiling r)
      ≡ fact 𝓤 (AsEnsured (calls.check_header ceiling bytes.now (code_of r)))
  check_header_is bytes ceiling r = refl

  -- `deframer`: two facts, of the answer and of the buffer
  pub deframe_is : (state : Deframer) (buffer : MutBor (List ℕ)) (ceiling : ℕ) (piece : Bor (List ℕ)) (step : deframer_step.Step) (after : List ℕ)
      → (P : Type 0) × ((Q : Type 0) × ((AsEnsured (calls.deframe ceiling state buffer.now piece.now (left step after)) ≡ (P × Q))
      × (left_of (stream.deframe_ensures 𝓛 mem run κ ι state buffer ceiling piece step after)
      ≡ sep 𝓤 (fact 𝓤 P) (fact 𝓤 Q))))
  deframe_is state buffer ceiling piece step after =
      (Answers ceiling state buffer.now piece.now (left step after), (Leaves ceiling state buffer.now piece.now (left step after), (refl, refl)))

  pub finish_is : (state : Deframer) (buffer : Bor (List ℕ)) (ceiling : ℕ) (e : End)
      → left_of (stream.finish_ensures 𝓛 mem run κ ι state buffer ceiling e)
      ≡ fact 𝓤 (AsEnsured (calls.finish ceiling state buffer.now (end_in_numbers e)))
  finish_is state buffer ceiling e = refl

  -- `wire_write`
  module _ (at : ℕ) (out : MutBor (List ℕ)) (r : Result ℕ Refusal) (after : List ℕ) where
    abbrev x : FieldWriting
    x = record { answer = in_numbers r; output = after }

    pub write_varint_is : (v : ℕ)
        → left_of (field_writer.write_varint_ensures 𝓛 mem run κ ι at out r after v)
        ≡ fact 𝓤 (AsEnsured (calls.write_varint v out.now at x))
    write_varint_is v = refl

    pub write_tag_is : (n w : ℕ)
        → left_of (field_writer.write_tag_ensures 𝓛 mem run κ ι at out r after n w)
        ≡ fact 𝓤 (AsEnsured (calls.write_tag n w out.now at x))
    write_tag_is n w = refl

    pub write_raw_is : (content : Bor (List ℕ))
        → left_of (field_writer.write_raw_ensures 𝓛 mem run κ ι at out r after content)
        ≡ fact 𝓤 (AsEnsured (calls.write_raw content.now out.now at x))
    write_raw_is content = refl

    pub write_bytes_is : (n : ℕ) (content : Bor (List ℕ))
        → left_of (field_writer.write_bytes_ensures 𝓛 mem run κ ι at out r after n content)
        ≡ fact 𝓤 (AsEnsured (calls.write_bytes n content.now out.now at x))
    write_bytes_is n content = refl

  -- `message` and `reader`, which ensures the places of the parts, too
  module _ (kind : Kind) (frame : Bor (List ℕ)) (ceiling : ℕ) (rows : MutBor (List ℕ)) (after : List ℕ) where
    pub read_spans_is : (x : Located)
        → left_of (round_trip.read_spans_ensures 𝓛 mem run κ ι kind frame ceiling rows x after)
        ≡ fact 𝓤 (AsEnsured (calls.read_spans ceiling kind frame.now rows.now x after))
    read_spans_is x = refl

    pub read_is : (r : reader.Reading)
        → left_of (stream.read_ensures 𝓛 mem run κ ι kind frame ceiling rows r after)
        ≡ fact 𝓤 (AsEnsured (calls.read ceiling kind frame.now rows.now
        (record { answer = in_numbers r.answer; header = r.header.now; body = r.body.now; attachment = r.attachment.now; rows = after }))
        × PartsStand frame.ref_ptr (spans_of (read_frame ceiling kind frame.now rows.now) (length frame.now))
        r.header.ref_ptr r.body.ref_ptr r.attachment.ref_ptr)
    read_is r = refl

  -- `queue_in_place`
  module _ (q : MutBor Queue) (room : MutBor Job) (s : Seen) where
    pub trpc_queue_add_is : (c r t a : ℕ)
        → left_of (queue.add_ensures 𝓛 mem run κ ι q room s.queue s.job s.error c r t a)
        ≡ fact 𝓤 (AsEnsured (calls.trpc_queue_add q.now c r t a s))
    trpc_queue_add_is c r t a = refl

    pub trpc_queue_take_is :
        left_of (queue.take_ensures 𝓛 mem run κ ι q room s.queue s.job s.error)
        ≡ fact 𝓤 (AsEnsured (calls.trpc_queue_take q.now s))
    trpc_queue_take_is = refl

    pub trpc_queue_cancel_is : (c r : ℕ)
        → left_of (queue.cancel_ensures 𝓛 mem run κ ι q room s.queue s.job s.error c r)
        ≡ fact 𝓤 (AsEnsured (calls.trpc_queue_cancel q.now c r s))
    trpc_queue_cancel_is c r = refl

-- `writer` and `bekurapi`
module _ {M : Type 1} {𝓤 : Ura M} (𝓛 : Logic 𝓤) (mem : Memory → SProp 𝓤) (run : Routine → Fun 𝓤) (a b c d e f : Lft) where
  pub write_is : (r : Record) (source rows body : Bor (List ℕ)) (out : MutBor (List ℕ)) (ceiling : ℕ)
      (answer : Result ℕ Refusal) (output : List ℕ)
      → left_of (round_trip.write_ensures 𝓛 mem run a b c d r source rows body out ceiling answer output)
      ≡ fact 𝓤 (AsEnsured (calls.write ceiling r source.now rows.now body.now out.now (record { answer = in_numbers answer; output = output })))
  write_is r source rows body out ceiling answer output = refl

  pub write_slots_is : (kind : Kind) (id version : ℕ) (slots : List ℕ) (count : ℕ) (source rows body : Bor (List ℕ)) (out : MutBor (List ℕ)) (ceiling : ℕ)
      (answer : Result ℕ Refusal) (output : List ℕ)
      → left_of (round_trip.write_slots_ensures 𝓛 mem run a b c d kind id version slots count source rows body out ceiling
      answer output)
      ≡ fact 𝓤 (AsEnsured (calls.write_slots ceiling kind id version slots count source.now rows.now body.now out.now
      (record { answer = in_numbers answer; output = output })))
  write_slots_is kind id version slots count source rows body out ceiling answer output = refl

  pub trpc_header_check_is : (bytes : Bor (List ℕ)) (ceiling code : ℕ)
      → left_of (c_calls.trpc_header_check_ensures 𝓛 mem run a b c d e f bytes ceiling code)
      ≡ fact 𝓤 (AsEnsured (calls.trpc_header_check ceiling bytes.now code))
  trpc_header_check_is bytes ceiling code = refl

  pub trpc_header_parse_is : (bytes : Bor (List ℕ)) (ceiling : ℕ) (frame_type total header_size id version : MutBor ℕ) (x : CParsed)
      → left_of (c_calls.trpc_header_parse_ensures 𝓛 mem run a b c d e f bytes ceiling frame_type total header_size id version x)
      ≡ fact 𝓤 (AsEnsured (calls.trpc_header_parse ceiling bytes.now x))
  trpc_header_parse_is bytes ceiling frame_type total header_size id version x = refl

  pub trpc_deframe_is : (held error : MutBor ℕ) (buffer : MutBor (List ℕ)) (ceiling : ℕ) (piece : Bor (List ℕ)) (taken size : MutBor ℕ)
      (x : CDeframed)
      → left_of (c_calls.trpc_deframe_ensures 𝓛 mem run a b c d e f held error buffer ceiling piece taken size x)
      ≡ fact 𝓤 (AsEnsured (calls.trpc_deframe ceiling held.now error.now buffer.now piece.now x))
  trpc_deframe_is held error buffer ceiling piece taken size x = refl

  pub trpc_finish_is : (held error : ℕ) (buffer : Bor (List ℕ)) (ceiling : ℕ) (short : MutBor ℕ) (x : CFinished)
      → left_of (c_calls.trpc_finish_ensures 𝓛 mem run a b c d e f held error buffer ceiling short x)
      ≡ fact 𝓤 (AsEnsured (calls.trpc_finish ceiling held error buffer.now x))
  trpc_finish_is held error buffer ceiling short x = refl

  module _ (frame : Bor (List ℕ)) (ceiling : ℕ) (rows numbers : MutBor (List ℕ)) (x : CRead) where
    pub trpc_read_request_is :
        left_of (c_calls.trpc_read_request_ensures 𝓛 mem run a b c d e f frame ceiling rows numbers x)
        ≡ fact 𝓤 (AsEnsured (calls.trpc_read ceiling kinds.Request frame.now rows.now x))
    trpc_read_request_is = refl

    pub trpc_read_response_is :
        left_of (c_calls.trpc_read_response_ensures 𝓛 mem run a b c d e f frame ceiling rows numbers x)
        ≡ fact 𝓤 (AsEnsured (calls.trpc_read ceiling kinds.Response frame.now rows.now x))
    trpc_read_response_is = refl

    pub trpc_read_init_is :
        left_of (c_calls.trpc_read_init_ensures 𝓛 mem run a b c d e f frame ceiling rows numbers x)
        ≡ fact 𝓤 (AsEnsured (calls.trpc_read ceiling kinds.Init frame.now rows.now x))
    trpc_read_init_is = refl

    pub trpc_read_data_is :
        left_of (c_calls.trpc_read_data_ensures 𝓛 mem run a b c d e f frame ceiling rows numbers x)
        ≡ fact 𝓤 (AsEnsured (calls.trpc_read ceiling kinds.Data frame.now rows.now x))
    trpc_read_data_is = refl

    pub trpc_read_feedback_is :
        left_of (c_calls.trpc_read_feedback_ensures 𝓛 mem run a b c d e f frame ceiling rows numbers x)
        ≡ fact 𝓤 (AsEnsured (calls.trpc_read ceiling kinds.Feedback frame.now rows.now x))
    trpc_read_feedback_is = refl

    pub trpc_read_close_is :
        left_of (c_calls.trpc_read_close_ensures 𝓛 mem run a b c d e f frame ceiling rows numbers x)
        ≡ fact 𝓤 (AsEnsured (calls.trpc_read ceiling kinds.Close frame.now rows.now x))
    trpc_read_close_is = refl

  module _ (numbers source rows body : Bor (List ℕ)) (out : MutBor (List ℕ)) (ceiling : ℕ) (size : MutBor ℕ) (x : CWritten) where
    pub trpc_write_request_is :
        left_of (c_calls.trpc_write_request_ensures 𝓛 mem run a b c d e f numbers source rows body out ceiling size x)
        ≡ fact 𝓤 (AsEnsured (calls.trpc_write ceiling kinds.Request numbers.now source.now rows.now body.now out.now x))
    trpc_write_request_is = refl

    pub trpc_write_response_is :
        left_of (c_calls.trpc_write_response_ensures 𝓛 mem run a b c d e f numbers source rows body out ceiling size x)
        ≡ fact 𝓤 (AsEnsured (calls.trpc_write ceiling kinds.Response numbers.now source.now rows.now body.now out.now x))
    trpc_write_response_is = refl

    pub trpc_write_init_is :
        left_of (c_calls.trpc_write_init_ensures 𝓛 mem run a b c d e f numbers source rows body out ceiling size x)
        ≡ fact 𝓤 (AsEnsured (calls.trpc_write ceiling kinds.Init numbers.now source.now rows.now body.now out.now x))
    trpc_write_init_is = refl

    pub trpc_write_data_is :
        left_of (c_calls.trpc_write_data_ensures 𝓛 mem run a b c d e f numbers source rows body out ceiling size x)
        ≡ fact 𝓤 (AsEnsured (calls.trpc_write ceiling kinds.Data numbers.now source.now rows.now body.now out.now x))
    trpc_write_data_is = refl

    pub trpc_write_feedback_is :
        left_of (c_calls.trpc_write_feedback_ensures 𝓛 mem run a b c d e f numbers source rows body out ceiling size x)
        ≡ fact 𝓤 (AsEnsured (calls.trpc_write ceiling kinds.Feedback numbers.now source.now rows.now body.now out.now x))
    trpc_write_feedback_is = refl

    pub trpc_write_close_is :
        left_of (c_calls.trpc_write_close_ensures 𝓛 mem run a b c d e f numbers source rows body out ceiling size x)
        ≡ fact 𝓤 (AsEnsured (calls.trpc_write ceiling kinds.Close numbers.now source.now rows.now body.now out.now x))
    trpc_write_close_is = refl
