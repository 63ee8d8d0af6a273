-- The entries for C: the grounds, their order and what is left are those of the functions below them, with answers as numbers. `retold`
-- says just that.
-- The queue's functions for C are in `thm_queue` (proofs/Exactly).
-- Assumes nothing.
use Rattle.std.specs.Prelude.{ℕ, List, Result, Ok, Err, length, get_or}
use Rattle.fixed_header.specs.Header.{total_of, header_size_of, id_of, version_of, type_of}
use Rattle.fixed_header.specs.declared.FixedHeader.{FixedHeader}
use Rattle.deframer.specs.Deframe.{Out}
use Rattle.deframer.specs.End.{End}
use Rattle.message.specs.Frames.{Reading}
use Rattle.message.specs.Spans.{spans_of}
use Rattle.schema.specs.declared.Kind.{Kind}
use Rattle.writer.specs.Writing.{Writing, error_of, count_of}
use Rattle.bekurapi.specs.Answers.{type_number, parsed_error, header_given, deframer_of, progress_error, progress_size, end_error, end_short}
use Rattle.bekurapi.specs.Answers.{answer_error}
use Rattle.bekurapi.specs.Numbers.{numbers_of, record_from}
use Rattle.thm_c.specs.Header.{CParsed}
use Rattle.thm_c.specs.Readings.{CRead}
use Rattle.thm_c.specs.Calls.{CDeframed, CFinished}
use Rattle.thm_c.specs.RoundTrip.{CWritten}
use Rattle.thm_round_trip.specs.Refusals.{write_entry}
use Rattle.refusals.specs.Grounds.{Verdict, refuses, works, Entry, retold}
use Rattle.thm_refusals.specs.Header.{header_grounds}
use Rattle.thm_refusals.specs.Deframer.{deframe_entry, finish_entry}
use Rattle.thm_refusals.specs.Reader.{read_entry}

-- ---- `trpc_header_check`: `header_check` of `thm_refusals`

-- ---- `trpc_header_parse`: 41 "before all others"; "judge 9, then 3 to 8", without 8; all are 0 after a refusal
abbrev pub parsed_C : Result FixedHeader ℕ → CParsed
parsed_C p =
    record {
      code = parsed_error p;
      frame_type = type_number (header_given p).frame_type;
      total = (header_given p).total;
      header_size = (header_given p).header_size;
      id = (header_given p).id;
      version = (header_given p).version;
    }

abbrev pub parsed_says : Result FixedHeader ℕ → Verdict
parsed_says (Ok h) = works
parsed_says (Err n) = refuses n

-- `parse_header`
abbrev pub parse_entry : (c : ℕ) → List ℕ → Entry (Result FixedHeader ℕ)
parse_entry c h =
    record {
      grounds = header_grounds c h;
      says = parsed_says;
      refusal = Err;
      work = Ok (record {
        frame_type = type_of (get_or h 2 0) (get_or h 3 0);
        total = total_of h;
        header_size = header_size_of h;
        id = id_of h;
        version = version_of h;
      });
    }

abbrev pub c_parse_entry : (c : ℕ) → List ℕ → Entry CParsed
c_parse_entry c h = retold parsed_C (λ d. d.code) (parse_entry c h)

-- ---- `trpc_deframe`: 41; "1, 2, a held refusal, then 3 to 8 rising", without 8
abbrev pub deframed_C : Out → CDeframed
deframed_C o =
    record {
      code = progress_error o.step.progress;
      held = o.step.next.held;
      error = o.step.next.error;
      buffer = o.buffer;
      taken = o.step.taken;
      size = progress_size o.step.progress;
    }

abbrev pub c_deframe_entry : (c : ℕ) → (held error : ℕ) → (buffer piece : List ℕ) → Entry CDeframed
c_deframe_entry c held error buffer piece = retold deframed_C (λ d. d.code) (deframe_entry c (deframer_of held error) buffer piece)

-- ---- `trpc_finish`
abbrev pub finished_C : End → CFinished
finished_C e = record { code = end_error e; short_by = end_short e }

abbrev pub c_finish_entry : (c : ℕ) → (held error : ℕ) → (buffer : List ℕ) → Entry CFinished
c_finish_entry c held error buffer = retold finished_C (λ f. f.code) (finish_entry c (deframer_of held error) buffer)

-- ---- `trpc_read_request` to `trpc_read_close`: 41; "16; fewer than 16 bytes is 9; 3 to 8; 9; then fields from left to right, ..; 15
-- last", without 8
abbrev pub read_C : (frame : List ℕ) → Reading → CRead
read_C f x = record { code = answer_error x.answer; rows = x.rows; numbers = numbers_of (spans_of x (length f)) }

abbrev pub c_read_entry : (c : ℕ) → Kind → (frame lent : List ℕ) → Entry CRead
c_read_entry c kind f lent = retold (read_C f) (λ x. x.code) (read_entry c kind f lent)

-- ---- `trpc_write_request` to `trpc_write_close`: 41; "Writer 18's first three grounds, 17, 18's others, 15, 19, 20, 27." Document 02
-- took 20 out.
abbrev pub written_C : Writing → CWritten
written_C w = record { code = error_of w.answer; out = w.output; size = count_of w.answer }

abbrev pub c_write_entry : (c : ℕ) → Kind → (numbers source rows body output : List ℕ) → Entry CWritten
c_write_entry c kind numbers source rows body output =
    retold written_C (λ w. w.code) (write_entry c (record_from kind numbers) source rows body output)
