-- For a user: which numbers an answer can hold.
--
-- Promised, of any call of any entry in Rattle or C, with any arguments and under any ceiling, that gave what its contract ensures:
--   `given_in_use`    the number in its answer is 0 or a number in use (`refusals`, specs/Numbers).
--   `never_retired`   it is none of the retired numbers.
--   `never_eight`     it is not 8. Document 02: "8 is no longer given and isn't used for anything else".
--   `never_twenty`    it is not 20. Document 02: "20 is never used again."
-- And of the number in the state that a call of the deframer hands back, in Rattle (`state_number`) and C (`c_state_number`): it is the
-- answer's number, or the state is as the caller gave it.
-- Not promised: which of the numbers in use an entry gives when; that is `Exactly`, of each entry.
-- Ruled out: a writer that gives 20 in 19's place, a header check that gives 8 for bytes 15 and 16, and an end of a stream that hands back
-- whatever number its state holds.
-- Assumes nothing.
use Prim.Native.Nat.{ℕ}
use mathlib.Core.Path.{◌≡◌, refl, ap, sym, subst, ◌∙◌}
use mathlib.Core.Logic.{◌⊎◌, inl, inr}
use mathlib.Core.Bool.{true, not}
use mathlib.Core.List.{List}
use lib.Dec.{eqb, ltb}
use lib.ListN.{length}
use Rattle.wire_read.specs.Part.{part}
use Rattle.wire_read.specs.Varint.{varint}
use Rattle.wire_read.specs.Tags.{wire_type, tag, length_prefix}
use Rattle.wire_read.specs.Skipping.{group_in, skip_field}
use Rattle.wire_read.specs.Fields.{next_field}
use Rattle.wire_write.specs.Writing.{put_varint, put_tag, put_bytes}
use Rattle.wire_walk.specs.Reader.{step_at}
use Rattle.wire_read.proofs.Codes.{tag_code, length_code, value_code, group_in_code, next_field_code}
use Rattle.message.specs.Frames.{read_frame}
use Rattle.refusals.specs.declared.Refusal.{Refusal}
use Rattle.refusals.specs.Refusals.{in_numbers, code_of}
use Rattle.message.specs.Spans.{Spans, spans_given}
use Rattle.message.specs.declared.Located.{Located}
use Rattle.records.specs.Records.{record_of}
use Rattle.records.specs.declared.Record.{Record}
use Rattle.writer.specs.Writing.{Writing, written}
use Rattle.thm_round_trip.specs.Calls.{Writes}
use Rattle.laws.proofs.Booleans.{either}
use Rattle.fixed_header.specs.Header.{ceiling_ok}
use Rattle.deframer.specs.Deframe.{known_of, stream, next_frame, next_state, Out, deframed}
use Rattle.deframer.specs.declared.Deframer.{Deframer}
use Rattle.deframer.specs.Step as deframer_step
use Rattle.deframer.specs.Progress.{Progress}
use Rattle.deframer.specs.Progress as progress
use Rattle.bekurapi.specs.Answers.{deframer_of, deframed_from}
use Rattle.queue.specs.Calls.{new_job, after_add, after_removal}
use Rattle.std.specs.Prelude.{Result, Ok, Err}
use Rattle.refusals.specs.Grounds.{by_number, number_of, Entry, Exactly}
use Rattle.refusals.specs.Numbers.{retired, Among, Usable}
use Rattle.refusals.proofs.Numbers.{not_retired, is_in_lem, grounds_in_use, first_in_use, number_back, answer_usable}
use Rattle.thm_stream.specs.Trace.{Deframes}
use Rattle.thm_refusals.specs.Header.{header_check}
use Rattle.thm_refusals.specs.Deframer.{progress_says, deframe_entry, finish_entry}
use Rattle.thm_refusals.specs.Reader.{answer_says, read_entry}
use Rattle.thm_refusals.specs.FieldWriter.{raw_entry, tag_entry}
use Rattle.thm_refusals.specs.Queue.{add_entry, take_entry, cancel_entry}
use Rattle.thm_refusals.proofs.Header.{header_check_exactly}
use Rattle.thm_refusals.proofs.Deframer.{deframe_gives, deframe_in_use, finish_gives, finish_in_use}
use Rattle.thm_refusals.proofs.Reader.{read_exactly, read_gives, read_in_use}
use Rattle.thm_refusals.proofs.FieldWriter.{raw_exactly, tagged_exactly}
use Rattle.thm_refusals.proofs.Queue.{add_gives, take_gives, cancel_gives}
use Rattle.thm_round_trip.specs.Refusals.{encoded_says, write_entry}
use Rattle.thm_round_trip.proofs.Exactly.{written_exactly}
use Rattle.thm_queue.proofs.Exactly.{add_gave, removal_gave, c_add, c_take, c_cancel}
use Rattle.thm_c.specs.Entries.{parse_entry, c_parse_entry, c_deframe_entry, c_finish_entry, c_read_entry, c_write_entry}
use Rattle.thm_c.specs.Calls.{CDeframed, CDeframes}
use Rattle.thm_c.proofs.CExactly.{parse_exactly, progress_number, c_check, c_parse, c_deframe, c_finish, c_read, c_write}
use Rattle.thm_numbers.specs.AnyCall.{AnyCall, AsEnsured, number_in}
use Rattle.thm_numbers.specs.AnyCall.{check_header, parse_header, deframe, finish, read_varint, read_tag, read_length, skip_field_call}
use Rattle.thm_numbers.specs.AnyCall.{next_field_call, reader_next, field_at_call, last_field_call, write_varint, write_tag, write_raw, write_bytes}
use Rattle.thm_numbers.specs.AnyCall.{decode, read_spans, read, content_error_call, write, write_slots}
use Rattle.thm_numbers.specs.AnyCall.{queue_add, queue_take, queue_cancel}
use Rattle.thm_numbers.specs.AnyCall.{trpc_header_check, trpc_header_parse, trpc_deframe, trpc_finish, trpc_read, trpc_write}
use Rattle.thm_numbers.specs.AnyCall.{trpc_queue_add, trpc_queue_take, trpc_queue_cancel}
use Rattle.thm_numbers.proofs.FieldNumbers.{code_usable, step_usable, next_usable, varint_usable, tag_usable, length_usable, skip_usable, field_usable, last_usable}
use Rattle.thm_numbers.proofs.FieldNumbers.{decode_usable, content_usable}

-- an entry whose grounds all have numbers in use, and its answer
by_grounds : {A : Type 0} (e : Entry A) → grounds_in_use e.grounds ≡ true → (a : A) → Exactly e a → Usable (number_of (e.says a))
by_grounds e all a is = answer_usable e a is (first_in_use e.grounds all)

-- an answer that is a number, or has it as a number
as_number : (n : ℕ) → Usable (number_of (by_number n)) → Usable n
as_number n = subst Usable (number_back n)

write_usable : (c : ℕ) (r : Record) (source numbers body output : List ℕ) (w : Writing) → Writes c r source numbers body output w
    → Usable (number_of (encoded_says w.answer))
write_usable c r source numbers body output w is =
    subst (λ (a : Result ℕ ℕ). Usable (number_of (encoded_says a))) (sym is.0)
    (by_grounds (write_entry c r source numbers body output) refl (written c r source numbers body output)
    (written_exactly c r source numbers body output))

spans_usable : {y : Spans} (x : Located) → spans_given x ≡ y → Usable (number_of (answer_says y.answer)) → Usable (code_of x.answer)
spans_usable x is u = by x.answer (subst (λ (z : Spans). Usable (number_of (answer_says z.answer))) (sym is) u)
  where
    by : (a : Result Record Refusal) → Usable (number_of (answer_says (in_numbers a))) → Usable (code_of a)
    by (Ok r) u = u
    by (Err refusal) u = u

pub given_in_use : (call : AnyCall) → AsEnsured call → Usable (number_in call)
unfolding step_at
given_in_use (check_header c bytes code) is =
    as_number code (by_grounds (header_check c bytes) refl code (header_check_exactly c bytes code is))
given_in_use (parse_header c bytes p) is =
    by_grounds (parse_entry c bytes) refl p (subst (Exactly (parse_entry c bytes)) (sym is) (parse_exactly c bytes))
given_in_use (deframe c state buffer piece o) is =
    answer_usable (deframe_entry c state buffer piece) o (deframe_gives c state buffer piece o is) (deframe_in_use c state buffer piece)
given_in_use (finish c state buffer e) is =
    answer_usable (finish_entry c state buffer) e (finish_gives c state buffer e is) (finish_in_use c state buffer)
given_in_use (read_varint s at end v) is =
    code_usable v is (varint_usable at (varint (part s at end)))
given_in_use (read_tag s at end t) is =
    code_usable t is (tag_usable at (tag (part s at end)) (tag_code (part s at end)))
given_in_use (read_length s at end l) is =
    code_usable l is
    (length_usable at (length_prefix (part s at end)) (length_code (part s at end)))
given_in_use (skip_field_call s at end n w depth k) is =
    let rest = part s at end in
    code_usable k is
    (skip_usable at (skip_field n w depth rest)
    (value_code (group_in (length rest)) (group_in_code (length rest)) n (wire_type w) _ rest))
given_in_use (next_field_call s at end f) is =
    code_usable f is (field_usable at (next_field (part s at end)) (next_field_code (part s at end)))
given_in_use (reader_next r m) is = code_usable m is (next_usable r)
given_in_use (field_at_call s at x) is = code_usable x is (step_usable s at)
given_in_use (last_field_call s t f) is = code_usable f is (last_usable t s)
given_in_use (write_varint v out at x) is =
    by_grounds (raw_entry out at (put_varint v)) refl x (raw_exactly out at (put_varint v) x is)
given_in_use (write_tag n w out at x) is =
    by_grounds (tag_entry n w out at (put_tag n w)) refl x (tagged_exactly out at (put_tag n w) n w x is)
given_in_use (write_raw content out at x) is = by_grounds (raw_entry out at content) refl x (raw_exactly out at content x is)
given_in_use (write_bytes n content out at x) is =
    by_grounds (tag_entry n 2 out at (put_bytes n content)) refl x (tagged_exactly out at (put_bytes n content) n 2 x is)
given_in_use (decode frame at end schema lent d) is =
    code_usable d is (decode_usable frame at end schema lent)
given_in_use (read_spans c kind frame lent x rows) is =
    spans_usable x is.0
    (answer_usable (read_entry c kind frame lent) (read_frame c kind frame lent) (read_exactly c kind frame lent)
    (read_in_use c kind frame lent))
given_in_use (read c kind frame lent x) is =
    answer_usable (read_entry c kind frame lent) x (read_gives c kind frame lent x is) (read_in_use c kind frame lent)
given_in_use (content_error_call kind slots count source numbers body_size code) is =
    subst Usable (sym is) (content_usable kind slots count source numbers body_size)
given_in_use (write c r source numbers body output w) is = write_usable c r source numbers body output w is
given_in_use (write_slots c kind id version slots count source numbers body output w) is =
    write_usable c (record_of kind id version slots count) source numbers body output w is
given_in_use (queue_add q j a) is =
    as_number (code_of a.answer) (by_grounds (add_entry q j) refl (after_add a) (add_gives q j _ is))
given_in_use (queue_take q a) is = as_number (code_of a.job) (by_grounds (take_entry q) refl (after_removal a) (take_gives q _ is))
given_in_use (queue_cancel q c r a) is =
    as_number (code_of a.job) (by_grounds (cancel_entry q c r) refl (after_removal a) (cancel_gives q c r _ is))
given_in_use (trpc_header_check c bytes code) is =
    as_number code (by_grounds (header_check c bytes) refl code (c_check c bytes code is))
given_in_use (trpc_header_parse c bytes d) is = as_number d.code (by_grounds (c_parse_entry c bytes) refl d (c_parse c bytes d is))
given_in_use (trpc_deframe c held error buffer piece d) is =
    as_number d.code
    (answer_usable (c_deframe_entry c held error buffer piece) d (c_deframe c held error buffer piece d is)
    (deframe_in_use c (deframer_of held error) buffer piece))
given_in_use (trpc_finish c held error buffer f) is =
    as_number f.code
    (answer_usable (c_finish_entry c held error buffer) f (c_finish c held error buffer f is)
    (finish_in_use c (deframer_of held error) buffer))
given_in_use (trpc_read c kind frame lent x) is =
    as_number x.code (answer_usable (c_read_entry c kind frame lent) x (c_read c kind frame lent x is) (read_in_use c kind frame lent))
given_in_use (trpc_write c kind numbers source rows body out w) is =
    as_number w.code
    (by_grounds (c_write_entry c kind numbers source rows body out) refl w (c_write c kind numbers source rows body out w is))
given_in_use (trpc_queue_add q c r t a s) is =
    as_number s.error (by_grounds (add_entry q (new_job c r t a)) refl (add_gave s) (c_add q s c r t a is))
given_in_use (trpc_queue_take q s) is = as_number s.error (by_grounds (take_entry q) refl (removal_gave s) (c_take q s is))
given_in_use (trpc_queue_cancel q c r s) is =
    as_number s.error (by_grounds (cancel_entry q c r) refl (removal_gave s) (c_cancel q s c r is))

pub never_retired : (call : AnyCall) → AsEnsured call → Among (number_in call) retired → ⊥
never_retired call is = not_retired (number_in call) (given_in_use call is)

pub never_eight : (call : AnyCall) → AsEnsured call → number_in call ≡ 8 → ⊥
never_eight call is eight = never_retired call is (subst (λ (n : ℕ). Among n retired) (sym eight) (is_in_lem 8 retired refl))

pub never_twenty : (call : AnyCall) → AsEnsured call → number_in call ≡ 20 → ⊥
never_twenty call is twenty = never_retired call is (subst (λ (n : ℕ). Among n retired) (sym twenty) (is_in_lem 20 retired refl))

-- ---- the number in a state of the deframer
next_error : (p : Progress) (s : List ℕ) → (next_state p s).error ≡ number_of (progress_says p)
next_error (progress.Frame size) s = refl
next_error progress.NeedMore s = refl
next_error (progress.Refused code) s = refl

-- a state that a call left of the one that it was given
abbrev StateNumber : Deframer → Out → Type 0
StateNumber state o = (o.step.next ≡ state) ⊎ (o.step.next.error ≡ number_of (progress_says o.step.progress))

by_definition : (c : ℕ) (state : Deframer) (buffer piece : List ℕ) → StateNumber state (deframed c state buffer piece)
unfolding deframed
by_definition c state buffer piece =
    let s = stream state.held buffer piece in
    either (StateNumber state) (not (ceiling_ok c)) (inl refl)
    (either (StateNumber state) (ltb (length buffer) c) (inl refl)
    (either (StateNumber state) (not (known_of c state buffer)) (inl refl)
    (either (StateNumber state) (not (eqb state.error 0)) (inl refl)
    (inr (next_error (next_frame c s) s)))))

pub state_number : (c : ℕ) (state : Deframer) (buffer piece : List ℕ) (o : Out) → Deframes c state buffer piece o
    → (o.step.next ≡ state) ⊎ (o.step.next.error ≡ number_of (progress_says o.step.progress))
state_number c state buffer piece o is =
    subst (λ (x : deframer_step.Step). StateNumber state (record { step = x; buffer = o.buffer })) (sym is.0)
    (by_definition c state buffer piece)

pub c_state_number : (c held error : ℕ) (buffer piece : List ℕ) (d : CDeframed) → CDeframes c held error buffer piece d
    → ((d.held ≡ held) × (d.error ≡ error)) ⊎ (d.error ≡ d.code)
c_state_number c held error buffer piece d is = by (by_definition c (deframer_of held error) buffer piece)
  where
    by : StateNumber (deframer_of held error) (deframed_from c held error buffer piece)
        → ((d.held ≡ held) × (d.error ≡ error)) ⊎ (d.error ≡ d.code)
    by (inl same) =
        let left = is.state_is ∙ same in
        inl (ap (λ (x : Deframer). x.held) left, ap (λ (x : Deframer). x.error) left)
    by (inr number) =
        inr (ap (λ (x : Deframer). x.error) is.state_is ∙ number
        ∙ sym (progress_number (deframed_from c held error buffer piece).step.progress) ∙ sym is.code_is)
