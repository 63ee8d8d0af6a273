-- For a user in C: what each exported function but those of the queue returns.
--
-- Promised, of any call, under any ceiling, that gave what its contract ensures (`proofs/Contracts`): it returns a number exactly when the
-- number's ground holds and none before it in the papers' order does, 41 first (document 02, P11: "before all others"); it returns 0
-- exactly when none holds; and what is in all that was lent is said for each case. `c_read` and `c_write` say it of the six readers and of
-- the six writers, by the kind; `c_with_twenty_exactly` says it of the writers in document 01's order, with refusal 20, too. The queue's
-- functions have the same theorem in `thm_queue` (`c_add`, `c_take`, `c_cancel`).
-- Not promised: what the bytes of a written frame say, which `c_read_back` does.
-- Ruled out: a function that returns 0 for a frame that it did not read or write, one that returns a later ground's number first, and a
-- number that the papers do not give to that function.
-- Assumes nothing.
use Prim.Native.Nat.{ℕ, ◌<◌}
use mathlib.Core.Path.{◌≡◌, refl, sym, subst}
use mathlib.Core.List.{List}
use native.Mathlib.Omega.{arith}
use lib.ListN.{length}
use Rattle.fixed_header.specs.Header.{header_error, parsed}
use Rattle.fixed_header.specs.declared.FixedHeader.{FixedHeader}
use Rattle.std.specs.Prelude.{Result, Ok, Err}
use Rattle.message.specs.Frames.{read_frame}
use Rattle.deframer.specs.Deframe.{deframed, ended}
use Rattle.deframer.specs.Progress.{Progress}
use Rattle.deframer.specs.Progress as progress
use Rattle.deframer.specs.End.{End}
use Rattle.deframer.specs.End as end
use Rattle.schema.specs.declared.Kind.{Kind}
use Rattle.records.specs.declared.Record.{Record}
use Rattle.message.specs.Frames.{Answer}
use Rattle.std.specs.Prelude.{Ok, Err}
use Rattle.writer.specs.Writing.{error_of, written}
use Rattle.std.specs.Prelude.{Result, Ok, Err}
use Rattle.bekurapi.specs.Answers.{parsed_error, deframer_of, progress_error, end_error, answer_error}
use Rattle.bekurapi.specs.Numbers.{record_from}
use Rattle.thm_c.specs.Header.{CParsed, CChecks, CParses}
use Rattle.thm_c.specs.Readings.{CRead, CReads}
use Rattle.thm_c.specs.Calls.{CDeframed, CFinished, CDeframes, CFinishes}
use Rattle.thm_c.specs.RoundTrip.{CWritten, CWrites}
use Rattle.thm_round_trip.specs.Refusals.{encoded_says, write_entry}
use Rattle.thm_round_trip.proofs.Exactly.{written_exactly}
use Rattle.thm_round_trip.proofs.WithoutTwenty.{entry_with_twenty, numbered, with_twenty_exactly}
use Rattle.refusals.specs.Grounds.{First, number_of, Entry, retold, Exactly}
use Rattle.refusals.proofs.Order.{Numbered, first_number, end, unless_error, outcome_of, exactly, retold_exactly}
use Rattle.refusals.proofs.Numbers.{positive}
use Rattle.thm_refusals.specs.Header.{header_grounds, header_check}
use Rattle.thm_refusals.specs.Reader.{answer_says, read_entry}
use Rattle.thm_refusals.specs.Deframer.{progress_says, deframe_entry, end_says, finish_entry}
use Rattle.thm_refusals.proofs.Header.{header_numbered, header_exactly, header_check_exactly}
use Rattle.thm_refusals.proofs.Reader.{read_exactly, read_in_use}
use Rattle.thm_refusals.proofs.Deframer.{deframe_exactly, finish_exactly}
use Rattle.thm_c.specs.Entries.{parsed_C, parsed_says, parse_entry, c_parse_entry, deframed_C, c_deframe_entry}
use Rattle.thm_c.specs.Entries.{finished_C, c_finish_entry, read_C, c_read_entry, written_C, c_write_entry}
use Rattle.thm_c.proofs.Given.{all_parsed, all_deframed, all_finished, all_read, all_written}

-- an entry whose answers C has as numbers
reported : {A B : Type 0} (e : Entry A) (f : A → B) (code : B → ℕ) → ((a : A) → code (f a) ≡ number_of (e.says a))
    → ((n : ℕ) → First e.grounds n → 0 < n) → (a : A) → Exactly e a → (b : B) → b ≡ f a
    → Exactly (retold f code e) b
reported e f code told positive a is b same = subst (Exactly (retold f code e)) (sym same) (retold_exactly e f code told positive a is)

-- ---- `trpc_header_check`
pub c_check : (c : ℕ) (h : List ℕ) (code : ℕ) → CChecks c h code → Exactly (header_check c h) code
c_check c h code is = header_check_exactly c h code is

-- ---- `trpc_header_parse`
pub parse_exactly : (c : ℕ) (h : List ℕ) → Exactly (parse_entry c h) (parsed c h)
unfolding parsed
parse_exactly c h =
    exactly (parse_entry c h) (parsed c h) (λ none. refl) (λ n f. refl)
    (unless_error (header_grounds c h) (header_error c h) (header_numbered c h)
    (outcome_of (header_check c h) (header_error c h) (header_exactly c h)) end)

parsed_number : (p : Result FixedHeader ℕ) → parsed_error p ≡ number_of (parsed_says p)
parsed_number (Ok h) = refl
parsed_number (Err code) = refl

pub c_parse : (c : ℕ) (h : List ℕ) (d : CParsed) → CParses c h d → Exactly (c_parse_entry c h) d
c_parse c h d is =
    reported (parse_entry c h) parsed_C (λ d. d.code) parsed_number (first_number (header_grounds c h) (header_numbered c h)) (parsed c h)
    (parse_exactly c h) d (all_parsed c h d is)

-- ---- `trpc_deframe`
pub progress_number : (p : Progress) → progress_error p ≡ number_of (progress_says p)
progress_number (progress.Frame size) = refl
progress_number progress.NeedMore = refl
progress_number (progress.Refused code) = refl

pub c_deframe : (c held error : ℕ) (buffer piece : List ℕ) (d : CDeframed) → CDeframes c held error buffer piece d
    → Exactly (c_deframe_entry c held error buffer piece) d
c_deframe c held error buffer piece d is =
    reported (deframe_entry c (deframer_of held error) buffer piece) deframed_C (λ d. d.code) (λ o. progress_number o.step.progress)
    (first_number (c_deframe_entry c held error buffer piece).grounds numbers) (deframed c (deframer_of held error) buffer piece)
    (deframe_exactly c (deframer_of held error) buffer piece) d (all_deframed c held error buffer piece d is)
  where
    numbers : Numbered (deframe_entry c (deframer_of held error) buffer piece).grounds
    numbers = search arith depth 30

-- ---- `trpc_finish`
end_number : (e : End) → end_error e ≡ number_of (end_says e)
end_number end.Clean = refl
end_number (end.Short count) = refl
end_number (end.Refused code) = refl

pub c_finish : (c held error : ℕ) (buffer : List ℕ) (f : CFinished) → CFinishes c held error buffer f
    → Exactly (c_finish_entry c held error buffer) f
c_finish c held error buffer f finishes =
    reported (finish_entry c (deframer_of held error) buffer) finished_C (λ f. f.code) end_number
    (first_number (c_finish_entry c held error buffer).grounds numbers) (ended c (deframer_of held error) buffer)
    (finish_exactly c (deframer_of held error) buffer) f (all_finished c held error buffer f finishes)
  where
    numbers : Numbered (finish_entry c (deframer_of held error) buffer).grounds
    numbers = search arith depth 30

-- ---- the six writers
encoded_number : (e : Result ℕ ℕ) → error_of e ≡ number_of (encoded_says e)
unfolding error_of
encoded_number (Ok size) = refl
encoded_number (Err code) = refl

module _ (c : ℕ) (kind : Kind) (numbers source rows body output : List ℕ) where
  abbrev r : Record
  r = record_from kind numbers

  write_numbers : Numbered (write_entry c r source rows body output).grounds
  write_numbers = search arith depth 20

  pub c_write : (w : CWritten) → CWrites c kind numbers source rows body output w
      → Exactly (c_write_entry c kind numbers source rows body output) w
  c_write w writes =
      reported (write_entry c r source rows body output) written_C (λ w. w.code) (λ w. encoded_number w.answer)
      (first_number (write_entry c r source rows body output).grounds write_numbers) (written c r source rows body output)
      (written_exactly c r source rows body output) w (all_written c kind numbers source rows body output w writes)

  -- in document 01's order with 20, too: no call in C tells the two lists apart
  pub c_with_twenty_exactly : (w : CWritten) → CWrites c kind numbers source rows body output w
      → Exactly (retold written_C (λ w. w.code) (entry_with_twenty c r source rows body output)) w
  c_with_twenty_exactly w writes =
      reported (entry_with_twenty c r source rows body output) written_C (λ w. w.code) (λ w. encoded_number w.answer)
      (first_number (entry_with_twenty c r source rows body output).grounds (numbered c r source rows body (length output)))
      (written c r source rows body output)
      (with_twenty_exactly c r source rows body output (written c r source rows body output) (refl, refl)) w
      (all_written c kind numbers source rows body output w writes)

-- ---- the six readers
answer_number : (a : Answer) → answer_error a ≡ number_of (answer_says a)
answer_number (Ok r) = refl
answer_number (Err code) = refl

module _ (c : ℕ) (kind : Kind) (f lent : List ℕ) where
  pub c_read : (x : CRead) → CReads c kind f lent x → Exactly (c_read_entry c kind f lent) x
  c_read x reads =
      reported (read_entry c kind f lent) (read_C f) (λ x. x.code) (λ x. answer_number x.answer)
      (λ n first. positive n (read_in_use c kind f lent n first)) (read_frame c kind f lent)
      (read_exactly c kind f lent) x (all_read c kind f lent x reads)
