-- For a user in C (document 02, P11): what the ceiling of a call decides.
--
-- Promised, of any call of `trpc_deframe`, under any ceiling, that gave what its contract ensures: the bytes of the buffer past the ceiling
-- are as they were (`c_buffer_past`), and the size of the frame that it gives, 0 for none, is at most the ceiling (`c_frame_within`). Of two
-- calls of `trpc_deframe` with one state and one piece, and of two calls of `trpc_finish` with one state, over buffers that agree up to the
-- ceiling: all numbers are the same, and so are the buffers up to the ceiling afterwards (`c_rest_unseen`, `c_rest_unseen_end`). So a
-- buffer that is as long as the ceiling holds every frame, and of a longer one the caller may keep the rest for itself.
-- Of any call of a writer, under any ceiling, that gave what its contract ensures, whatever it returned: the size that it gives, 0 after a
-- refusal, is at most the ceiling, and the bytes of the output past the ceiling are as they were (`c_written_within`). So of a longer
-- output, too, the caller may keep the rest for itself.
-- Of any call of a reader, under any ceiling, that gave what its contract ensures and returned 0: the frame that it was given has at most
-- as many bytes as the ceiling, and the ceiling is in range (`c_read_fits`).
-- Of any call, of whatever function but those of the queue, with a ceiling under 16 or over 65,536, that gave what its contract ensures,
-- whatever else is wrong with it: it returns 41. What it leaves:
--   `c_bad_ceiling_check`     only the number
--   `c_bad_ceiling_parse`     0 in all five that `trpc_header_parse` hands out
--   `c_bad_ceiling_deframe`   `held`, `error` and the buffer as they were, and 0 in `taken` and `size`
--   `c_bad_ceiling_finish`    0 in `short_by`
--   `c_bad_ceiling_read`      the row numbers as they were lent, and 25 zeros for the record and its parts
--   `c_bad_ceiling_write`     the output as it was lent, and 0 in `size`
-- Of any call of `trpc_deframe` or `trpc_finish` under a ceiling in range, over a buffer of at least as many bytes, with a state that was
-- left under another ceiling: it returns 2, and leaves state and buffer as they were, where 16 bytes or more are held of a frame whose
-- total is over the ceiling (`c_over_refused`), and where the state has the number of a refused header that has another number, or none,
-- under the ceiling (`c_code_refused`).
-- Not promised: that a change of the ceiling between two calls is noticed where the total is within both. What a stream comes to under one
-- ceiling is `c_faithful`.
-- Ruled out: a deframer that fills past the ceiling a frame that was begun under a larger one, a writer that changes a byte past the
-- ceiling, a reader that returns 0 for a frame over the ceiling, a function that takes 65,537 for 65,536 or gives another number first, and
-- a refusal that leaves numbers of an earlier call.
-- Assumes nothing.
use Prim.Native.Nat.{ℕ, ◌≤◌, ◌<◌}
use mathlib.Core.Path.{◌≡◌, refl, sym, ap, ◌∙◌}
use mathlib.Core.Logic.{inl}
use mathlib.Core.List.{List, []}
use native.Mathlib.Omega.{arith}
use lib.ListN.{length, take, drop, replicate}
use Rattle.fixed_header.specs.Header.{CeilingOk, header_error, total_of}
use Rattle.deframer.specs.Step.{Step}
use Rattle.deframer.specs.Progress.{Progress}
use Rattle.deframer.specs.Progress.{Frame, NeedMore, Refused}
use Rattle.deframer.proofs.PastCeiling.{buffer_past, rest_unseen, frame_within, RefusedWith2, over_refused, code_refused}
use Rattle.schema.specs.declared.Kind.{Kind}
use Rattle.message.proofs.Under.{read_fits}
use Rattle.writer.specs.Writing.{error_of, count_of}
use Rattle.bekurapi.specs.Answers.{deframer_of, deframed_from, progress_error, progress_size}
use Rattle.bekurapi.specs.Numbers.{record_from}
use Rattle.fixed_header.specs.Header.{WrongCeiling}
use Rattle.thm_round_trip.proofs.CalledCeiling.{written_ceiling}
use Rattle.thm_c.specs.Header.{CParsed, CChecks, CParses}
use Rattle.thm_c.specs.Readings.{CRead, CReads}
use Rattle.thm_c.specs.Calls.{CDeframed, CFinished, CDeframes, CFinishes}
use Rattle.thm_c.specs.RoundTrip.{CWritten, CWrites}
use Rattle.thm_c.specs.Entries.{deframed_C, finished_C}
use Rattle.thm_c.proofs.Given.{all_deframed, all_finished}
use Rattle.thm_c.proofs.CReading.{zero_read}
use Rattle.thm_c.proofs.CExactly.{c_check, c_parse, c_deframe, c_finish, c_read, c_write}

-- ---- the buffer and the frames under any ceiling
size_within : (c : ℕ) (p : Progress) → ((size : ℕ) → p ≡ Frame size → size ≤ c) → progress_size p ≤ c
size_within c (Frame size) within = within size refl
size_within c NeedMore within = omega arith
size_within c (Refused code) within = omega arith

module _ (c held error : ℕ) (buffer piece : List ℕ) (d : CDeframed) (is : CDeframes c held error buffer piece d) where
  pub c_buffer_past : drop c d.buffer ≡ drop c buffer
  c_buffer_past = ap (drop c) is.buffer_is ∙ buffer_past c (deframer_of held error) buffer piece

  pub c_frame_within : d.size ≤ c
  c_frame_within =
      let p = (deframed_from c held error buffer piece).step.progress in
      omega (arith, is.size_is, size_within c p (frame_within c (deframer_of held error) buffer piece))

-- ---- what is written and what is read under any ceiling
pub c_written_within : (c : ℕ) (kind : Kind) (numbers source rows body out : List ℕ) (w : CWritten)
    → CWrites c kind numbers source rows body out w → (w.size ≤ c) × (drop c w.out ≡ drop c out)
c_written_within c kind numbers source rows body out w is =
    let within = written_ceiling c (record_from kind numbers) source rows body out in
    (omega (arith, is.size_is, within.0), ap (drop c) is.output_is ∙ within.1)

pub c_read_fits : (c : ℕ) (kind : Kind) (frame lent : List ℕ) (x : CRead) → CReads c kind frame lent x → x.code ≡ 0
    → (length frame ≤ c) × CeilingOk c
c_read_fits c kind frame lent x is done =
    let (r, read) = zero_read c kind frame lent x is done in
    read_fits c kind frame lent r read

-- ---- the rest of the buffer
module _ (c held error : ℕ) (a b : List ℕ) (front : take c a ≡ take c b) where
  pub c_rest_unseen : (piece : List ℕ) (x y : CDeframed) → CDeframes c held error a piece x → CDeframes c held error b piece y
      → (x.code ≡ y.code) × (x.held ≡ y.held) × (x.error ≡ y.error) × (x.taken ≡ y.taken) × (x.size ≡ y.size)
      × (take c x.buffer ≡ take c y.buffer)
  c_rest_unseen piece x y cuts_a cuts_b =
      let unseen = rest_unseen c (deframer_of held error) a b front piece in
      let same = unseen.0 in
      rw (all_deframed c held error a piece x cuts_a, all_deframed c held error b piece y cuts_b) (
        ap (λ (s : Step). progress_error s.progress) same,
        ap (λ (s : Step). s.next.held) same,
        ap (λ (s : Step). s.next.error) same,
        ap (λ (s : Step). s.taken) same,
        ap (λ (s : Step). progress_size s.progress) same,
        unseen.1,
      )

  pub c_rest_unseen_end : (x y : CFinished) → CFinishes c held error a x → CFinishes c held error b y → x ≡ y
  c_rest_unseen_end x y ends_a ends_b =
      all_finished c held error a x ends_a ∙ ap finished_C (rest_unseen c (deframer_of held error) a b front []).2
      ∙ sym (all_finished c held error b y ends_b)

-- ---- 41, "before all others, with the state as given and nothing taken"
module _ (c : ℕ) (wrong : WrongCeiling c) where
  pub c_bad_ceiling_check : (bytes : List ℕ) (code : ℕ) → CChecks c bytes code → code ≡ 41
  c_bad_ceiling_check bytes code is = (c_check c bytes code is).refused 41 (inl (wrong, refl))

  pub c_bad_ceiling_parse : (bytes : List ℕ) (x : CParsed) → CParses c bytes x
      → x ≡ record { code = 41; frame_type = 0; total = 0; header_size = 0; id = 0; version = 0 }
  c_bad_ceiling_parse bytes x is = (c_parse c bytes x is).refused 41 (inl (wrong, refl))

  pub c_bad_ceiling_deframe : (held error : ℕ) (buffer piece : List ℕ) (d : CDeframed) → CDeframes c held error buffer piece d
      → d ≡ record { code = 41; held = held; error = error; buffer = buffer; taken = 0; size = 0 }
  c_bad_ceiling_deframe held error buffer piece d is = (c_deframe c held error buffer piece d is).refused 41 (inl (wrong, refl))

  pub c_bad_ceiling_finish : (held error : ℕ) (buffer : List ℕ) (f : CFinished) → CFinishes c held error buffer f
      → f ≡ record { code = 41; short_by = 0 }
  c_bad_ceiling_finish held error buffer f is = (c_finish c held error buffer f is).refused 41 (inl (wrong, refl))

  pub c_bad_ceiling_read : (kind : Kind) (frame lent : List ℕ) (x : CRead) → CReads c kind frame lent x
      → x ≡ record { code = 41; rows = lent; numbers = replicate 25 0 }
  c_bad_ceiling_read kind frame lent x is = (c_read c kind frame lent x is).refused 41 (inl (wrong, refl))

  pub c_bad_ceiling_write : (kind : Kind) (numbers source rows body out : List ℕ) (w : CWritten)
      → CWrites c kind numbers source rows body out w → w ≡ record { code = 41; out = out; size = 0 }
  unfolding error_of count_of
  c_bad_ceiling_write kind numbers source rows body out w is =
      (c_write c kind numbers source rows body out w is).refused 41 (inl (wrong, refl))

-- ---- a state that was left under another ceiling
-- 2 of a call with such a state, and of the end of the stream
abbrev pub CRefusedWith2 : (c held error : ℕ) → (buffer : List ℕ) → Type 0
CRefusedWith2 c held error buffer =
    ((piece : List ℕ) (d : CDeframed) → CDeframes c held error buffer piece d
    → d ≡ record { code = 2; held = held; error = error; buffer = buffer; taken = 0; size = 0 })
    × ((f : CFinished) → CFinishes c held error buffer f → f ≡ record { code = 2; short_by = 0 })

refused_with_2 : (c held error : ℕ) (buffer : List ℕ) → ((piece : List ℕ) → RefusedWith2 c (deframer_of held error) buffer piece)
    → CRefusedWith2 c held error buffer
refused_with_2 c held error buffer refuses = (
  λ piece d is. all_deframed c held error buffer piece d is ∙ ap deframed_C (refuses piece).0,
  λ f is. all_finished c held error buffer f is ∙ ap finished_C (refuses []).1,
)

module _ (c : ℕ) (in_range : CeilingOk c) (held : ℕ) (buffer : List ℕ) (big : c ≤ length buffer) where
  pub c_over_refused : 16 ≤ held → c < total_of (take 16 buffer) → CRefusedWith2 c held 0 buffer
  c_over_refused past over = refused_with_2 c held 0 buffer (λ piece. over_refused c in_range held buffer piece big past over)

  pub c_code_refused : (code : ℕ) → (code ≡ 0 → ⊥) → (header_error c (take 16 buffer) ≡ code → ⊥) → CRefusedWith2 c held code buffer
  c_code_refused code some other =
      refused_with_2 c held code buffer (λ piece. code_refused c in_range held buffer piece big code some other)
