-- For a user in C: all versions are accepted, and byte 16 is ignored (document 02, P2).
--
-- Promised, of any two calls under one ceiling, whatever it is, that gave what their contracts ensure:
-- `c_only_the_version`: of two frames of one length that agree on their first 14 bytes and on all bytes after the 16th, read as one kind
-- with the same row numbers lent, a reader returns the same number, leaves the same row numbers, and gives the same first 24 numbers of the
-- record. The 25th is the version (`CReadOf`).
-- `c_byte_16_ignored`: if they agree on byte 15, too, all that C has after the two calls is the same.
-- `c_last_two_ignored`: of two headers of one length that agree on their first 14 bytes `trpc_header_check` returns the same number.
-- `c_byte_16_unparsed`: if they agree on byte 15, too, `trpc_header_parse` gives the same of both.
-- `c_step_alike`: of two calls of `trpc_deframe` with one state, buffers of one length and pieces of one length, where the bytes held with
-- the piece after them agree on their first 14, all numbers are the same: what is returned, `held`, `error`, `taken` and `size`.
-- `c_end_alike`: with one state, of two buffers of one length that agree on their first 14 bytes, `trpc_finish` gives the same.
-- Not promised: anything of frames of different lengths or of two calls under two ceilings, nor that the buffers are the same after two
-- calls of `trpc_deframe`.
-- Ruled out: a deframer, a reader or a judge that refuses a version, one that looks at byte 16, and a number of a record, other than its
-- last, that is taken from either.
-- Assumes nothing.
use Prim.Native.Nat.{ℕ}
use mathlib.Core.Path.{◌≡◌, refl, ap, ap₂, sym, ◌∙◌}
use mathlib.Core.List.{List}
use lib.ListN.{length, take, drop}
use Rattle.fixed_header.specs.Header.{version_of}
use Rattle.fixed_header.proofs.LastTwo.{last_two_ignored, byte_16_unparsed}
use Rattle.deframer.specs.Deframe.{stream}
use Rattle.deframer.specs.declared.Deframer.{Deframer}
use Rattle.deframer.specs.Step.{Step}
use Rattle.deframer.proofs.LastTwoCut.{step_alike, end_alike}
use Rattle.schema.specs.declared.Kind.{Kind}
use Rattle.records.specs.Content.{record_id, row_count, slots_of}
use Rattle.records.specs.declared.Span.{Span}
use Rattle.records.specs.declared.Record.TheVariants.{Request, Response, Init, Data, Feedback, Close}
use Rattle.message.specs.Frames.{Reading, read_frame}
use Rattle.message.specs.Spans.{spans_of}
use Rattle.message.specs.Frames.{Answer}
use Rattle.std.specs.Prelude.{Ok, Err}
use Rattle.bekurapi.specs.Answers.{answer_error, deframer_of, progress_error, progress_size}
use Rattle.bekurapi.specs.Numbers.{numbers_of}
use Rattle.thm_round_trip.specs.Versions.{versioned, answer_versioned, reading_versioned}
use Rattle.thm_round_trip.proofs.LastTwoRead.{only_the_version, byte_16_ignored}
use Rattle.thm_c.specs.Header.{CParsed, CChecks, CParses}
use Rattle.thm_c.specs.Readings.{CRead, CReads}
use Rattle.thm_c.specs.Calls.{CDeframed, CFinished, CDeframes, CFinishes}
use Rattle.thm_c.specs.Entries.{parsed_C, finished_C, read_C}
use Rattle.thm_c.proofs.Given.{all_parsed, all_deframed, all_finished, all_read}

-- `read_C` of a frame, which sees its length only
abbrev read_sized : (size : ℕ) → Reading → CRead
read_sized size x = record { code = answer_error x.answer; rows = x.rows; numbers = numbers_of (spans_of x size) }

-- ---- what the numbers of an answer do not say of its version
code_alike : (v : ℕ) (a : Answer) → answer_error a ≡ answer_error (answer_versioned v a)
code_alike v (Ok r) = refl
code_alike v (Err code) = refl

numbers_alike : (v : ℕ) (a : Answer) (header body attachment : Span)
    → take 24 (numbers_of (record { answer = a; header = header; body = body; attachment = attachment }))
    ≡ take 24 (numbers_of (record { answer = answer_versioned v a; header = header; body = body; attachment = attachment }))
unfolding versioned record_id row_count slots_of
numbers_alike v (Ok (Request r)) header body attachment = refl
numbers_alike v (Ok (Response r)) header body attachment = refl
numbers_alike v (Ok (Init r)) header body attachment = refl
numbers_alike v (Ok (Data r)) header body attachment = refl
numbers_alike v (Ok (Feedback r)) header body attachment = refl
numbers_alike v (Ok (Close r)) header body attachment = refl
numbers_alike v (Err code) header body attachment = refl

-- ---- two calls of the reader of a kind: x is what the call on f gave, y what the call on g gave
module _ (c : ℕ) (kind : Kind) (f g lent : List ℕ) (x y : CRead) (long : length f ≡ length g) where
  pub c_only_the_version : take 14 f ≡ take 14 g → drop 16 f ≡ drop 16 g → CReads c kind f lent x → CReads c kind g lent y
      → (x.code ≡ y.code) × ((x.rows ≡ y.rows) × (take 24 x.numbers ≡ take 24 y.numbers))
  c_only_the_version front tail reads_f reads_g =
      let given = read_frame c kind f lent in
      let later : read_C f (reading_versioned (version_of g) given) ≡ y =
      ap₂ read_sized long (sym (only_the_version c kind f g lent long front tail))
      ∙ sym (all_read c kind g lent y reads_g) in (
        reads_f.code_is ∙ code_alike (version_of g) given.answer ∙ ap (λ (z : CRead). z.code) later,
        (
          reads_f.rows_are ∙ ap (λ (z : CRead). z.rows) later,
          ap (take 24) reads_f.numbers_are ∙ numbers_alike (version_of g) given.answer _ _ _
              ∙ ap (λ (z : CRead). take 24 z.numbers) later,
        ),
      )

  pub c_byte_16_ignored : take 15 f ≡ take 15 g → drop 16 f ≡ drop 16 g → CReads c kind f lent x → CReads c kind g lent y → x ≡ y
  c_byte_16_ignored front tail reads_f reads_g =
      all_read c kind f lent x reads_f
      ∙ ap₂ read_sized long (sym (byte_16_ignored c kind f g lent long front tail))
      ∙ sym (all_read c kind g lent y reads_g)

-- ---- two calls of a function over a fixed header
pub c_last_two_ignored : (c : ℕ) (a b : List ℕ) (m n : ℕ) → length a ≡ length b → take 14 a ≡ take 14 b
    → CChecks c a m → CChecks c b n → m ≡ n
c_last_two_ignored c a b m n long front checks_a checks_b = checks_a ∙ last_two_ignored a b front c long ∙ sym checks_b

pub c_byte_16_unparsed : (c : ℕ) (a b : List ℕ) (x y : CParsed) → length a ≡ length b → take 15 a ≡ take 15 b
    → CParses c a x → CParses c b y → x ≡ y
c_byte_16_unparsed c a b x y long front parses_a parses_b =
    all_parsed c a x parses_a ∙ ap parsed_C (byte_16_unparsed a b front c long) ∙ sym (all_parsed c b y parses_b)

-- ---- two calls of the deframer with one state, and two ends of a stream
module _ (c held error : ℕ) (a b : List ℕ) (long : length a ≡ length b) where
  abbrev state : Deframer
  state = deframer_of held error

  pub c_end_alike : take 14 a ≡ take 14 b → (x y : CFinished) → CFinishes c held error a x → CFinishes c held error b y → x ≡ y
  c_end_alike front x y ends_a ends_b =
      all_finished c held error a x ends_a ∙ ap finished_C (end_alike c state a b long front) ∙ sym (all_finished c held error b y ends_b)

  pub c_step_alike : (p q : List ℕ) → length p ≡ length q → take 14 (stream held a p) ≡ take 14 (stream held b q)
      → (x y : CDeframed) → CDeframes c held error a p x → CDeframes c held error b q y
      → (x.code ≡ y.code) × (x.held ≡ y.held) × (x.error ≡ y.error) × (x.taken ≡ y.taken) × (x.size ≡ y.size)
  c_step_alike p q pieces streams x y cuts_a cuts_b =
      let same = step_alike c state a b long p q pieces streams in
      let is_x = all_deframed c held error a p x cuts_a in
      let is_y = all_deframed c held error b q y cuts_b in
      rw (is_x, is_y) (
        ap (λ (s : Step). progress_error s.progress) same,
        ap (λ (s : Step). s.next.held) same,
        ap (λ (s : Step). s.next.error) same,
        ap (λ (s : Step). s.taken) same,
        ap (λ (s : Step). progress_size s.progress) same,
      )
