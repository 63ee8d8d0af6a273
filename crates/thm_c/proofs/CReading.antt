-- For a user in C: what a reader gave of a frame, as a record and as bytes.
--
-- Promised, of any call of a reader, for any ceiling, kind, frame and row numbers: if it gave what its contract ensures, then the number
-- returned and the 25 numbers together say the record that the frame has, or the error code (`says`); the three starts and lengths name
-- header, body and attachment, each with its own length; after a refusal all 25 are 0 (`zero`); and where 0 is returned the last is the
-- frame's version (`version`).
-- Not promised: anything of a frame that the caller changes between the call and looking at its bytes.
-- Ruled out: a record that is said with another kind's fields, a part of the right length at another place, a length that passes the end of
-- the frame, a refusal that leaves numbers of an earlier record, and a version beside which the unused bytes are not 0.
use Prim.Native.Nat.{ℕ, ◌+◌, ◌-◌}
use mathlib.Core.Path.{◌≡◌, refl, ap, ap₂, sym, ◌∙◌}
use mathlib.Core.Bool.{cond, not, ◌&&◌}
use mathlib.Core.List.{List, []}
use native.Mathlib.Omega.{arith}
use borrow.Author.Tests.{eqb-false, eq-eqb, ne_eqb}
use lib.Dec.{eqb, ltb, leb}
use lib.ListN.{length, take, get_or, replicate}
use Rattle.fixed_header.specs.Header.{ceiling_ok, header_error, total_of, version_of}
use Rattle.decoder.specs.Rows.{row_numbers}
use Rattle.decoder.specs.Fields.{Result, ok, refused, read_message}
use Rattle.decoder.proofs.Results.{Sound, message_sound}
use Rattle.schema.specs.Kinds.{schema_of}
use Rattle.records.specs.Records.{attachment_size_of}
use Rattle.message.specs.Frames.{Reading, header_of, body_of, kind_fits, with_attachment, answered, read_frame}
use Rattle.message.specs.Spans.{span_from, bytes_at, spans_of}
use Rattle.records.specs.declared.Span.{Span}
use Rattle.schema.specs.declared.Kind.{Kind}
use Rattle.records.specs.declared.Record.{Record}
use Rattle.message.specs.Frames.{Answer}
use Rattle.std.specs.Prelude.{Ok, Err}
use Rattle.message.specs.Spans.{Spans}
use Rattle.message.proofs.SpansStand.{spans_stand}
use Rattle.bekurapi.specs.Answers.{answer_error}
use Rattle.bekurapi.specs.Numbers.{numbers_of, record_from}
use Rattle.thm_c.proofs.NumbersBack.{reading_back, version_read}
use Rattle.message.specs.Meaning.{Bytes, bytes_from, all_of}
use Rattle.thm_c.specs.Readings.{CRead, CReads, part_at, CReading, CReadOf}
use Rattle.laws.proofs.Booleans.{choose}

-- ---- a refusal has a number that is not 0, and no parts
abbrev BareBy : Answer → Reading → Type 0
BareBy (Ok r) x = Unit {0}
BareBy (Err code) x = (code ≡ 0 → ⊥) × (x.header ≡ []) × (x.body ≡ []) × (x.attachment ≡ [])

abbrev Bare : Reading → Type 0
Bare x = BareBy x.answer x

bare_result : (kind : Kind) (f lent : List ℕ) (x : Result) → Sound x → Bare (answered kind f lent x)
unfolding answered with_attachment
bare_result kind f lent (ok st) s =
    choose Bare (leb (attachment_size_of kind st.slots) (length (body_of kind f))) _ _ (λ e. tt)
    (λ e. (λ z. absurd (omega (arith, z)), refl, refl, refl))
bare_result kind f lent (refused code) s = (λ z. absurd (omega (arith, s, z)), refl, refl, refl)

bare : (c : ℕ) (kind : Kind) (f lent : List ℕ) → Bare (read_frame c kind f lent)
unfolding read_frame
bare c kind f lent =
    choose Bare (not (ceiling_ok c)) _ _ (λ e. (λ z. absurd (omega (arith, z)), refl, refl, refl))
    (λ e. choose Bare (ltb (length lent) row_numbers) _ _ (λ e. (λ z. absurd (omega (arith, z)), refl, refl, refl))
    (λ e. choose Bare (ltb (length f) 16) _ _ (λ e. (λ z. absurd (omega (arith, z)), refl, refl, refl))
    (λ e. choose Bare (eqb (header_error c (take 16 f)) 0) _ _
    (λ e. choose Bare (eqb (length f) (total_of f) && kind_fits kind (get_or f 2 0) (get_or f 3 0)) _ _
    (λ e. bare_result kind f lent (read_message f (schema_of kind) 16 (header_of kind f))
    (message_sound f (schema_of kind) 16 (header_of kind f)))
    (λ e. (λ z. absurd (omega (arith, z)), refl, refl, refl)))
    (λ e. (eqb-false (header_error c (take 16 f)) 0 e, refl, refl, refl)))))

-- ---- a part's span has the part's own length
spans_all : (f l : List ℕ) (s : Span) → s.len ≡ length l → bytes_at f s ≡ l → bytes_from f s.start s.len ≡ all_of l
spans_all f l s size e =
    let n : s.start + s.len - s.start ≡ s.len = omega arith in
    ap₂ (λ (k : ℕ) (x : List ℕ). record { size = k; content = x }) size (rw n at e)

-- ---- the numbers of a refusal
zero_numbers : (l : Spans) (code : ℕ) → l.answer ≡ Err code → l.header ≡ span_from 0 0 → l.body ≡ span_from 0 0
    → l.attachment ≡ span_from 0 0
    → numbers_of l ≡ replicate 25 0
zero_numbers l code e h b a = rw (e, h, b, a) refl

module _ (c : ℕ) (kind : Kind) (frame lent : List ℕ) where
  abbrev given : Reading
  given = read_frame c kind frame lent

  abbrev spans : Spans
  spans = spans_of given (length frame)

  module _ (x : CRead) (reads : CReads c kind frame lent x) where
    abbrev Answered : Answer → Type 0
    Answered a = cond (eqb x.code 0) (Ok (record_from kind x.numbers)) (Err x.code) ≡ a

    answer_is : (a : Answer) → given.answer ≡ a → BareBy a given → Answered a
    answer_is (Ok r) e b =
        let done : x.code ≡ 0 = reads.code_is ∙ ap answer_error e in
        let said = ap (record_from kind) reads.numbers_are ∙ reading_back c kind frame lent (length frame) r e in
        rw (eq-eqb x.code 0 done) (ap Ok said)
    answer_is (Err code) e b =
        let is : x.code ≡ code = reads.code_is ∙ ap answer_error e in
        rw (is, ne_eqb code 0 b.0) refl

    zeros : (a : Answer) → given.answer ≡ a → BareBy a given → (x.code ≡ 0 → ⊥) → x.numbers ≡ replicate 25 0
    zeros (Ok r) e b z = absurd (z (reads.code_is ∙ ap answer_error e))
    zeros (Err code) e b z =
        reads.numbers_are
        ∙ zero_numbers spans code e (rw b.1 refl) (rw b.2 refl) (rw b.3 refl)

    version_in : (a : Answer) → given.answer ≡ a → BareBy a given → x.code ≡ 0 → get_or x.numbers 24 0 ≡ version_of frame
    version_in (Ok r) e b z =
        ap (λ (ns : List ℕ). get_or ns 24 0) reads.numbers_are ∙ version_read c kind frame lent (length frame) r e
    version_in (Err code) e b z = absurd (b.0 (sym (reads.code_is ∙ ap answer_error e) ∙ z))

    read_in : (a : Answer) → given.answer ≡ a → BareBy a given → x.code ≡ 0 → (r : Record) × (given.answer ≡ Ok r)
    read_in (Ok r) e b z = (r, e)
    read_in (Err code) e b z = absurd (b.0 (sym (reads.code_is ∙ ap answer_error e) ∙ z))

    -- where 0 is returned the frame was read
    pub zero_read : x.code ≡ 0 → (r : Record) × (given.answer ≡ Ok r)
    zero_read = read_in given.answer refl (bare c kind frame lent)

    part : (place : ℕ) (l : List ℕ) (s : Span) → part_at frame (numbers_of spans) place ≡ bytes_from frame s.start s.len
        → s.len ≡ length l → bytes_at frame s ≡ l
        → part_at frame x.numbers place ≡ all_of l
    part place l s at size stands = ap (λ (ns : List ℕ). part_at frame ns place) reads.numbers_are ∙ at ∙ spans_all frame l s size stands

    pub header_part : part_at frame x.numbers 2 ≡ all_of given.header
    header_part = part 2 given.header spans.header refl refl (spans_stand c frame kind lent).header_stands

    pub body_part : part_at frame x.numbers 4 ≡ all_of given.body
    body_part = part 4 given.body spans.body refl refl (spans_stand c frame kind lent).body_stands

    pub attachment_part : part_at frame x.numbers 6 ≡ all_of given.attachment
    attachment_part = part 6 given.attachment spans.attachment refl refl (spans_stand c frame kind lent).attachment_stands

    pub read_of : CReadOf c kind frame lent x
    read_of =
        record {
          numbers = reads;
          says = whole (answer_is given.answer refl (bare c kind frame lent)) header_part body_part attachment_part reads.rows_are;
          zero = zeros given.answer refl (bare c kind frame lent);
          version = version_in given.answer refl (bare c kind frame lent);
        }
      where
        whole : {a b : Answer} {h i m n t u : Bytes} {r s : List ℕ} → a ≡ b → h ≡ i → m ≡ n → t ≡ u → r ≡ s
            → ◌≡◌ {A = CReading} (record { answer = a; header = h; body = m; attachment = t; rows = r })
            (record { answer = b; header = i; body = n; attachment = u; rows = s })
        whole e f g h i = rw (e, f, g, h, i) refl
