-- For a user in C: demand 2.
--
-- Promised, of any call of a writer that returned 0, whatever its ceiling, with numbers of 32 bits, and of a call of the reader of the same
-- kind under the same ceiling on the frame that it wrote, with at least 256 row numbers: if each gave what its contract ensures, the reader
-- returned 0, and its numbers say the same record with the same bytes: kind, id, version, each number, each present mark, the length and
-- the bytes of each byte field, the rows in their order, the header message, the body and the attachment (`c_read_back`). So they do where
-- the reader has a larger ceiling, up to 65,536 (`c_read_back_larger`). That the writer's is in range follows from its 0. Of the writer's
-- call only, with any numbers: the message and the 16 bytes are at most the ceiling, so the message has 65,520 bytes at most, and bytes
-- 9-10 hold its size, or 0 in a stream frame (`c_message_fits`); byte 15 is the low byte of the last number, and byte 16 is 0
-- (`c_version_written`).
-- Not promised: that the starts are the same numbers (in the frame they count from its first byte), that the frame is read under a smaller
-- ceiling, nor anything of an output that the caller changes between the calls.
-- Ruled out: a writer that returns 0 and writes nothing, an int32 that comes back unsigned, a length that passes the end of the frame, and
-- a reader that refuses a frame of just the ceiling, which is written.
use Prim.Native.Nat.{ℕ, zero, suc, ◌%◌, ◌<◌, ◌≤◌, ◌^◌}
use mathlib.Core.Path.{◌≡◌, refl, ap, sym, subst, ◌∙◌}
use mathlib.Core.List.{List, [], ◌∷◌}
use native.Mathlib.Omega.{arith}
use borrow.Author.Tests.{eqb-false}
use lib.Dec.{eqb}
use lib.ListN.{length, take, drop, get_or}
use Rattle.fixed_header.specs.Header.{max_frame}
use Rattle.schema.specs.Schema.{slot_count}
use Rattle.records.specs.Records.{record_of, attachment_size_of}
use Rattle.message.specs.Frames.{read_frame, last_bytes}
use Rattle.schema.specs.declared.Kind.{Kind}
use Rattle.schema.specs.declared.Kind.TheVariants as kinds
use Rattle.records.specs.declared.Record.{Record}
use Rattle.message.specs.Frames.{Answer}
use Rattle.std.specs.Prelude.{Ok, Err}
use Rattle.records.specs.Content.{kind_of, record_id, record_version, slots_of}
use Rattle.records.proofs.Made.{kind_is, id_is, version_is}
use Rattle.writer.specs.Writing.{Writing, refused_with, wrote, message_of, frame_of, write_error, written}
use Rattle.writer.specs.Writing.{error_of, count_of}
use Rattle.std.specs.Prelude.{Result, Ok, Err}
use Rattle.bekurapi.specs.Answers.{answer_error}
use Rattle.bekurapi.specs.Kinds.{written_from}
use Rattle.bekurapi.specs.Numbers.{fields_from, record_from}
use Rattle.wire_read.proofs.SignedLaws.{low_small}
use Rattle.thm_c.proofs.NumbersBack.{reading_back}
use Rattle.message.specs.Meaning.{all_of, Meaning, says, refused, meaning, answer_meaning, fields_of}
use Rattle.thm_round_trip.specs.InRange.{InRange}
use Rattle.thm_round_trip.specs.MessageFits.{MessageFits}
use Rattle.thm_round_trip.specs.ReadsBack.{ReadsBack}
use Rattle.thm_round_trip.proofs.RoundTrip.{round_trip, round_trip_larger}
use Rattle.thm_round_trip.proofs.WithoutTwenty.{message_fits}
use Rattle.thm_round_trip.specs.LastTwo.{LastTwo}
use Rattle.thm_round_trip.proofs.LastTwoWritten.{last_two_written}
use Rattle.thm_c.specs.Readings.{CRead, CReads}
use Rattle.thm_c.specs.RoundTrip.{CWritten, CWrites, Words, CReadsBack}
use Rattle.laws.proofs.Booleans.{choose}
use Rattle.thm_c.proofs.CReading.{header_part, body_part, attachment_part}

-- ---- the record of a kind from its numbers
module _ (id version : ℕ) (l : List ℕ) (rows : ℕ) where
  attachment_size_is : (k : Kind)
      → attachment_size_of (kind_of (record_of k id version l rows)) (slots_of (record_of k id version l rows)) ≡ attachment_size_of k l
  unfolding record_of kind_of slots_of attachment_size_of
  attachment_size_is kinds.Request = refl
  attachment_size_is kinds.Response = refl
  attachment_size_is kinds.Init = refl
  attachment_size_is kinds.Data = refl
  attachment_size_is kinds.Feedback = refl
  attachment_size_is kinds.Close = refl

-- ---- numbers of 32 bits
word_at : (l : List ℕ) → Words l → (i : ℕ) → get_or l i 0 < 2 ^ 32
word_at [] w i = omega arith
word_at (n ∷ l) w zero = w.0
word_at (n ∷ l) w (suc i) = word_at l w.1 i

words_drop : (n : ℕ) (l : List ℕ) → Words l → Words (drop n l)
words_drop zero l w = w
words_drop (suc n) [] w = tt
words_drop (suc n) (x ∷ l) w = words_drop n l w.1

words_take : (n : ℕ) (l : List ℕ) → Words l → Words (take n l)
words_take zero l w = tt
words_take (suc n) [] w = tt
words_take (suc n) (x ∷ l) w = (w.0, words_take n l w.1)

slots_in_range : (source : List ℕ) (k : Kind) (id version : ℕ) (l : List ℕ) (rows : ℕ) → ((i : ℕ) → get_or l i 0 < 2 ^ 32)
    → InRange (fields_of source (record_of k id version l rows))
unfolding record_of fields_of
slots_in_range source kinds.Request id version l rows w = (w 0, (w 1, (w 2, (w 3, (w 10, (w 11, (w 12, (w 13, tt))))))))
slots_in_range source kinds.Response id version l rows w =
    (w 0, (w 1, (w 2, (low_small (get_or l 3 0), (low_small (get_or l 4 0), (w 7, (w 8, (w 9, (w 10, tt)))))))))
slots_in_range source kinds.Init id version l rows w = (w 7, (low_small (get_or l 9 0), (w 12, (w 13, (w 14, tt)))))
slots_in_range source kinds.Data id version l rows w = tt
slots_in_range source kinds.Feedback id version l rows w = (w 0, tt)
slots_in_range source kinds.Close id version l rows w =
    (low_small (get_or l 0 0), (low_small (get_or l 1 0), (w 4, (low_small (get_or l 5 0), tt))))

-- ---- what 0 says of a call of the writer
abbrev Coded : Result ℕ ℕ → Type 0
Coded (Ok size) = Unit {0}
Coded (Err code) = code ≡ 0 → ⊥

abbrev CodedIn : Writing → Type 0
CodedIn w = Coded w.answer

framed : (a : Result ℕ ℕ) → Coded a → error_of a ≡ 0 → a ≡ Ok (count_of a)
unfolding error_of count_of
framed (Ok size) c e = refl
framed (Err code) c e = absurd (c e)

coded_by : (c : ℕ) (r : Record) (source numbers body output : List ℕ) → Coded (written c r source numbers body output).answer
coded_by c r source numbers body output =
    let error = write_error c r source numbers body (length output) in
    choose CodedIn (eqb error 0) (wrote (frame_of r source numbers body) output) (refused_with error output) (λ e. tt)
    (λ n. eqb-false error 0 n)

module _ (c : ℕ) (kind : Kind) (numbers source rows body out : List ℕ) (w : CWritten)
    (writes : CWrites c kind numbers source rows body out w) (done : w.code ≡ 0) where
  abbrev lent_record : Record
  lent_record = record_from kind numbers

  abbrev given : Result ℕ ℕ
  given = (written c lent_record source rows body out).answer

  answer_is : given ≡ Ok w.size
  answer_is =
      framed given (coded_by c lent_record source rows body out) (sym writes.code_is ∙ done) ∙ ap (λ (n : ℕ). Ok n) (sym writes.size_is)

  pub c_message_fits : MessageFits c kind (message_of lent_record source rows) (take w.size w.out)
  c_message_fits =
      subst (λ (k : Kind). MessageFits c k (message_of lent_record source rows) (take w.size w.out))
      (kind_is (get_or numbers 0 0) (get_or numbers 24 0 % 256) (fields_from numbers) (get_or numbers 1 0) kind)
      (message_fits c lent_record source rows body out (record { answer = given; output = w.out }) (refl, writes.output_is) w.size
      answer_is)

  pub c_version_written : LastTwo (get_or numbers 24 0 % 256) (take w.size w.out)
  c_version_written =
      subst (λ (v : ℕ). LastTwo v (take w.size w.out))
      (ap (λ (v : ℕ). v % 256) (version_is (get_or numbers 0 0) (get_or numbers 24 0 % 256) (fields_from numbers) (get_or numbers 1 0) kind)
      ∙ again (get_or numbers 24 0))
      (last_two_written c lent_record source rows body out (record { answer = given; output = w.out }) (refl, writes.output_is) w.size
      answer_is)
    where
      again : (n : ℕ) → n % 256 % 256 ≡ n % 256
      again n = omega arith

-- ---- an answer that says something is a record
abbrev SaysRecord : Meaning → Type 0
SaysRecord (says k id version fields rows) = Unit {0}
SaysRecord (refused code) = ⊥

is_read : (a : Answer) (source numbers : List ℕ) → SaysRecord (answer_meaning a source numbers) → (r : Record) × (a ≡ Ok r)
unfolding answer_meaning
is_read (Ok r) source numbers s = (r, refl)
is_read (Err code) source numbers s = absurd s

read_means : (r : Record) (source numbers : List ℕ) → meaning r source numbers ≡ answer_meaning (Ok r) source numbers
unfolding answer_meaning
read_means r source numbers = refl

-- ---- the record of numbers of 32 bits, and its fields
module _ (kind : Kind) (numbers source : List ℕ) where
  abbrev r : Record
  r = record_from kind numbers

  abbrev fields : List ℕ
  fields = fields_from numbers

  abbrev id : ℕ
  id = get_or numbers 0 0

  abbrev version : ℕ
  version = get_or numbers 24 0 % 256

  abbrev count : ℕ
  count = get_or numbers 1 0

  version_small : record_version r < 2 ^ 8
  version_small = subst (λ (n : ℕ). n < 2 ^ 8) (sym (version_is id version fields count kind)) (omega arith)

  module _ (words : Words numbers) where
    id_small : record_id r < 2 ^ 32
    id_small = subst (λ (n : ℕ). n < 2 ^ 32) (sym (id_is id version fields count kind)) (word_at numbers words 0)

    fields_small : InRange (fields_of source r)
    fields_small = slots_in_range source kind id version fields count
        (word_at fields (words_take slot_count (drop 8 numbers) (words_drop 8 numbers words)))

  -- ---- a frame that reads back under the ceiling c, read in C
  module _ (c : ℕ) (rows body frame lent : List ℕ) (back : ReadsBack c r source rows body frame lent) where
    -- the reading as the record's own kind is that as the kind named
    as_kind : {A : Type 0} (P : Kind → A) → P kind ≡ P (kind_of r)
    as_kind P = ap P (sym (kind_is id version fields count kind))

    abbrev said_as : Kind → Meaning
    said_as k = answer_meaning (read_frame c k frame lent).answer frame (read_frame c k frame lent).rows

    again : (z : Record) × ((read_frame c kind frame lent).answer ≡ Ok z)
    again =
        is_read (read_frame c kind frame lent).answer frame (read_frame c kind frame lent).rows
        (subst SaysRecord (sym (as_kind said_as ∙ back.same_record)) tt)

    read_again : (x : CRead) → CReads c kind frame lent x → CReadsBack kind numbers source rows body frame x
    read_again x reads =
        record {
          code_zero = reads.code_is ∙ ap answer_error again.1;
          same_record =
              ap (λ (l : List ℕ). meaning (record_from kind l) frame x.rows) reads.numbers_are
              ∙ ap (λ (z : Record). meaning z frame x.rows) (reading_back c kind frame lent (length frame) again.0 again.1)
              ∙ read_means again.0 frame x.rows
              ∙ ap (λ (a : Answer). answer_meaning a frame x.rows) (sym again.1)
              ∙ ap (λ (l : List ℕ). answer_meaning (read_frame c kind frame lent).answer frame l) reads.rows_are
              ∙ as_kind said_as
              ∙ back.same_record;
          header_is = header_part c kind frame lent x reads ∙ ap all_of (as_kind (λ k. (read_frame c k frame lent).header) ∙ back.header_is);
          body_is = body_part c kind frame lent x reads ∙ ap all_of (as_kind (λ k. (read_frame c k frame lent).body) ∙ back.body_is);
          attachment_is =
              attachment_part c kind frame lent x reads
              ∙ ap all_of (as_kind (λ k. (read_frame c k frame lent).attachment) ∙ back.attachment_is ∙ ap (λ (n : ℕ). last_bytes n body)
              (attachment_size_is id version fields count kind));
        }

-- ---- what was written, read
-- the frame is in the output as the writer's contract says; d is a ceiling under which it reads back
written_back : (c d : ℕ) (kind : Kind) (numbers source rows body out lent : List ℕ) (w : CWritten)
    → CWrites c kind numbers source rows body out w
    → ReadsBack d (record_from kind numbers) source rows body (take w.size (written_from c kind numbers source rows body out).output) lent
    → (x : CRead) → CReads d kind (take w.size w.out) lent x → CReadsBack kind numbers source rows body (take w.size w.out) x
written_back c d kind numbers source rows body out lent w writes back =
    read_again kind numbers source d rows body (take w.size w.out) lent
    (subst (λ (o : List ℕ). ReadsBack d (record_from kind numbers) source rows body (take w.size o) lent) (sym writes.output_is) back)

pub c_read_back : (c : ℕ) (kind : Kind) (numbers source rows body out lent : List ℕ) (w : CWritten) (x : CRead)
    → Words numbers → 256 ≤ length lent → CWrites c kind numbers source rows body out w → w.code ≡ 0
    → CReads c kind (take w.size w.out) lent x
    → CReadsBack kind numbers source rows body (take w.size w.out) x
c_read_back c kind numbers source rows body out lent w x words long writes done =
    written_back c c kind numbers source rows body out lent w writes
    (round_trip c (record_from kind numbers) source rows body out lent w.size (id_small kind numbers source words)
    (version_small kind numbers source) (fields_small kind numbers source words) long
    (answer_is c kind numbers source rows body out w writes done))
    x

-- under a larger ceiling, too
pub c_read_back_larger : (c d : ℕ) → c ≤ d → d ≤ max_frame
    → (kind : Kind) (numbers source rows body out lent : List ℕ) (w : CWritten) (x : CRead)
    → Words numbers → 256 ≤ length lent → CWrites c kind numbers source rows body out w → w.code ≡ 0
    → CReads d kind (take w.size w.out) lent x
    → CReadsBack kind numbers source rows body (take w.size w.out) x
c_read_back_larger c d more most kind numbers source rows body out lent w x words long writes done =
    written_back c d kind numbers source rows body out lent w writes
    (round_trip_larger c d more most (record_from kind numbers) source rows body out lent w.size (id_small kind numbers source words)
    (version_small kind numbers source) (fields_small kind numbers source words) long
    (answer_is c kind numbers source rows body out w writes done))
    x
