-- For a user: what a reading hands out lies within the frame, on the definition that the contracts of `read_spans` and `read` name;
-- `CalledWithin` has the functions.
--
-- Promised, for every ceiling, every frame, every kind and any row numbers lent: each start and length that the reading hands out lies
-- within the frame, and an empty one is 0, 0: the byte fields of the record, the keys and values of its rows, header, body and attachment.
-- A refused frame hands out none.
-- Not promised: which bytes are there, which `spans_stand` and the round trip say.
-- Ruled out: a reader that gives the end of a byte field for its length, and one that leaves a start beside a length of 0.
-- Assumes nothing.
use Prim.Native.Nat.{ℕ, ◌+◌, ◌-◌, ◌≤◌}
use mathlib.Core.Path.{◌≡◌, refl, sym, ap, subst}
use mathlib.Core.Bool.{Bool, true, false, not, cond, ◌&&◌}
use mathlib.Core.List.{List, []}
use native.Mathlib.Omega.{arith}
use borrow.Author.Tests.{eqb-true, eqb-false, ltb-false}
use lib.Dec.{eqb, ltb, leb}
use lib.ListN.{length, take, drop, get_or, length-take, length-drop}
use lib.Seq.{length-take-le}
use Rattle.laws.proofs.Booleans.{choose}
use Rattle.fixed_header.specs.Header.{ceiling_ok, header_error, total_of, header_size_of, id_of, version_of}
use Rattle.schema.specs.Schema.{width}
use Rattle.decoder.specs.Rows.{row_numbers, rows_in, laid_out}
use Rattle.decoder.specs.Fields.{Result, ok, refused, blank, part_of, read_message}
use Rattle.decoder.proofs.RowLaws.{rows_in_flat, laid_split}
use Rattle.schema.specs.Kinds.{schema_of}
use Rattle.records.specs.Records.{record_of, attachment_size_of}
use Rattle.message.specs.Frames.{Reading, header_of, body_of, kind_fits, refused_untouched, with_attachment, answered, read_frame}
use Rattle.message.specs.Spans.{span_from, bytes_at, spans_of as located}
use Rattle.schema.specs.declared.Kind.{Kind}
use Rattle.schema.specs.declared.Kind.TheVariants as kinds
use Rattle.message.proofs.SpansStand.{spans_stand}
use Rattle.records.specs.Content.{row_count}
use Rattle.records.proofs.Made.{count_is}
use Rattle.thm_round_trip.specs.Refusals.{record_spans}
use Rattle.refusals.specs.Grounds.{Every}
use Rattle.thm_round_trip.specs.Lies.{Lies, RowLies, SpansLie}
use Rattle.thm_round_trip.specs.ReadWithin.{SpanLies, spans_in, counted_in, ReadWithin}
use Rattle.decoder.proofs.ReadingSteps.{Came, message_came}
use Rattle.thm_round_trip.proofs.SpansKept.{none_lies, steps_spans, steps_rows}

-- what lies within the frame names as many bytes as its length says
pub lies_length : (f : List ℕ) (start len : ℕ) → Lies (length f) start len → length (part_of f start len) ≡ len
lies_length f start len h = length-take-le len (drop start f) (omega (arith, length-drop start f, h.within))

-- ---- the parts: bytes of the frame that are at a span lie there
stands_lies : (f l : List ℕ) (start : ℕ) → bytes_at f (span_from start (length l)) ≡ l → SpanLies f (span_from start (length l))
stands_lies f l start = by (eqb (length l) 0) refl
  where
    by : (b : Bool) → eqb (length l) 0 ≡ b → bytes_at f (record { start = cond b 0 start; len = length l }) ≡ l
        → SpanLies f (record { start = cond b 0 start; len = length l })
    by true e s = let z = eqb-true (length l) 0 e in record { within = omega arith; empty = λ n. refl }
    by false e s =
        let some = eqb-false (length l) 0 e in
        let g : start + length l - start ≡ length l = omega arith in
        let same : length (take (length l) (drop start f)) ≡ length l = ap length (rw g at s) in
        record { within = omega (arith, length-take (length l) (drop start f), length-drop start f); empty = λ n. absurd (some n) }

-- ---- the record: a message that was read, by its schema
module _ (f : List ℕ) where
  header_within : (kind : Kind) → 16 ≤ length f → 16 + length (header_of kind f) ≤ length f
  unfolding header_of
  header_within kinds.Request l = omega (arith, length-take (header_size_of f) (drop 16 f), length-drop 16 f)
  header_within kinds.Response l = omega (arith, length-take (header_size_of f) (drop 16 f), length-drop 16 f)
  header_within kinds.Init l = omega (arith, length-drop 16 f)
  header_within kinds.Data l = omega arith
  header_within kinds.Feedback l = omega (arith, length-drop 16 f)
  header_within kinds.Close l = omega (arith, length-drop 16 f)

  fits_slots : (kind : Kind) → 0 + width (schema_of kind) ≤ length blank.slots
  unfolding width
  fits_slots kinds.Request = omega arith
  fits_slots kinds.Response = omega arith
  fits_slots kinds.Init = omega arith
  fits_slots kinds.Data = omega arith
  fits_slots kinds.Feedback = omega arith
  fits_slots kinds.Close = omega arith

  pub blank_lies : (kind : Kind) → SpansLie (length f) (schema_of kind) 0 blank.slots
  unfolding width
  blank_lies kinds.Request = (none_lies f, (none_lies f, (none_lies f, tt)))
  blank_lies kinds.Response = (none_lies f, tt)
  blank_lies kinds.Init = ((none_lies f, (none_lies f, (none_lies f, tt))), ((none_lies f, tt), tt))
  blank_lies kinds.Data = tt
  blank_lies kinds.Feedback = tt
  blank_lies kinds.Close = (none_lies f, tt)

  pub record_lies : (kind : Kind) (id version : ℕ) (slots : List ℕ) (count : ℕ) → SpansLie (length f) (schema_of kind) 0 slots
      → Every (SpanLies f) (record_spans (record_of kind id version slots count))
  unfolding record_of width
  record_lies kinds.Request id version l count h = h
  record_lies kinds.Response id version l count h = h
  record_lies kinds.Init id version l count h = (h.0.0, (h.0.1.0, (h.0.1.1.0, (h.1.0.0, tt))))
  record_lies kinds.Data id version l count h = tt
  record_lies kinds.Feedback id version l count h = tt
  record_lies kinds.Close id version l count h = h

  -- ---- a reading
  record RecordLies (x : Reading) : Type 0 where
    fields : Every (SpanLies f) (spans_in x.answer)
    rows : Every (RowLies (length f)) (rows_in (counted_in x.answer) x.rows)

  none : (code : ℕ) (lent : List ℕ) → RecordLies (refused_untouched code lent)
  unfolding rows_in
  none code lent = record { fields = tt; rows = tt }

  -- a refusal hands out nothing
  pub none_within : (code : ℕ) (lent : List ℕ) → ReadWithin f (located (refused_untouched code lent) (length f)) lent
  none_within code lent =
      let nothing = none code lent in
      record { fields = nothing.fields; rows = nothing.rows; header = none_lies f; body = none_lies f; attachment = none_lies f }

  module _ (kind : Kind) (lent : List ℕ) where
    of_result : (x : Result) → Came f (schema_of kind) 0 blank x → RecordLies (answered kind f lent x)
    unfolding answered with_attachment
    of_result (ok st) steps =
        let count = length st.rows in
        let r = record_of kind (id_of f) (version_of f) st.slots count in
        let read : rows_in count (laid_out st.rows lent) ≡ st.rows = rw (laid_split st.rows lent) (rows_in_flat st.rows _) in
        let same : rows_in (row_count r) (laid_out st.rows lent) ≡ st.rows =
        rw (count_is (id_of f) (version_of f) st.slots count kind) read in
        choose RecordLies (leb (attachment_size_of kind st.slots) (length (body_of kind f))) _ _
        (λ e. record {
          fields =
              record_lies kind (id_of f) (version_of f) st.slots count
              (steps_spans f (schema_of kind) 0 blank st steps (fits_slots kind) (blank_lies kind));
          rows = subst (Every (RowLies (length f))) (sym same) (steps_rows f (schema_of kind) 0 blank st steps tt);
        })
        (λ e. none 15 (laid_out [] lent))
    of_result (refused code) steps = none code (laid_out [] lent)

module _ (c : ℕ) (f : List ℕ) (kind : Kind) (lent : List ℕ) where
  record_within : RecordLies f (read_frame c kind f lent)
  unfolding read_frame
  record_within =
      choose (RecordLies f) (not (ceiling_ok c)) _ _ (λ e. none f 41 lent)
      (λ i. choose (RecordLies f) (ltb (length lent) row_numbers) _ _ (λ e. none f 16 lent)
      (λ r. choose (RecordLies f) (ltb (length f) 16) _ _ (λ e. none f 9 lent)
      (λ s. choose (RecordLies f) (eqb (header_error c (take 16 f)) 0) _ _
      (λ g. choose (RecordLies f) (eqb (length f) (total_of f) && kind_fits kind (get_or f 2 0) (get_or f 3 0)) _ _
      (λ e. of_result f kind lent (read_message f (schema_of kind) 16 (header_of kind f))
      (message_came f (schema_of kind) 16 (header_of kind f) (header_within f kind (ltb-false (length f) 16 s))))
      (λ e. none f 9 lent))
      (λ e. none f (header_error c (take 16 f)) lent))))

  pub read_within : ReadWithin f (located (read_frame c kind f lent) (length f)) (read_frame c kind f lent).rows
  read_within =
      let x = read_frame c kind f lent in
      let stands = spans_stand c f kind lent in
      record {
        fields = record_within.fields;
        rows = record_within.rows;
        header = stands_lies f x.header 16 stands.header_stands;
        body = stands_lies f x.body (length f - length x.body) stands.body_stands;
        attachment = stands_lies f x.attachment (length f - length x.attachment) stands.attachment_stands;
      }
