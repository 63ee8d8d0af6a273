-- From what the decoder answers of a whole frame to what the reading says
use Prim.Native.Nat.{ℕ, ◌-◌, ◌≤◌, ◌<◌}
use mathlib.Core.Path.{◌≡◌, refl, sym, ap, subst, ◌∙◌}
use mathlib.Core.List.{List, [], ◌++◌}
use native.Mathlib.Omega.{arith}
use borrow.Author.Tests.{le-leb, lt-leb}
use lib.ListN.{length, drop, replicate, length-drop}
use lib.Seq.{length-take-le}
use Rattle.fixed_header.specs.Header.{max_frame, header_size_of, id_of, version_of}
use Rattle.wire_read.specs.Part.{part}
use Rattle.schema.specs.Schema.{schema_at}
use Rattle.decoder.specs.Rows.{Row, row_numbers, laid_out, rows_cleared}
use Rattle.decoder.specs.Fields.{State, Result, ok, refused, read_message}
use Rattle.decoder.specs.Decoding.{decoded}
use Rattle.decoder.specs.declared.Slots.{Slots}
use Rattle.refusals.specs.Refusals.{number}
use Rattle.refusals.specs.declared.Refusal.{Refusal}
use Rattle.std.specs.Prelude as std
use Rattle.decoder.proofs.RowLaws.{drop_laid, length_laid}
use Rattle.decoder.proofs.Answers.{Gives, Read, Decodes, decodes, all_cleared}
use Rattle.schema.specs.Kinds.{schema_of, schema_number}
use Rattle.schema.proofs.KindLaws.{numbered}
use Rattle.records.specs.Records.{record_of, attachment_size_of}
use Rattle.message.specs.Frames.{header_of, body_of, last_bytes, refused_untouched, with_attachment, answered, read_frame}
use Rattle.message.specs.Spans.{span_from}
use Rattle.message.specs.Parts.{ReadParts, body_at, Whole}
use Rattle.schema.specs.declared.Kind.{Kind}
use Rattle.records.specs.declared.Record.{Record}
use Rattle.message.proofs.Readings.{its_message}
use Rattle.message.proofs.PartPlaces.{frame_size, within, length_last, header_part, body_rest}

-- ---- what the decoder's answer says of the reading x of a message
abbrev values_of : Slots → List ℕ
values_of s = s.values

abbrev rows_of : Slots → ℕ
rows_of s = s.rows

failed : (x : Result) (d : std.Result Slots Refusal) (numbers lent : List ℕ) → Decodes x d numbers lent → (refusal : Refusal)
    → d ≡ std.Err refusal → (x ≡ refused (number refusal)) × (numbers ≡ laid_out [] lent)
failed x d numbers lent r refusal e = by x (subst (λ (y : std.Result Slots Refusal). Decodes x y numbers lent) e r)
  where
    by : (x : Result) → Decodes x (std.Err refusal) numbers lent → (x ≡ refused (number refusal)) × (numbers ≡ laid_out [] lent)
    by (ok st) r = absurd r
    by (refused code) r = (ap refused (sym r.number_is), r.laid)

succeeded : (x : Result) (d : std.Result Slots Refusal) (numbers lent : List ℕ) → Decodes x d numbers lent → (slots : Slots)
    → d ≡ std.Ok slots → (st : State) × (x ≡ ok st) × Read st slots numbers lent
succeeded x d numbers lent r slots e = by x (subst (λ (y : std.Result Slots Refusal). Decodes x y numbers lent) e r)
  where
    by : (x : Result) → Decodes x (std.Ok slots) numbers lent → (st : State) × (x ≡ ok st) × Read st slots numbers lent
    by (ok st) r = (st, refl, r)
    by (refused code) r = absurd r

-- rows that are cleared again
cleared_again : (rows : List Row) (lent : List ℕ) → length rows ≤ 64 → row_numbers ≤ length lent → rows_cleared (laid_out rows lent)
    ≡ laid_out [] lent
cleared_again rows lent few long =
    all_cleared (laid_out rows lent) (rw (length_laid rows lent few long) long)
    ∙ ap (λ (x : List ℕ). replicate row_numbers 0 ++ x) (drop_laid rows lent few)

-- a message that was read, with a body that holds its attachment, and with one that does not
module _ (kind : Kind) (f lent : List ℕ) (st : State) where
  attached : attachment_size_of kind st.slots ≤ length (body_of kind f)
      → answered kind f lent (ok st) ≡ record {
        answer = std.Ok (record_of kind (id_of f) (version_of f) st.slots (length st.rows));
        header = header_of kind f;
        body = body_of kind f;
        attachment = last_bytes (attachment_size_of kind st.slots) (body_of kind f);
        rows = laid_out st.rows lent;
      }
  unfolding answered with_attachment
  attached h = rw (le-leb (attachment_size_of kind st.slots) (length (body_of kind f)) h)

  too_large : length (body_of kind f) < attachment_size_of kind st.slots → answered kind f lent (ok st)
      ≡ refused_untouched 15 (laid_out [] lent)
  unfolding answered with_attachment
  too_large h = rw (lt-leb (attachment_size_of kind st.slots) (length (body_of kind f)) h)

same_record : (kind : Kind) {id id' version version' rows rows' : ℕ} {slots slots' : List ℕ} → id ≡ id' → version ≡ version'
    → slots ≡ slots' → rows ≡ rows' → record_of kind id version slots rows ≡ record_of kind id' version' slots' rows'
same_record kind e v g h = cc

-- the span of a part that ends with the frame
end_span : {size start n : ℕ} → start ≤ size → n ≡ size - start → span_from start (size - start) ≡ span_from (size - n) n
end_span {size} {start} {n} h e =
    let g : start ≡ size - n = omega arith in
    rw (← e, ← g) refl

-- ---- the reading of a whole frame: the code's body place, schema number, and what the decoder answered
module _ (kind : Kind) (f lent : List ℕ) (size id version body n : ℕ) (d : std.Result Slots Refusal) (numbers : List ℕ)
    (rows : row_numbers ≤ length lent) (whole : Whole kind f size id version) (body_is : body ≡ body_at kind size (length f))
    (schema-is : n ≡ schema_number kind)
    (gave : Gives (decoded f 16 body n lent) d numbers) where
  place : body ≡ body_at kind (header_size_of f) (length f)
  place = body_is ∙ ap (λ (m : ℕ). body_at kind m (length f)) whole.size_is

  head : part f 16 body ≡ header_of kind f
  head = rw place (header_part kind f)

  rest : body_of kind f ≡ drop body f
  rest = rw place (body_rest kind f)

  body_length : length (body_of kind f) ≡ length f - body
  body_length = ap length rest ∙ length-drop body f

  bounds : (16 ≤ body) × (body ≤ length f)
  bounds = within kind f size id version whole body body_is

  header_length : length (header_of kind f) ≡ body - 16
  header_length = sym (ap length head) ∙ length-take-le (body - 16) (drop 16 f) (omega (arith, length-drop 16 f, bounds))

  result : Result
  result = read_message f (schema_of kind) 16 (header_of kind f)

  its : Decodes result d numbers lent
  unfolding result
  its = rw (← (ap schema_at schema-is ∙ numbered kind), ← head)
      (decodes f 16 body n lent d numbers rows (frame_size kind f size id version whole).1 gave)

  answer : read_frame max_frame kind f lent ≡ answered kind f lent result
  unfolding result
  answer = its_message max_frame kind f lent rows whole.good whole.total_is whole.fits

  pub fields_refused : (refusal : Refusal) → d ≡ std.Err refusal → read_frame max_frame kind f lent ≡ refused_untouched (number refusal) numbers
  unfolding answered
  fields_refused r n =
      let (e, zeros) = failed result d numbers lent its r n in
      answer ∙ ap (answered kind f lent) e ∙ ap (refused_untouched (number r)) (sym zeros)

  module _ (slots : Slots) (is_read : d ≡ std.Ok slots) where
    pub few_decoded : slots.rows ≤ 64
    few_decoded = let (st, x, r) = succeeded result d numbers lent its slots is_read in omega (arith, ap rows_of r.slots_are, r.few)

    pub attachment_refused : {a : ℕ} {last : List ℕ} → a ≡ attachment_size_of kind slots.values → length f - body < a
        → last ≡ rows_cleared numbers → read_frame max_frame kind f lent ≡ refused_untouched 15 last
    attachment_refused {a} is-a large last =
        let (st, x, r) = succeeded result d numbers lent its slots is_read in
        let a_is : a ≡ attachment_size_of kind st.slots = is-a ∙ ap (attachment_size_of kind) (ap values_of r.slots_are) in
        let same = last ∙ ap rows_cleared r.laid ∙ cleared_again st.rows lent r.few rows in
        answer ∙ ap (answered kind f lent) x ∙ too_large kind f lent st (omega (arith, body_length, a_is))
        ∙ ap (refused_untouched 15) (sym same)

    pub message_read : {r : Record} {a : ℕ} → a ≡ attachment_size_of kind slots.values → a ≤ length f - body
        → r ≡ record_of kind id version slots.values slots.rows
        → ReadParts (read_frame max_frame kind f lent) (length f) (record { content = r; body = body; attachment = length f - a }) numbers
    message_read {a} is-a fits is_r =
        let (st, x, k) = succeeded result d numbers lent its slots is_read in
        let a_is : a ≡ attachment_size_of kind st.slots = is-a ∙ ap (attachment_size_of kind) (ap values_of k.slots_are) in
        let all = answer ∙ ap (answered kind f lent) x ∙ attached kind f lent st (omega (arith, body_length, a_is)) in
        rw all (record {
          answer_is =
              ap std.Ok
              (sym (is_r ∙ same_record kind whole.id_is whole.version_is (ap values_of k.slots_are) (ap rows_of k.slots_are)));
          rows_are = k.laid;
          small = omega (arith, bounds, frame_size kind f size id version whole);
          header_at = ap (span_from 16) (sym header_length);
          body_at_is = end_span bounds.1 body_length;
          attachment_at =
              end_span
              (omega arith)
              (length_last (attachment_size_of kind st.slots) (body_of kind f) (omega (arith, body_length, a_is))
              ∙ omega (arith, a_is, bounds));
        })
