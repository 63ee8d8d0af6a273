-- The frame of a record that is accepted under a ceiling, read as its kind under that ceiling: the header is good, the message is read
-- back, and the parts are the message and the body. The frame is no longer than the ceiling, so it is read as under 65,536 (`read_under` of
-- `message`).
use Prim.Native.Nat.{ℕ, ◌+◌, ◌^◌, ◌<◌, ◌≤◌}
use mathlib.Core.Path.{◌≡◌, refl, sym, ap, ap₂, ◌∙◌}
use mathlib.Core.List.{List}
use native.Mathlib.Omega.{arith}
use lib.ListN.{length}
use Rattle.fixed_header.specs.Header.{max_frame, total_of}
use Rattle.decoder.specs.Fields.{State, ok, read_message}
use Rattle.decoder.specs.Rows.{rows_in, laid_out}
use Rattle.schema.specs.Kinds.{schema_of}
use Rattle.records.specs.Records.{record_of, attachment_size_of}
use Rattle.message.specs.Frames.{Reading, header_of, body_of, last_bytes, with_attachment, answered, read_frame}
use Rattle.message.specs.Parts.{Whole}
use Rattle.schema.specs.declared.Kind.{Kind}
use Rattle.records.specs.declared.Record.{Record}
use Rattle.std.specs.Prelude.{Ok}
use Rattle.decoder.proofs.RowLaws.{rows_in_flat, laid_split, length_rows_in}
use Rattle.message.proofs.Readings.{its_message}
use Rattle.message.proofs.Under.{read_under}
use Rattle.records.specs.Content.{kind_of, record_id, record_version, row_count, slots_of}
use Rattle.fixed_header.specs.Put.{fixed_header}
use Rattle.writer.specs.Writing.{frame_type_of, header_size_of, header_for, rows_of, message_of, frame_of}
use Rattle.message.specs.Meaning.{Said, fields_of, Pair, pairs_of, says}
use Rattle.thm_round_trip.specs.InRange.{InRange}
use Rattle.thm_round_trip.specs.ReadsBack.{ReadsBack}
use Rattle.thm_round_trip.proofs.Said.{MessageBack}
use Rattle.thm_round_trip.proofs.Formed.{well_formed}
use Rattle.thm_round_trip.proofs.MessageRead.{message_back}
use Rattle.thm_round_trip.proofs.FrameBack.{frame_length, behind_header, frame_whole, total_said, parts_back}
use Rattle.thm_round_trip.proofs.RecordBack.{record_said, read_says, attachment_back}
use Rattle.thm_round_trip.proofs.Accepted.{WriteAccepted, rows_kept, attachment_fits}

-- the reading of a state whose attachment fits the body
abbrev given : Kind → (frame lent : List ℕ) (id version : ℕ) (message body : List ℕ) (attachment : ℕ) → State → Reading
given kind frame lent id version message body attachment st =
    record {
      answer = Ok (record_of kind id version st.slots (length st.rows));
      header = message;
      body = body;
      attachment = last_bytes attachment body;
      rows = laid_out st.rows lent;
    }

module _ (c : ℕ) (r : Record) (source numbers body : List ℕ) (is : WriteAccepted c r source numbers body) where
  abbrev kind : Kind
  kind = kind_of r

  abbrev frame : List ℕ
  frame = frame_of r source numbers body

  abbrev message : List ℕ
  message = message_of r source numbers

  frame_size : length frame ≡ 16 + length message + length body
  unfolding frame_of
  frame_size = frame_length kind (record_id r) (record_version r) message body

  frame_small : length frame ≤ max_frame
  frame_small = omega (arith, is.small, is.ceiling)

  total_is : total_of frame ≡ length frame
  unfolding frame_of
  total_is =
      total_said kind (record_id r) (record_version r) message body (omega (arith, frame_size, frame_small)) ∙ sym frame_size

  -- it is read as under 65,536, since the total that it says is its length
  pub as_largest : (kind : Kind) (lent : List ℕ) → read_frame c kind frame lent ≡ read_frame max_frame kind frame lent
  as_largest kind lent = read_under c is.ceiling kind frame lent (omega (arith, total_is, is.small))

  module _ (id_small : record_id r < 2 ^ 32) (version_small : record_version r < 2 ^ 8) where
    whole : Whole kind frame (header_size_of (frame_type_of kind) (length message)) (record_id r) (record_version r)
    unfolding frame_of
    whole = frame_whole kind (record_id r) (record_version r) message body (omega (arith, frame_size, frame_small)) id_small version_small

    parts : (header_of kind frame ≡ message) × (body_of kind frame ≡ body)
    unfolding frame_of
    parts =
        parts_back source (rows_of r numbers) (slots_of r) body frame kind
        (behind_header kind (record_id r) (record_version r) message body) (sym whole.size_is) is.content.body_ok

    module _ (lent : List ℕ) (in_range : InRange (fields_of source r)) (long : 256 ≤ length lent) where
      -- the message is read back
      back : (st : State) × (read_message frame (schema_of kind) 16 message ≡ ok st)
          × MessageBack frame source (rows_of r numbers) (schema_of kind) (slots_of r) st
      unfolding frame_of fixed_header
      back =
          let header = fixed_header (header_for kind (record_id r) (record_version r) message body) in
          message_back frame source header body (rows_of r numbers) (schema_of kind) (slots_of r) refl (well_formed kind)
          (rw (record_said source r in_range) in_range)
          (rw (length_rows_in (row_count r) numbers) is.content.few)
          is.content.spans_within_lem is.content.rows_within_lem is.content.keys_differ_lem is.content.absent_ok_lem
          (omega (arith, frame_size, frame_small))

      st : State
      st = back.0

      said : MessageBack frame source (rows_of r numbers) (schema_of kind) (slots_of r) st
      unfolding st
      said = back.2

      abbrev attachment : ℕ
      attachment = attachment_size_of kind (slots_of r)

      attachment_is : attachment_size_of kind st.slots ≡ attachment
      attachment_is = attachment_back kind frame st.slots source (slots_of r) said.fields_are

      finished_is : with_attachment kind frame lent st ≡ given kind frame lent (record_id r) (record_version r) message body attachment st
      unfolding with_attachment
      finished_is =
          let fits = attachment_fits kind (slots_of r) (length body) is.content.body_ok in
          rw (attachment_is, parts.0, parts.1, fits, ← whole.id_is, ← whole.version_is)

      reading_is : read_frame c kind frame lent ≡ given kind frame lent (record_id r) (record_version r) message body attachment st
      unfolding st answered
      reading_is =
          as_largest kind lent
          ∙ its_message max_frame kind frame lent long whole.good whole.total_is whole.fits
          ∙ rw (parts.0, back.1) finished_is

      rows_are : pairs_of frame (rows_in (length st.rows) (laid_out st.rows lent)) ≡ pairs_of source (rows_of r numbers)
      rows_are =
          rw (laid_split st.rows lent, rows_in_flat st.rows _)
          (said.rows_are ∙ ap (pairs_of source) (rows_kept kind (row_count r) numbers is.content.allowed))

      pub reads_back : ReadsBack c r source numbers body frame lent
      reads_back =
          record {
            same_record =
                rw reading_is
                (read_says kind frame (record_id r) (record_version r) st.slots (length st.rows) (laid_out st.rows lent)
                ∙ ap₂ (λ (x : List Said) (y : List Pair). says kind (record_id r) (record_version r) x y)
                (said.fields_are ∙ record_said source r in_range) rows_are);
            header_is = ap (λ (x : Reading). x.header) reading_is;
            body_is = ap (λ (x : Reading). x.body) reading_is;
            attachment_is = ap (λ (x : Reading). x.attachment) reading_is;
          }
