-- What is written of the record that slots make is what the slots say as they are: a slot past the kind's fields is not looked at, an int32
-- keeps its 32 bits, and a part of Init is present with any mark but 0.
use Prim.Native.Nat.{ℕ, ◌<◌, ◌^◌}
use mathlib.Core.Path.{◌≡◌, refl, sym, ap₂, ◌∙◌}
use mathlib.Core.Bool.{Bool, true, false, not, cond}
use mathlib.Core.List.{List}
use lib.ListN.{length, get_or}
use lib.Dec.{eqb}
use Rattle.wire_write.proofs.ReadBack.{bits_back}
use Rattle.fixed_header.specs.Header.{ceiling_ok}
use Rattle.schema.specs.Schema.{width}
use Rattle.schema.specs.Kinds.{schema_of}
use Rattle.schema.specs.declared.Kind.{Kind}
use Rattle.schema.specs.declared.Kind.TheVariants as kinds
use Rattle.decoder.specs.Rows.{Row, rows_in}
use Rattle.records.specs.Records.{record_of, attachment_size_of}
use Rattle.records.specs.Content.{mark, slots_of}
use Rattle.writer_checks.specs.Grounds.{spans_within, all_zero, absent_ok, body_ok, content_error}
use Rattle.records.proofs.Made.{kind_is, id_is, version_is, count_is}
use Rattle.writer.specs.Encoding.{put_fields}
use Rattle.writer.specs.Writing.{refused_with, written}
use Rattle.writer.specs.Straight.{written_with, written_of}
use Rattle.writer.proofs.Refusals.{as_record}

mark_kept : (b : Bool) → eqb (mark (not b)) 0 ≡ b
mark_kept true = refl
mark_kept false = refl

module _ (id version : ℕ) (v : List ℕ) (rows : ℕ) (fits : (i : ℕ) → get_or v i 0 < 2 ^ 32) where
  content_same : (kind : Kind) (source numbers : List ℕ) (size : ℕ)
      → content_error kind (slots_of (record_of kind id version v rows)) rows source numbers size
      ≡ content_error kind v rows source numbers size
  unfolding content_error spans_within all_zero absent_ok body_ok attachment_size_of record_of slots_of width
  content_same kinds.Request source numbers size = refl
  content_same kinds.Response source numbers size = refl
  content_same kinds.Init source numbers size =
      rw (mark_kept (eqb (get_or v 0 0) 0), mark_kept (eqb (get_or v 8 0) 0), bits_back (get_or v 9 0) (fits 9))
  content_same kinds.Data source numbers size = refl
  content_same kinds.Feedback source numbers size = refl
  content_same kinds.Close source numbers size = refl

  message_same : (kind : Kind) (source : List ℕ) (t : List Row)
      → put_fields source t (schema_of kind) 0 (slots_of (record_of kind id version v rows)) ≡ put_fields source t (schema_of kind) 0 v
  unfolding put_fields record_of slots_of width
  message_same kinds.Request source t = refl
  message_same kinds.Response source t = rw (bits_back (get_or v 3 0) (fits 3), bits_back (get_or v 4 0) (fits 4))
  message_same kinds.Init source t =
      rw (mark_kept (eqb (get_or v 0 0) 0), mark_kept (eqb (get_or v 8 0) 0), bits_back (get_or v 9 0) (fits 9))
  message_same kinds.Data source t = refl
  message_same kinds.Feedback source t = refl
  message_same kinds.Close source t =
      rw (bits_back (get_or v 0 0) (fits 0), bits_back (get_or v 1 0) (fits 1), bits_back (get_or v 5 0) (fits 5))

  pub from_slots : (c : ℕ) (kind : Kind) (source numbers body output : List ℕ)
      → written_of c kind id version v rows source numbers body output
      ≡ written c (record_of kind id version v rows) source numbers body output
  from_slots c kind source numbers body output =
      let r = record_of kind id version v rows in
      ap₂ (λ (e : ℕ) (m : List ℕ). cond (not (ceiling_ok c)) (refused_with 41 output)
      (cond (eqb e 0) (written_with c kind id version m body output) (refused_with e output)))
      (sym (content_same kind source numbers (length body)))
      (sym (message_same kind source (rows_in rows numbers)))
      ∙ as_record c r (sym (kind_is id version v rows kind)) (sym (id_is id version v rows kind)) (sym (version_is id version v rows kind))
      refl (sym (count_is id version v rows kind)) source numbers body output
