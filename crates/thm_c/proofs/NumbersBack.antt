-- For a user in C: what the numbers of a record say is the record.
--
-- Promised: of every record that a program can hold, its 25 numbers and its kind give it back (`numbers_back`); and of every ceiling,
-- frame, kind and row numbers, what a reader gave gives back the record that was read (`reading_back`), so it can be handed to the writer
-- of its kind; and its last number is the frame's version (`version_read`).
-- Not promised: what the writer makes of the record, which `c_read_back` says.
-- Ruled out: an int32 that comes back unsigned, and a field that is stored at one place and looked for at another.
use Prim.Native.Nat.{ℕ, ◌%◌, ◌^◌, ◌<◌}
use mathlib.Core.Path.{◌≡◌, refl, ap, subst, ◌∙◌}
use mathlib.Core.Bool.{Bool, true, false, not, ◌&&◌}
use mathlib.Core.List.{List, [], ◌∷◌, ◌++◌}
use native.Mathlib.Omega.{arith}
use lib.Dec.{eqb, ltb, leb}
use lib.ListN.{length, take, get_or}
use Rattle.laws.proofs.Booleans.{either, choose}
use Rattle.wire_read.proofs.SignedLaws.{low_small}
use Rattle.wire_write.proofs.ReadBack.{signed_bits}
use Rattle.fixed_header.specs.Header.{ceiling_ok, header_error, total_of, id_of, version_of}
use Rattle.decoder.specs.Rows.{row_numbers, laid_out}
use Rattle.decoder.specs.Fields.{Result, ok, refused, read_message}
use Rattle.schema.specs.Schema.{slot_count}
use Rattle.schema.specs.Kinds.{schema_of}
use Rattle.records.specs.Records.{record_of, attachment_size_of}
use Rattle.message.specs.Frames.{Reading, header_of, body_of, kind_fits, refused_untouched, with_attachment, answered, read_frame}
use Rattle.message.specs.Spans.{spans_of}
use Rattle.schema.specs.declared.Kind.{Kind}
use Rattle.schema.specs.declared.Kind.TheVariants as kinds
use Rattle.records.specs.declared.Record.{Record}
use Rattle.records.specs.declared.Record.TheVariants as records
use Rattle.message.specs.Frames.{Answer}
use Rattle.std.specs.Prelude.{Ok, Err}
use Rattle.message.specs.Spans.{Spans}
use Rattle.records.specs.Content.{mark, kind_of, record_id, record_version, row_count, slots_of}
use Rattle.bekurapi.specs.Numbers.{answer_id, answer_version, answer_rows, answer_slots, numbers_of, record_from}
use Rattle.thm_round_trip.proofs.LastTwoWritten.{byte_is}
use Rattle.thm_c.specs.Readings.{Fit}

mark_back : (b : Bool) → not (eqb (mark b) 0) ≡ b
mark_back true = refl
mark_back false = refl

-- its slots and its version, one after the other
abbrev Tail : Record → List ℕ
Tail r = slots_of r ++ record_version r ∷ []

last_is : (r : Record) → get_or (Tail r) 16 0 ≡ record_version r
unfolding slots_of
last_is (records.Request r) = refl
last_is (records.Response r) = refl
last_is (records.Init r) = refl
last_is (records.Data r) = refl
last_is (records.Feedback r) = refl
last_is (records.Close r) = refl

record_back : (r : Record) → Fit r
    → record_of (kind_of r) (record_id r) (get_or (Tail r) 16 0 % 256) (take slot_count (Tail r)) (row_count r) ≡ r
unfolding record_of kind_of record_id record_version slots_of row_count
record_back (records.Request r) h = rw (byte_is r.header_version h.0) refl
record_back (records.Response r) h =
    rw (byte_is r.header_version h.0, signed_bits r.ret h.1.0, signed_bits r.func_ret h.1.1) refl
record_back (records.Init r) h =
    rw (
      byte_is r.header_version h.0,
      mark_back r.request_meta.present,
      mark_back r.response_meta.present,
      signed_bits r.response_meta.ret h.1,
    ) refl
record_back (records.Data r) h = rw (byte_is r.header_version h.0) refl
record_back (records.Feedback r) h = rw (byte_is r.header_version h.0) refl
record_back (records.Close r) h =
    rw (
      byte_is r.header_version h.0,
      signed_bits r.close_type h.1.0,
      signed_bits r.ret h.1.1,
      signed_bits r.func_ret h.1.2,
    ) refl

pub numbers_back : (l : Spans) (r : Record) → l.answer ≡ Ok r → Fit r → record_from (kind_of r) (numbers_of l) ≡ r
numbers_back l r e h =
    ap (λ (a : Answer). record_of (kind_of r) (answer_id a) (get_or (answer_slots a ++ answer_version a ∷ []) 16 0 % 256)
    (take slot_count (answer_slots a ++ answer_version a ∷ [])) (answer_rows a)) e
    ∙ record_back r h

-- ---- the record of a frame
-- a record that was read is sound, of its kind and of its version
abbrev Kept : Kind → (version : ℕ) → Answer → Type 0
Kept kind version (Ok r) = Fit r × (kind_of r ≡ kind) × (record_version r ≡ version)
Kept kind version (Err code) = Unit {0}

made : (kind : Kind) (id version : ℕ) (slots : List ℕ) (rows : ℕ) → version < 2 ^ 8
    → Kept kind version (Ok (record_of kind id version slots rows))
unfolding record_of record_version kind_of
made kinds.Request id version l rows h = ((h, tt), refl, refl)
made kinds.Response id version l rows h = ((h, (low_small (get_or l 3 0), low_small (get_or l 4 0))), refl, refl)
made kinds.Init id version l rows h = ((h, low_small (get_or l 9 0)), refl, refl)
made kinds.Data id version l rows h = ((h, tt), refl, refl)
made kinds.Feedback id version l rows h = ((h, tt), refl, refl)
made kinds.Close id version l rows h =
    ((h, (low_small (get_or l 0 0), low_small (get_or l 1 0), low_small (get_or l 5 0))), refl, refl)

version_byte : (f : List ℕ) → version_of f < 2 ^ 8
unfolding version_of
version_byte f = omega arith

record KeptIn (kind : Kind) (version : ℕ) (x : Reading) : Type 0 where
  is : Kept kind version x.answer

module _ (c : ℕ) (kind : Kind) (f lent : List ℕ) where
  abbrev InFrame : Reading → Type 0
  InFrame = KeptIn kind (version_of f)

  none : (code : ℕ) (rows : List ℕ) → InFrame (refused_untouched code rows)
  none code rows = record { is = tt }

  of_result : (x : Result) → InFrame (answered kind f lent x)
  unfolding answered with_attachment
  of_result (ok st) =
      choose InFrame (leb (attachment_size_of kind st.slots) (length (body_of kind f))) _ _
      (λ e. record { is = made kind (id_of f) (version_of f) st.slots (length st.rows) (version_byte f) })
      (λ e. none 15 (laid_out [] lent))
  of_result (refused code) = none code (laid_out [] lent)

  kept : InFrame (read_frame c kind f lent)
  unfolding read_frame
  kept =
      either InFrame (not (ceiling_ok c)) (none 41 lent)
      (either InFrame (ltb (length lent) row_numbers) (none 16 lent)
      (either InFrame (ltb (length f) 16) (none 9 lent)
      (either InFrame (eqb (header_error c (take 16 f)) 0)
      (either InFrame (eqb (length f) (total_of f) && kind_fits kind (get_or f 2 0) (get_or f 3 0))
      (of_result (read_message f (schema_of kind) 16 (header_of kind f)))
      (none 9 lent))
      (none (header_error c (take 16 f)) lent))))

kept_read : (c : ℕ) (kind : Kind) (f lent : List ℕ) (r : Record) → (read_frame c kind f lent).answer ≡ Ok r
    → Kept kind (version_of f) (Ok r)
kept_read c kind f lent r e = subst (Kept kind (version_of f)) e (kept c kind f lent).is

pub version_read : (c : ℕ) (kind : Kind) (f lent : List ℕ) (size : ℕ) (r : Record) → (read_frame c kind f lent).answer ≡ Ok r
    → get_or (numbers_of (spans_of (read_frame c kind f lent) size)) 24 0 ≡ version_of f
version_read c kind f lent size r e =
    ap (λ (a : Answer). get_or (answer_slots a ++ answer_version a ∷ []) 16 0) e ∙ last_is r ∙ (kept_read c kind f lent r e).2

pub reading_back : (c : ℕ) (kind : Kind) (f lent : List ℕ) (size : ℕ) (r : Record) → (read_frame c kind f lent).answer ≡ Ok r
    → record_from kind (numbers_of (spans_of (read_frame c kind f lent) size)) ≡ r
reading_back c kind f lent size r e =
    let is = kept_read c kind f lent r e in
    let l = spans_of (read_frame c kind f lent) size in
    subst (λ (k : Kind). record_from k (numbers_of l) ≡ r) is.1 (numbers_back l r e is.0)
