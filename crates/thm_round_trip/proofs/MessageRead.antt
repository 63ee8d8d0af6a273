-- What is written for a schema, wherever it is in a frame, is read as a message that says the same: the same numbers, present marks,
-- lengths and bytes, and the rows in their order with the same keys and values. It is no statement about the fixed header, nor about bytes
-- that were not written so.
-- Ruled out: a writer that writes the rows of a map in another order, and a reader that takes the start of a byte field from the start of
-- its message.
use Prim.Native.Nat.{ℕ, ◌+◌, ◌-◌, ◌^◌, ◌<◌, ◌≤◌}
use mathlib.Core.Path.{◌≡◌, refl, ap, ◌∙◌}
use mathlib.Core.Bool.{Bool, true, false, cond}
use mathlib.Core.List.{List, [], ◌++◌, append_assoc, append-nil}
use lib.ListN.{length, take, drop, replicate-append-replicate}
use lib.Seq.{take-append_seam, drop-append_seam}
use native.Mathlib.Omega.{arith}
use Rattle.schema.specs.Schema.{Schema, width}
use Rattle.decoder.specs.Rows.{Row}
use Rattle.decoder.specs.Fields.{State, ok, fields_in, read_message}
use Rattle.writer.specs.Encoding.{put_fields}
use Rattle.writer_checks.specs.Grounds.{spans_within, rows_within, keys_differ, absent_ok}
use Rattle.thm_round_trip.specs.InRange.{InRange}
use Rattle.thm_round_trip.proofs.Said.{said_in, has_rows, kept_rows, MessageBack}
use Rattle.thm_round_trip.proofs.Formed.{WellFormed}
use Rattle.thm_round_trip.proofs.Landing.{zeros, slots_at, entries_at, Stands}
use Rattle.thm_round_trip.proofs.Keys.{same_count, same_differ}
use Rattle.thm_round_trip.proofs.FieldsRead.{state}
use Rattle.thm_round_trip.proofs.SchemaRead.{schema_read}
use Rattle.thm_round_trip.proofs.SchemaSaid.{schema_back}

stands : (before x rest : List ℕ) → Stands (before ++ x ++ rest) (length before) x
stands before x rest =
    ap (λ (l : List ℕ). take (length x) (drop (length before) l)) (append_assoc before x rest)
    ∙ ap (take (length x)) (drop-append_seam before (x ++ rest))
    ∙ take-append_seam x rest

-- the rows that are kept are all or none
module _ (source : List ℕ) (rows : List Row) (sch : Schema) where
  kept_few : length rows ≤ 64 → length (kept_rows sch rows) ≤ 64
  unfolding kept_rows
  kept_few h = by (has_rows sch)
    where
      by : (b : Bool) → length (cond b rows []) ≤ 64
      by true = h
      by false = omega arith

  kept_differ : keys_differ source rows ≡ true → keys_differ source (kept_rows sch rows) ≡ true
  unfolding kept_rows keys_differ
  kept_differ h = by (has_rows sch)
    where
      by : (b : Bool) → keys_differ source (cond b rows []) ≡ true
      by true = h
      by false = refl

pub message_back : (frame source before rest : List ℕ) (rows : List Row) (sch : Schema) (slots : List ℕ)
    → frame ≡ before ++ put_fields source rows sch 0 slots ++ rest
    → WellFormed sch → InRange (said_in source sch 0 slots)
    → length rows ≤ 64 → spans_within (length source) sch 0 slots ≡ true → rows_within (length source) rows ≡ true
    → keys_differ source rows ≡ true → absent_ok rows sch 0 slots ≡ true
    → length (put_fields source rows sch 0 slots) < 2 ^ 64
    → (st : State)
    × (read_message frame sch (length before) (put_fields source rows sch 0 slots) ≡ ok st)
    × MessageBack frame source rows sch slots st
unfolding read_message fields_in
message_back frame source before rest rows sch slots is_frame formed fits few spans in_rows differ absent small =
    let w = put_fields source rows sch 0 slots in
    let at = length before in
    let here : Stands frame at w = rw is_frame (stands before w rest) in
    let back = schema_back frame source rows slots in_rows sch 0 formed.0 0 at spans absent here in
    let read_rows = entries_at source rows slots sch 0 at in
    let count = same_count frame source read_rows (kept_rows sch rows) back.rows_are in
    let unlike = same_differ frame source read_rows (kept_rows sch rows) back.rows_are ∙ kept_differ source rows sch differ in
    let spare = zeros (16 - width sch) in
    let all : width sch + (16 - width sch) ≡ 16 = let h = formed.1 in omega arith in
    let blanks : zeros (width sch) ++ spare ≡ zeros 16 = replicate-append-replicate {A = ℕ} (width sch) (16 - width sch) 0 ∙ ap zeros all in
    let read =
    schema_read frame source rows slots sch sch 0 0 formed.0 [] 0 refl (λ (n : ℕ) (h : 0 < n). refl) 0 at fits spare [] [] 0 small
    (omega (arith, kept_few source rows sch few)) unlike in (
      state (slots_at source rows slots sch 0 at ++ spare) read_rows (0 + length read_rows),
      rw (append-nil w, blanks) at read,
      record { fields_are = back.says [] spare 0 refl; rows_are = back.rows_are },
    )
