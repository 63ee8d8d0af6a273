-- The whole message: the slots start blank over cleared rows, and what is read of the part is the message.
use Prim.Native.Nat.{ℕ, ◌-◌, ◌≤◌}
use mathlib.Core.Path.{◌≡◌, refl, sym, ap, subst, ◌∙◌}
use mathlib.Core.Bool.{true, false}
use mathlib.Core.List.{List, []}
use lib.ListN.{length, drop, replicate}
use native.Mathlib.Omega.{arith}
use Rattle.wire_read.specs.Part.{part}
use Rattle.wire_read.proofs.PartLaws.{part_length}
use Rattle.schema.specs.Schema.{schema_at, part_schema, slot_at}
use Rattle.decoder.specs.Rows.{row_numbers, laid_out, rows_in}
use Rattle.decoder.specs.Fields.{State, Result, ok, refused, blank, read_message}
use Rattle.decoder.specs.Decoding.{read_as, outcome}
use Rattle.decoder.specs.DecoderState.{state_of, Holds, Tells, read_at}
use Rattle.decoder.specs.declared.Slots.{Slots}
use Rattle.refusals.specs.Refusals.{in_numbers}
use Rattle.refusals.specs.declared.Refusal.{Refusal}
use Rattle.std.specs.Prelude as std
use Rattle.decoder.proofs.RowLaws.{drop_laid, held}

abbrev pub no_slots : Slots
no_slots = record { values = replicate 16 0; rows = 0; entries = 0 }

module _ (numbers lent : List ℕ) (clear : numbers ≡ laid_out [] lent) (long : row_numbers ≤ length lent) where
  blank_holds : Holds blank no_slots numbers lent
  blank_holds =
      record {
        values_are = refl;
        values_long = refl;
        rows_are = refl;
        entries_are = refl;
        few = omega arith;
        counted = omega arith;
        laid = clear;
        long = long;
      }

  pub blank_held : Holds (state_of no_slots numbers) no_slots numbers numbers
  blank_held = held blank no_slots numbers lent blank_holds

same_slots : (s : Slots) (st : State) → s.values ≡ st.slots → s.rows ≡ length st.rows → s.entries ≡ st.entries → s ≡ read_as st
same_slots s st f g h = rw (← f, ← g, ← h) refl

module _ (frame : List ℕ) (schema at end s : ℕ) (lent numbers after : List ℕ) (d : std.Result Slots Refusal)
    (fits : end ≤ length frame) (is-s : (part_schema s ≡ schema_at schema) × (slot_at s ≡ 0)) (clear : numbers ≡ laid_out [] lent)
    (tells : Tells (read_at frame s at end (state_of no_slots numbers)) d after numbers) where
  abbrev message : Result
  message = read_message frame (schema_at schema) at (part frame at end)

  is_message : read_at frame s at end (state_of no_slots numbers) ≡ message
  unfolding read_message rows_in
  is_message =
      let a : length (part frame at end) ≡ end - at = part_length frame at end ∙ omega arith in
      rw (is-s.0, is-s.1, a) refl

  told : Tells message d after numbers
  told = subst (λ (o : Result). Tells o d after numbers) is_message tells

  past : drop row_numbers numbers ≡ drop row_numbers lent
  past = subst (λ (l : List ℕ). drop row_numbers l ≡ drop row_numbers lent) (sym clear) (drop_laid [] lent (omega arith))

  relaid : (l : List ℕ) → drop row_numbers l ≡ drop row_numbers lent → laid_out [] l ≡ laid_out [] lent
  relaid l e = rw e refl

  abbrev Gives : std.Result Slots Refusal → (last : List ℕ) → Result → Type 0
  Gives r last o = (in_numbers r ≡ (outcome o lent).answer) × (last ≡ (outcome o lent).rows)

  pub decoded : std.is_err d ≡ false → Gives d after message
  unfolding outcome
  decoded z = by message d told z
    where
      by : (o : Result) (x : std.Result Slots Refusal) → Tells o x after numbers → std.is_err x ≡ false → Gives x after o
      by (ok st) (std.Ok slots) h z = (ap std.Ok (same_slots slots st h.values_are h.rows_are h.entries_are), rw (← past) h.laid)
      by (ok st) (std.Err refusal) t z = absurd t
      by (refused code) (std.Ok slots) t z = absurd t
      by (refused code) (std.Err refusal) t z = let c : ⊥ = cc in absurd c

  pub not_decoded : std.is_err d ≡ true → (last : List ℕ) → last ≡ laid_out [] after → Gives d last message
  unfolding outcome
  not_decoded z last e = by message d told z
    where
      by : (o : Result) (x : std.Result Slots Refusal) → Tells o x after numbers → std.is_err x ≡ true → Gives x last o
      by (ok st) (std.Ok slots) h z = let c : ⊥ = cc in absurd c
      by (ok st) (std.Err refusal) t z = absurd t
      by (refused code) (std.Ok slots) t z = absurd t
      by (refused code) (std.Err refusal) t z = (ap std.Err t.number_is, e ∙ relaid after (t.past ∙ past))
