-- A map entry: the 65th is refused, what is refused inside it is, and any other has its row in the state. What `add_entry` answers.
use Prim.Native.Nat.{ℕ, suc, ◌+◌, ◌-◌, ◌<◌, ◌≤◌}
use mathlib.Core.Path.{◌≡◌, refl, sym, ap, subst, ◌∙◌}
use mathlib.Core.List.{List}
use lib.ListN.{length}
use native.Mathlib.Omega.{arith}
use native.Mathlib.Numerals.{add-one}
use borrow.Author.Tests.{lt-ltb, le-ltb}
use Rattle.wire_read.specs.Part.{part}
use Rattle.schema.specs.Schema.{entry}
use Rattle.decoder.specs.Rows.{Row, laid_out, rows_in}
use Rattle.decoder.specs.Fields.{State, Result, ok, refused, blank, row_of, enter, add_entry, with_field, fields_in}
use Rattle.schema.specs.Targets.{an_entry}
use Rattle.decoder.specs.DecoderState.{state_of, Holds, Ready, Tells, with_field_at, entry_of, row_of_entry}
use Rattle.decoder.specs.declared.Slots.{Slots}
use Rattle.decoder.specs.declared.entry.MapEntry.{MapEntry}
use Rattle.refusals.specs.Refusals.{number, in_numbers}
use Rattle.refusals.specs.declared.Refusal.{Refusal}
use Rattle.refusals.specs.declared.Refusal.TheVariants as refusals
use Rattle.std.specs.Prelude as std
use Rattle.decoder.proofs.RowUpdates.{enter_few}

module _ (frame : List ℕ) (start size : ℕ) (slots : Slots) (numbers : List ℕ) where
  abbrev st : State
  st = state_of slots numbers

  abbrev gives : Result
  gives = with_field_at frame start size st an_entry

  pub too_many : 64 ≤ slots.entries → Tells gives (std.Err refusals.TooManyEntries) numbers numbers
  unfolding with_field
  too_many h =
      let z : gives ≡ refused 14 = cc (le-ltb slots.entries 64 h) in
      subst (λ (o : Result). Tells o (std.Err refusals.TooManyEntries) numbers numbers) (sym z) (record { number_is = refl; past = refl })

  module _ (room : slots.entries < 64) (e : std.Result MapEntry Refusal)
      (is_e : in_numbers e ≡ entry_of (fields_in (start + size - start) frame entry 0 start (part frame start (start + size)) blank)) where
    abbrev got : Result
    got = fields_in size frame entry 0 start (part frame start (start + size)) blank

    is_entry : in_numbers e ≡ entry_of got
    is_entry =
        let z : start + size - start ≡ size = omega arith in
        subst (λ (k : ℕ). in_numbers e ≡ entry_of (fields_in k frame entry 0 start (part frame start (start + size)) blank)) z is_e

    pub entry_refused : (refusal : Refusal) → e ≡ std.Err refusal → Tells gives (std.Err refusal) numbers numbers
    unfolding with_field
    entry_refused refusal q = by got refl
      where
        by : (o : Result) → got ≡ o → Tells gives (std.Err refusal) numbers numbers
        by (ok s) p =
            let a : in_numbers (std.Err refusal) ≡ entry_of (ok s) = ap in_numbers (sym q) ∙ is_entry ∙ ap entry_of p in
            let b : ⊥ = cc in absurd b
        by (refused other) p =
            let a : in_numbers (std.Err refusal) ≡ entry_of (refused other) = ap in_numbers (sym q) ∙ is_entry ∙ ap entry_of p in
            let same : number refusal ≡ other = cc in
            let z : gives ≡ refused other = cc (lt-ltb slots.entries 64 room) in
            subst (λ (o : Result). Tells o (std.Err refusal) numbers numbers) (sym z) (record { number_is = same; past = refl })

    module _ (h : Ready slots numbers) (new : MapEntry) (q : e ≡ std.Ok new) where
      pub few_rows : slots.rows < 64
      few_rows = let a = h.few in let b = h.rows_are in omega arith

      abbrev rows_then : List Row
      rows_then = enter frame (row_of_entry new) (rows_in slots.rows numbers)

      entry_held : (count : ℕ) (after : List ℕ) → count ≡ length rows_then → after ≡ laid_out rows_then numbers
          → Holds (record { slots = slots.values; rows = rows_then; entries = suc slots.entries })
          (record { values = slots.values; rows = count; entries = slots.entries + 1 }) after numbers
      entry_held count after p l =
          record {
            values_are = refl;
            values_long = h.values_long;
            rows_are = p;
            entries_are = add-one slots.entries;
            few = (let a = h.few in let b = enter_few frame (row_of_entry new) (rows_in slots.rows numbers) in omega arith);
            counted = omega arith;
            laid = l;
            long = h.long;
          }

      abbrev answer : ℕ → std.Result Slots Refusal
      answer count = std.Ok (record { values = slots.values; rows = count; entries = slots.entries + 1 })

      pub entry_added : (count : ℕ) (after : List ℕ) → (count ≡ length rows_then) × (after ≡ laid_out rows_then numbers)
          → Tells gives (answer count) after numbers
      unfolding with_field add_entry
      entry_added count after p = by got refl
        where
          by : (o : Result) → got ≡ o → Tells gives (answer count) after numbers
          by (refused code) g =
              let a : in_numbers (std.Ok new) ≡ entry_of (refused code) = ap in_numbers (sym q) ∙ is_entry ∙ ap entry_of g in
              let b : ⊥ = cc in absurd b
          by (ok s) g =
              let same : in_numbers (std.Ok new) ≡ entry_of (ok s) = ap in_numbers (sym q) ∙ is_entry ∙ ap entry_of g in
              let row : row_of_entry new ≡ row_of s = cc in
              let z : gives ≡ ok (add_entry frame s st) = cc (lt-ltb slots.entries 64 room) in
              let y : add_entry frame s st ≡ record { slots = slots.values; rows = rows_then; entries = suc slots.entries } = rw row
              refl in
              subst (λ (o : Result). Tells o (answer count) after numbers)
              (sym (z ∙ ap ok y)) (entry_held count after p.0 p.1)
