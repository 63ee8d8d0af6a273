-- What the slots and the row numbers hold stays the state of the reading, whichever the target of a field: what `set_number` and
-- `read_inside` do.
use Prim.Native.Nat.{ℕ, ◌+◌, ◌-◌, ◌≤◌}
use mathlib.Core.Path.{◌≡◌, refl, sym, ap, subst, ◌∙◌}
use mathlib.Core.List.{List}
use lib.ListN.{length, set, length-set}
use native.Mathlib.Omega.{arith}
use Rattle.wire_read.specs.Part.{part}
use Rattle.wire_read.proofs.PartLaws.{part_length}
use Rattle.schema.specs.Schema.{part_schema, slot_at}
use Rattle.decoder.specs.Fields.{State, Result, ok, set_slot, set_bytes, set_number, with_field, fields_in}
use Rattle.schema.specs.Targets.{Target, a_number, some_bytes, an_entry, a_message, unknown}
use Rattle.decoder.specs.DecoderState.{state_of, Holds, Ready, Tells, with_field_at, read_at, with_number, with_bytes}
use Rattle.decoder.specs.declared.Slots.{Slots}
use Rattle.refusals.specs.declared.Refusal.{Refusal}
use Rattle.std.specs.Prelude as std

module _ (st : State) (slots : Slots) (numbers lent : List ℕ) (h : Holds st slots numbers lent) where
  -- one slot with another value
  pub slot_held : (i v : ℕ) → Holds (set_slot i v st)
      (record { values = set slots.values i v; rows = slots.rows; entries = slots.entries }) numbers lent
  unfolding set_slot
  slot_held i v =
      record {
        values_are = ap (λ (l : List ℕ). set l i v) h.values_are;
        values_long = length-set st.slots i v ∙ h.values_long;
        rows_are = h.rows_are;
        entries_are = h.entries_are;
        few = h.few;
        counted = h.counted;
        laid = h.laid;
        long = h.long;
      }

  pub number_held : (t : Target) (v : ℕ) → Holds (set_number t v st) (with_number t v slots) numbers lent
  unfolding set_number with_number
  number_held (a_number i) v = slot_held i _
  number_held (some_bytes i) v = h
  number_held an_entry v = h
  number_held (a_message i inner) v = h
  number_held unknown v = h

pub bytes_held : (st : State) (slots : Slots) (numbers lent : List ℕ) → Holds st slots numbers lent
    → (i start n : ℕ) → Holds (set_bytes i start n st) (with_bytes i start n slots) numbers lent
unfolding set_bytes with_bytes
bytes_held st slots numbers lent h i start n = slot_held _ _ numbers lent (slot_held st slots numbers lent h i _) (i + 1) n

-- the present mark of a part of Init
pub mark_held : (slots : Slots) (numbers : List ℕ) → Holds (state_of slots numbers) slots numbers numbers → (i : ℕ)
    → Holds (state_of (record { values = set slots.values i 1; rows = slots.rows; entries = slots.entries }) numbers)
    (record { values = set slots.values i 1; rows = slots.rows; entries = slots.entries }) numbers numbers
unfolding set_slot
mark_held slots numbers h i = slot_held (state_of slots numbers) slots numbers numbers h i 1

-- ---- what `read_inside` answers

module _ (frame : List ℕ) (start size : ℕ) (slots : Slots) (numbers : List ℕ) (fits : start + size ≤ length frame) (t : Target) where
  abbrev gives : Result
  gives = with_field_at frame start size (state_of slots numbers) t

  pub inside_bytes : (h : Ready slots numbers) (i : ℕ) → t ≡ some_bytes i → (r : Slots) → r ≡ with_bytes i start size slots
      → Tells gives (std.Ok r) numbers numbers
  unfolding with_field
  inside_bytes h i e r is_r =
      let x : length (part frame start (start + size)) ≡ size = part_length frame start (start + size) ∙ omega arith in
      let z : gives ≡ ok (set_bytes i start size (state_of slots numbers)) = rw (e, x) refl in
      subst (λ (o : Result). Tells o (std.Ok r) numbers numbers) (sym z)
      (rw is_r (bytes_held (state_of slots numbers) slots numbers numbers h i start size))

  pub inside_number : (h : Ready slots numbers) (i : ℕ) → t ≡ a_number i
      → Tells gives (std.Ok slots) numbers numbers
  unfolding with_field
  inside_number h i e = rw e h

  pub inside_unknown : (h : Ready slots numbers) → t ≡ unknown
      → Tells gives (std.Ok slots) numbers numbers
  unfolding with_field
  inside_unknown h e = rw e h

  pub inside_entry : (r : std.Result Slots Refusal) (after : List ℕ) → t ≡ an_entry
      → Tells (with_field_at frame start size (state_of slots numbers) an_entry) r after numbers
      → Tells gives r after numbers
  inside_entry r after e q = rw e q

  abbrev marked : ℕ → Slots
  marked i = record { values = set slots.values i 1; rows = slots.rows; entries = slots.entries }

  pub inside_message : (i inner : ℕ) → t ≡ a_message i (part_schema inner) → slot_at inner ≡ i + 1 → (r : std.Result Slots Refusal) (after : List ℕ)
      → Tells (read_at frame inner start (start + size) (state_of (marked i) numbers)) r after numbers
      → Tells gives r after numbers
  unfolding with_field set_slot
  inside_message i inner e s r after q =
      let z : start + size - start ≡ size = omega arith in
      let Read : ℕ → Type 0 =
      λ k. Tells (fields_in k frame (part_schema inner) (slot_at inner) start (part frame start (start + size))
      (state_of (marked i) numbers)) r after numbers in
      let there : Read size = subst Read z q in
      rw e (rw s at there)
