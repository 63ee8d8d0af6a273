-- Only for the private functions of this crate, and imported by no other: what they promise to each other. The slots and the lent row
-- numbers are reported as the state of `Fields`. What `decode` answers is in `Decoding`.
use Rattle.std.specs.Prelude.{ℕ, ◌+◌, ◌-◌, ◌≤◌, ◌≡◌, cond, List, length, drop, get_or, set, eqb, Result, Ok, Err}
use Rattle.refusals.specs.Refusals.{number}
use Rattle.refusals.specs.declared.Refusal.{Refusal}
use Rattle.wire_read.specs.Part.{part}
use Rattle.wire_read.specs.Varint.{low_u32}
use Rattle.schema.specs.Schema.{part_schema, slot_at}
use Rattle.decoder.specs.Rows.{Row, row_numbers, laid_out, rows_in}
use Rattle.decoder.specs.Fields.{State, ok, refused, start_of, with_field, fields_in}
use Rattle.decoder.specs.Fields as fields
use Rattle.schema.specs.Targets.{Target, a_number, some_bytes, an_entry, a_message, unknown}
use Rattle.decoder.specs.declared.Slots.{Slots}
use Rattle.decoder.specs.declared.entry.MapEntry.{MapEntry}

-- ---- the state of the reading

-- the state that the slots and the row numbers hold
abbrev pub state_of : Slots → List ℕ → State
state_of slots numbers = record { slots = slots.values; rows = rows_in slots.rows numbers; entries = slots.entries }

-- The slots and the row numbers hold a state. The numbers were `lent`.
pub record Holds (st : State) (slots : Slots) (numbers lent : List ℕ) : Type 0 where
  pub values_are : slots.values ≡ st.slots
  pub values_long : length st.slots ≡ 16
  pub rows_are : slots.rows ≡ length st.rows
  pub entries_are : slots.entries ≡ st.entries
  pub few : length st.rows ≤ st.entries
  pub counted : st.entries ≤ 64
  pub laid : numbers ≡ laid_out st.rows lent
  pub long : row_numbers ≤ length lent

-- the same numbers are lent anew
abbrev pub Ready : Slots → (numbers : List ℕ) → Type 0
Ready slots numbers = Holds (state_of slots numbers) slots numbers numbers

-- The answer reports the result of a reading. Of a refusal, the numbers past the rows are untouched.
pub record Refuses (code : ℕ) (refusal : Refusal) (numbers lent : List ℕ) : Type 0 where
  pub number_is : number refusal ≡ code
  pub past : drop row_numbers numbers ≡ drop row_numbers lent

abbrev pub Tells : fields.Result → Result Slots Refusal → (numbers lent : List ℕ) → Type 0
Tells (ok st) (Ok slots) numbers lent = Holds st slots numbers lent
Tells (ok st) (Err refusal) numbers lent = ⊥
Tells (refused code) (Ok slots) numbers lent = ⊥
Tells (refused code) (Err refusal) numbers lent = Refuses code refusal numbers lent

-- ---- one field

-- what the `size` bytes of the frame from `start`, as a field, do to the state
abbrev pub with_field_at : (frame : List ℕ) (start size : ℕ) → State → Target → fields.Result
with_field_at frame start size st t = with_field frame (fields_in size frame) start (part frame start (start + size)) st t

-- what the bytes of the frame from `at` to `end` do to the state, as fields of a schema number; `read_fields` asks that `at` is not past
-- `end`, so the subtraction is not cut off
abbrev pub read_at : (frame : List ℕ) (schema at end : ℕ) → State → fields.Result
read_at frame schema at end st = fields_in (end - at) frame (part_schema schema) (slot_at schema) at (part frame at end) st

-- the slots with a number, and with the start and the length of bytes
unfoldable pub with_number : Target → ℕ → Slots → Slots
with_number (a_number i) v s = record { values = set s.values i (low_u32 v); rows = s.rows; entries = s.entries }
with_number (some_bytes i) v s = s
with_number an_entry v s = s
with_number (a_message i inner) v s = s
with_number unknown v s = s

unfoldable pub with_bytes : ℕ → ℕ → ℕ → Slots → Slots
with_bytes i start size s = record {
  values = set (set s.values i (start_of start size)) (i + 1) size;
  rows = s.rows;
  entries = s.entries;
}

-- ---- a map entry

-- the entry with the bytes of its field of number n
unfoldable pub with_span : (n start size : ℕ) → MapEntry → MapEntry
with_span n start size e =
    cond (eqb 1 n)
    (record { key = start_of start size; key_size = size; value = e.value; value_size = e.value_size })
    (cond (eqb 2 n)
    (record { key = e.key; key_size = e.key_size; value = start_of start size; value_size = size })
    e)

-- the answer to the reading of an entry
abbrev pub entry_of : fields.Result → Result MapEntry ℕ
entry_of (ok e) = Ok (record {
  key = get_or e.slots 0 0;
  key_size = get_or e.slots 1 0;
  value = get_or e.slots 2 0;
  value_size = get_or e.slots 3 0;
})
entry_of (refused code) = Err code

abbrev pub row_of_entry : MapEntry → Row
row_of_entry e = record { key = e.key; key_size = e.key_size; value = e.value; value_size = e.value_size }
