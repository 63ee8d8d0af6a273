-- A reading sees nothing of the frame before the place where it starts: the frame is looked at only to compare keys, and a key is a part of
-- what was read, or empty.
use Prim.Native.Nat.{ℕ, zero, suc, ◌+◌, ◌-◌, ◌≤◌}
use mathlib.Core.Path.{◌≡◌, refl, sym, ap, subst, ◌∙◌}
use mathlib.Core.Bool.{Bool, true, false}
use mathlib.Core.List.{List, [], ◌∷◌}
use lib.ListN.{length, take, drop, get_or, set}
use lib.Seq.{drop-drop}
use lib.Dec.{ltb, eqb}
use native.Mathlib.Omega.{arith}
use native.Mathlib.Nat.{add-sub_of_le}
use borrow.Author.Tests.{eqb-true}
use Rattle.laws.proofs.Booleans.{either, choose}
use Rattle.wire_read.specs.Fields.{FieldResult, no_field, varint_field, fixed64_field, bytes_field}
use Rattle.wire_read.specs.Fields.{group_field, fixed32_field, field_error, next_field}
use Rattle.schema.specs.Schema.{Schema, entry}
use Rattle.schema.specs.Targets.{Target, a_number, some_bytes, an_entry, a_message, unknown, look}
use Rattle.refusals.specs.Grounds.{Every}
use Rattle.decoder.specs.Rows.{Row}
use Rattle.decoder.specs.Fields.{State, Result, ok, refused, blank, Reader, start_of, set_slot, set_bytes, set_number, part_of}
use Rattle.decoder.specs.Fields.{same_bytes, enter, row_of, add_entry, with_field, and_then, inside, one_field, fields_in, read_message}
use Rattle.decoder.proofs.EntryLaws.{entry_number}
use Rattle.decoder.proofs.SlotChanges.{number_rows}

-- `one_field` by the field that was found, and `with_field` of a map entry by what was read of it: the cases of each are then the cases of
-- an argument
abbrev field_by : List ℕ → Reader → Schema → (i at : ℕ) → List ℕ → State → FieldResult → Result
field_by frame read sch i at s st found =
    elim found [
      | no_field ↦ ok st
      | varint_field n v used ↦ read sch i (at + used) (drop used s) (set_number (look sch i n) v st)
      | fixed64_field n v used ↦ read sch i (at + used) (drop used s) st
      | bytes_field n used size ↦
          inside frame read sch i (at + used) (take size (drop used s)) (drop size (drop used s)) st (look sch i n)
      | group_field n used ↦ read sch i (at + used) (drop used s) st
      | fixed32_field n v used ↦ read sch i (at + used) (drop used s) st
      | field_error code ↦ refused code
    ]

abbrev entry_by : List ℕ → State → (room : Bool) → Result → Result
entry_by frame st room o =
    elim room [
      | false ↦ refused 14
      | true ↦ elim o [ refused code ↦ refused code | ok e ↦ ok (add_entry frame e st) ]
    ]

module _ (from : ℕ) (f g : List ℕ) (same : drop from f ≡ drop from g) where
  -- ---- parts of both frames
  abbrev Alike : (start size : ℕ) → Type 0
  Alike start size = part_of f start size ≡ part_of g start size

  rest_alike : (at : ℕ) → from ≤ at → drop at f ≡ drop at g
  rest_alike at h =
      subst (λ (n : ℕ). drop n f ≡ drop n g) (add-sub_of_le h)
      (sym (drop-drop (at - from) from f) ∙ ap (drop (at - from)) same ∙ drop-drop (at - from) from g)

  part_alike : (at size : ℕ) → from ≤ at → Alike (start_of at size) size
  part_alike at size h =
      choose (λ (start : ℕ). Alike start size) (eqb size 0) 0 at (λ e. rw (eqb-true size 0 e) refl) (λ e. ap (take size) (rest_alike at h))

  -- ---- the key of a map entry, which is in its first two slots
  abbrev Key : (slots : List ℕ) → Type 0
  Key [] = ⊥
  Key (start ∷ []) = ⊥
  Key (start ∷ size ∷ slots) = Alike start size

  key_alike : (slots : List ℕ) → Key slots → Alike (get_or slots 0 0) (get_or slots 1 0)
  key_alike [] k = absurd k
  key_alike (start ∷ []) k = absurd k
  key_alike (start ∷ size ∷ slots) k = k

  key_taken : (slots : List ℕ) (start size : ℕ) → Alike start size → Key slots → Key (set (set slots 0 start) 1 size)
  key_taken [] start size h k = absurd k
  key_taken (a ∷ []) start size h k = absurd k
  key_taken (a ∷ b ∷ slots) start size h k = h

  value_taken : (slots : List ℕ) (start size : ℕ) → Key slots → Key (set (set slots 2 start) 3 size)
  value_taken [] start size k = absurd k
  value_taken (a ∷ []) start size k = absurd k
  value_taken (a ∷ b ∷ slots) start size k = k

  abbrev KeyRead : Result → Type 0
  KeyRead (ok e) = Key e.slots
  KeyRead (refused code) = Unit {0}

  module _ (frame : List ℕ) (read : Reader)
      (q : (at : ℕ) (s : List ℕ) (e : State) → from ≤ at → Key e.slots → KeyRead (read entry 0 at s e)) where
    inside_key : (n at : ℕ) (x rest : List ℕ) (e : State) → from ≤ at → Key e.slots
        → KeyRead (inside frame read entry 0 at x rest e (look entry 0 n))
    unfolding inside and_then with_field look set_bytes set_slot
    inside_key n at x rest e h k =
        let after = at + length x in
        either (λ (t : Target). KeyRead (inside frame read entry 0 at x rest e t)) (eqb 1 n)
        (q after rest (set_bytes 0 at (length x) e) (omega arith)
        (key_taken e.slots (start_of at (length x)) (length x) (part_alike at (length x) h) k))
        (either (λ (t : Target). KeyRead (inside frame read entry 0 at x rest e t)) (eqb 2 n)
        (q after rest (set_bytes 2 at (length x) e) (omega arith) (value_taken e.slots (start_of at (length x)) (length x) k))
        (q after rest e (omega arith) k))

    field_key : (at : ℕ) (s : List ℕ) (e : State) → from ≤ at → Key e.slots → KeyRead (one_field frame read entry 0 at s e)
    unfolding one_field
    field_key at s e h k = by (next_field s)
      where
        by : (found : FieldResult) → KeyRead (field_by frame read entry 0 at s e found)
        by no_field = k
        by (field_error code) = tt
        by (varint_field n v used) = q (at + used) (drop used s) (set_number (look entry 0 n) v e) (omega arith) (rw (entry_number n v e) k)
        by (fixed64_field n v used) = q (at + used) (drop used s) e (omega arith) k
        by (group_field n used) = q (at + used) (drop used s) e (omega arith) k
        by (fixed32_field n v used) = q (at + used) (drop used s) e (omega arith) k
        by (bytes_field n used size) = inside_key n (at + used) (take size (drop used s)) (drop size (drop used s)) e (omega arith) k

  fields_key : (steps : ℕ) (frame : List ℕ) (at : ℕ) (s : List ℕ) (e : State) → from ≤ at → Key e.slots
      → KeyRead (fields_in steps frame entry 0 at s e)
  unfolding fields_in
  fields_key zero frame at s e h k = k
  fields_key (suc steps) frame at s e h k = field_key frame (fields_in steps frame) (fields_key steps frame) at s e h k

  -- ---- rows: both frames have the same bytes where a key is
  abbrev RowAlike : Row → Type 0
  RowAlike row = Alike row.key row.key_size

  abbrev RowsAlike : State → Type 0
  RowsAlike st = Every RowAlike st.rows

  enter_same : (new : Row) (rows : List Row) → RowAlike new → Every RowAlike rows → enter f new rows ≡ enter g new rows
  unfolding enter
  enter_same new [] n h = refl
  enter_same new (row ∷ rows) n h = rw (h.0, n, enter_same new rows n h.1) refl

  enter_alike : (new : Row) (rows : List Row) → RowAlike new → Every RowAlike rows → Every RowAlike (enter f new rows)
  unfolding enter
  enter_alike new [] n h = (n, tt)
  enter_alike new (row ∷ rows) n h =
      either (Every RowAlike) (same_bytes (part_of f row.key row.key_size) (part_of f new.key new.key_size))
      (h.0, h.1) (h.0, enter_alike new rows n h.1)

  -- ---- a reading of both
  abbrev Kept : Result → Type 0
  Kept (ok st) = RowsAlike st
  Kept (refused code) = Unit {0}

  record Agree (a b : Result) : Type 0 where
    equal : a ≡ b
    kept : Kept a

  agree_then : (a b : Result) (next_f next_g : State → Result) → Agree a b
      → ((st : State) → RowsAlike st → Agree (next_f st) (next_g st)) → Agree (and_then a next_f) (and_then b next_g)
  unfolding and_then
  agree_then a b next_f next_g both q =
      subst (λ (c : Result). Agree (and_then a next_f) (and_then c next_g)) both.equal (by a both.kept)
    where
      by : (c : Result) → Kept c → Agree (and_then c next_f) (and_then c next_g)
      by (ok st) k = q st k
      by (refused code) k = record { equal = refl; kept = tt }

  agree_entry : (st : State) (room : Bool) (o : Result) → KeyRead o → RowsAlike st → Agree (entry_by f st room o) (entry_by g st room o)
  unfolding add_entry
  agree_entry st false o k r = record { equal = refl; kept = tt }
  agree_entry st true (refused code) k r = record { equal = refl; kept = tt }
  agree_entry st true (ok e) k r =
      let key = key_alike e.slots k in
      record {
        equal =
            ap (λ (rows : List Row). ok (record { slots = st.slots; rows = rows; entries = suc st.entries }))
            (enter_same (row_of e) st.rows key r);
        kept = enter_alike (row_of e) st.rows key r;
      }

  module _ (read-f read-g : Reader)
      (q : (sch : Schema) (i at : ℕ) (s : List ℕ) (st : State) → from ≤ at → RowsAlike st
      → Agree (read-f sch i at s st) (read-g sch i at s st))
      (keyed : (at : ℕ) (s : List ℕ) → from ≤ at → KeyRead (read-f entry 0 at s blank)) where
    with_agree : (at : ℕ) (x : List ℕ) (st : State) (t : Target) → from ≤ at → RowsAlike st
        → Agree (with_field f read-f at x st t) (with_field g read-g at x st t)
    unfolding with_field set_bytes set_slot
    with_agree at x st (a_number slot) h r = record { equal = refl; kept = r }
    with_agree at x st unknown h r = record { equal = refl; kept = r }
    with_agree at x st (some_bytes slot) h r = record { equal = refl; kept = r }
    with_agree at x st (a_message slot inner) h r = q inner (slot + 1) at x (set_slot slot 1 st) h r
    with_agree at x st an_entry h r =
        let room = ltb st.entries 64 in
        let o = read-f entry 0 at x blank in
        subst (λ (p : Result). Agree (entry_by f st room o) (entry_by g st room p)) (q entry 0 at x blank h tt).equal
        (agree_entry st room o (keyed at x h) r)

    field_agree : (sch : Schema) (i at : ℕ) (s : List ℕ) (st : State) → from ≤ at → RowsAlike st
        → Agree (one_field f read-f sch i at s st) (one_field g read-g sch i at s st)
    unfolding one_field inside
    field_agree sch i at s st h r = by (next_field s)
      where
        by : (found : FieldResult) → Agree (field_by f read-f sch i at s st found) (field_by g read-g sch i at s st found)
        by no_field = record { equal = refl; kept = r }
        by (field_error code) = record { equal = refl; kept = tt }
        by (varint_field n v used) =
            let t = look sch i n in
            q sch i (at + used) (drop used s) (set_number t v st) (omega arith) (subst (Every RowAlike) (sym (number_rows t v st)) r)
        by (fixed64_field n v used) = q sch i (at + used) (drop used s) st (omega arith) r
        by (group_field n used) = q sch i (at + used) (drop used s) st (omega arith) r
        by (fixed32_field n v used) = q sch i (at + used) (drop used s) st (omega arith) r
        by (bytes_field n used size) =
            let x = take size (drop used s) in
            let after = at + used + length x in
            let rest = drop size (drop used s) in
            agree_then (with_field f read-f (at + used) x st (look sch i n)) (with_field g read-g (at + used) x st (look sch i n))
            (read-f sch i after rest) (read-g sch i after rest) (with_agree (at + used) x st (look sch i n) (omega arith) r)
            (λ mid k. q sch i after rest mid (omega arith) k)

  fields_agree : (steps : ℕ) (sch : Schema) (i at : ℕ) (s : List ℕ) (st : State) → from ≤ at → RowsAlike st
      → Agree (fields_in steps f sch i at s st) (fields_in steps g sch i at s st)
  unfolding fields_in
  fields_agree zero sch i at s st h r = record { equal = refl; kept = r }
  fields_agree (suc steps) sch i at s st h r =
      field_agree (fields_in steps f) (fields_in steps g) (fields_agree steps) (λ at s h. fields_key steps f at s blank h refl)
      sch i at s st h r

  pub message_same : (sch : Schema) (at : ℕ) (s : List ℕ) → from ≤ at → read_message f sch at s ≡ read_message g sch at s
  unfolding read_message
  message_same sch at s h = (fields_agree (length s) sch 0 at s blank h tt).equal
