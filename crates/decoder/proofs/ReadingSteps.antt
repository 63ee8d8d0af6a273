-- A reading as the steps that it takes: what fields of a schema, whose first slot is i, made of a state. Every reading that is not
-- refused is a sequence of steps, so a property of every reading is an induction over them, and needs nothing of varints, tags or bytes
-- that are skipped.
use Prim.Native.Nat.{ℕ, zero, suc, ◌+◌, ◌<◌, ◌≤◌}
use mathlib.Core.Path.{◌≡◌, refl, sym, subst}
use mathlib.Core.Bool.{Bool, true, false}
use mathlib.Core.List.{List}
use lib.ListN.{length, take, drop, length-take, length-drop}
use lib.Dec.{ltb}
use native.Mathlib.Omega.{arith}
use borrow.Author.Tests.{ltb-true}
use Rattle.wire_read.specs.Fields.{FieldResult, no_field, varint_field, fixed64_field, bytes_field}
use Rattle.wire_read.specs.Fields.{group_field, fixed32_field, field_error, next_field}
use Rattle.wire_read.proofs.Bounds.{FieldIn, next_field_in}
use Rattle.schema.specs.Schema.{Schema, entry}
use Rattle.decoder.specs.Fields.{State, Result, ok, refused, blank, Reader, set_slot, set_bytes}
use Rattle.decoder.specs.Fields.{set_number, add_entry, with_field, and_then, inside, one_field, fields_in, read_message}
use Rattle.schema.specs.Targets.{Target, a_number, some_bytes, an_entry, a_message, unknown, look}

pub data Steps (frame : List ℕ) : Schema → (i : ℕ) → (before after : State) → Type 0 where
  -- no field is left
  ends : {sch : Schema} {i : ℕ} {st : State} → Steps frame sch i st st
  -- a number in field n
  takes_number : {sch : Schema} {i : ℕ} {st to : State} (n v : ℕ) → Steps frame sch i (set_number (look sch i n) v st) to
      → Steps frame sch i st to
  -- bytes of the frame in field n
  takes_bytes : {sch : Schema} {i : ℕ} {st to : State} (n slot at size : ℕ) → look sch i n ≡ some_bytes slot → at + size ≤ length frame
      → Steps frame sch i (set_bytes slot at size st) to → Steps frame sch i st to
  -- a map entry
  takes_entry : {sch : Schema} {i : ℕ} {st to : State} (n : ℕ) (e : State) → look sch i n ≡ an_entry → st.entries < 64
      → Steps frame entry 0 blank e
      → Steps frame sch i (add_entry frame e st) to → Steps frame sch i st to
  -- a message of its own, which starts at its present mark
  takes_message : {sch : Schema} {i : ℕ} {st to : State} (n slot : ℕ) (inner : Schema) (mid : State) → look sch i n ≡ a_message slot inner
      → Steps frame inner (slot + 1) (set_slot slot 1 st) mid → Steps frame sch i mid to → Steps frame sch i st to

-- ---- every reading
module _ (frame : List ℕ) where
  -- a result that was reached by steps
  abbrev pub Came : Schema → (i : ℕ) → State → Result → Type 0
  Came sch i st (ok to) = Steps frame sch i st to
  Came sch i st (refused code) = Unit {0}

  -- what follows the result of a field
  abbrev Leads : Schema → (i : ℕ) → State → Result → Type 0
  Leads sch i st (ok mid) = (to : State) → Steps frame sch i mid to → Steps frame sch i st to
  Leads sch i st (refused code) = Unit {0}

  then_came : (sch : Schema) (i : ℕ) (st : State) (o : Result) (next : State → Result)
      → Leads sch i st o → ((mid : State) → Came sch i mid (next mid)) → Came sch i st (and_then o next)
  unfolding and_then
  then_came sch i st (refused code) next h q = tt
  then_came sch i st (ok mid) next h q = by (next mid) (q mid)
    where
      by : (o : Result) → Came sch i mid o → Came sch i st o
      by (ok to) s = h to s
      by (refused code) s = tt

  module _ (read : Reader) (q : (sch : Schema) (i at : ℕ) (s : List ℕ) (st : State) → at + length s ≤ length frame
      → Came sch i st (read sch i at s st)) where
    with_leads : (sch : Schema) (i n at : ℕ) (x : List ℕ) (st : State) (t : Target) → look sch i n ≡ t → at + length x ≤ length frame
        → Leads sch i st (with_field frame read at x st t)
    unfolding with_field
    with_leads sch i n at x st (a_number slot) e l = λ to s. s
    with_leads sch i n at x st unknown e l = λ to s. s
    with_leads sch i n at x st (some_bytes slot) e l = λ to s. takes_bytes n slot at (length x) e (omega arith) s
    with_leads sch i n at x st (a_message slot inner) e l =
        by (read inner (slot + 1) at x (set_slot slot 1 st)) (q inner (slot + 1) at x (set_slot slot 1 st) l)
      where
        by : (o : Result) → Came inner (slot + 1) (set_slot slot 1 st) o → Leads sch i st o
        by (ok mid) h = λ to s. takes_message n slot inner mid e h s
        by (refused code) h = tt
    with_leads sch i n at x st an_entry e l = by (ltb st.entries 64) refl (read entry 0 at x blank) refl (q entry 0 at x blank l)
      where
        by : (b : Bool) → ltb st.entries 64 ≡ b → (o : Result) → read entry 0 at x blank ≡ o
            → Came entry 0 blank (read entry 0 at x blank)
            → Leads sch i st (with_field frame read at x st an_entry)
        by false f o p g = let z : with_field frame read at x st an_entry ≡ refused 14 = cc in subst (Leads sch i st) (sym z) tt
        by true f (refused code) p g = let z : with_field frame read at x st an_entry ≡ refused code = cc in subst (Leads sch i st) (sym z) tt
        by true f (ok s) p g =
            let z : with_field frame read at x st an_entry ≡ ok (add_entry frame s st) = cc in
            let h : Steps frame entry 0 blank s = subst (Came entry 0 blank) p g in
            let room = ltb-true st.entries 64 f in
            subst (Leads sch i st) (sym z) (λ to later. takes_entry n s e room h later)

    field_came : (sch : Schema) (i at : ℕ) (s : List ℕ) (st : State) → at + length s ≤ length frame
        → Came sch i st (one_field frame read sch i at s st)
    unfolding one_field inside
    field_came sch i at s st l = by (next_field s) refl (next_field_in s)
      where
        skipped : (used : ℕ) → used ≤ length s → Came sch i st (read sch i (at + used) (drop used s) st)
        skipped used h = q sch i (at + used) (drop used s) st (omega (arith, length-drop used s))

        numbered : (n v used : ℕ) (o : Result) → Came sch i (set_number (look sch i n) v st) o → Came sch i st o
        numbered n v used (ok to) h = takes_number n v h
        numbered n v used (refused code) h = tt

        by : (f : FieldResult) → next_field s ≡ f → FieldIn s f → Came sch i st (one_field frame read sch i at s st)
        by no_field e b = let z : one_field frame read sch i at s st ≡ ok st = cc in subst (Came sch i st) (sym z) ends
        by (field_error code) e b = let z : one_field frame read sch i at s st ≡ refused code = cc in subst (Came sch i st) (sym z) tt
        by (varint_field n v used) e b =
            let z : one_field frame read sch i at s st ≡ read sch i (at + used) (drop used s) (set_number (look sch i n) v st) = cc in
            subst (Came sch i st) (sym z)
            (numbered n v used (read sch i (at + used) (drop used s) (set_number (look sch i n) v st))
            (q sch i (at + used) (drop used s) (set_number (look sch i n) v st) (omega (arith, length-drop used s))))
        by (fixed64_field n v used) e b =
            let z : one_field frame read sch i at s st
            ≡ read sch i (at + used) (drop used s) st = cc in subst (Came sch i st) (sym z) (skipped used b.1)
        by (group_field n used) e b =
            let z : one_field frame read sch i at s st
            ≡ read sch i (at + used) (drop used s) st = cc in subst (Came sch i st) (sym z) (skipped used b.1)
        by (fixed32_field n v used) e b =
            let z : one_field frame read sch i at s st
            ≡ read sch i (at + used) (drop used s) st = cc in subst (Came sch i st) (sym z) (skipped used b.1)
        by (bytes_field n used size) e b =
            let x = take size (drop used s) in
            let rest = drop size (drop used s) in
            let z : one_field frame read sch i at s st
            ≡ inside frame read sch i (at + used) (take size (drop used s)) (drop size (drop used s)) st (look sch i n) = cc in
            let m = length-take size (drop used s) in
            let k = length-drop used s in
            let r = length-drop size (drop used s) in
            let here : at + used + length (take size (drop used s)) ≤ length frame = omega arith in
            let there : at + used + length (take size (drop used s)) + length (drop size (drop used s)) ≤ length frame = omega arith in
            subst (Came sch i st) (sym z)
            (then_came sch i st (with_field frame read (at + used) x st (look sch i n)) (read sch i (at + used + length x) rest)
            (with_leads sch i n (at + used) x st (look sch i n) refl here) (λ mid. q sch i (at + used + length x) rest mid there))

  fields_came : (steps : ℕ) (sch : Schema) (i at : ℕ) (s : List ℕ) (st : State) → at + length s ≤ length frame
      → Came sch i st (fields_in steps frame sch i at s st)
  unfolding fields_in
  fields_came zero sch i at s st l = ends
  fields_came (suc steps) sch i at s st l = field_came (fields_in steps frame) (fields_came steps) sch i at s st l

  pub message_came : (sch : Schema) (at : ℕ) (s : List ℕ) → at + length s ≤ length frame → Came sch 0 blank (read_message frame sch at s)
  unfolding read_message
  message_came sch at s l = fields_came (length s) sch 0 at s blank l

  pub reads_by_steps : (sch : Schema) (at : ℕ) (s : List ℕ) (st : State) → at + length s ≤ length frame → read_message frame sch at s
      ≡ ok st → Steps frame sch 0 blank st
  reads_by_steps sch at s st l e = subst (Came sch 0 blank) e (message_came sch at s l)
