-- What a reading found lies within the frame: byte fields, and the keys and values of rows.
use Prim.Native.Nat.{ℕ, ◌+◌, ◌<◌, ◌≤◌}
use mathlib.Core.Path.{◌≡◌, refl, sym, subst, ◌∙◌}
use mathlib.Core.Logic.{inl, inr}
use mathlib.Core.Bool.{Bool, true, false, cond}
use mathlib.Core.List.{List, [], ◌∷◌}
use lib.ListN.{length, get_or, set, length-set}
use lib.Seq.{get_or-set_same, get_or-set_other}
use lib.Dec.{eqb}
use native.Mathlib.Omega.{arith}
use borrow.Author.Tests.{eqb-true, eqb-false}
use Rattle.laws.proofs.Booleans.{either}
use Rattle.schema.specs.Schema.{Schema, done, number, bytes, map, message, width, entry}
use Rattle.decoder.specs.Rows.{Row}
use Rattle.decoder.specs.Fields.{State, blank, set_slot, set_bytes, set_number, part_of, same_bytes, enter, row_of, add_entry}
use Rattle.schema.specs.Targets.{Target, a_number, some_bytes, an_entry, a_message, unknown, look}
use Rattle.refusals.specs.Grounds.{Every}
use Rattle.thm_round_trip.specs.Lies.{Lies, RowLies, SpansLie}
use Rattle.decoder.proofs.ReadingSteps.{Steps, ends, takes_number, takes_bytes, takes_entry, takes_message}
use Rattle.decoder.proofs.SlotChanges.{Only, low, high, Within, look_within, only_field, bytes_only, number_only, message_only, only_set}
use Rattle.decoder.proofs.SlotChanges.{steps_only, number_rows, number_long, bytes_long, slot_long, steps_long}

module _ (most : ℕ) where
  lies_same : (a b : List ℕ) (i : ℕ) → get_or b i 0 ≡ get_or a i 0 → get_or b (i + 1) 0 ≡ get_or a (i + 1) 0
      → Lies most (get_or a i 0) (get_or a (i + 1) 0) → Lies most (get_or b i 0) (get_or b (i + 1) 0)
  lies_same a b i e f h = rw (e, f) h

  -- where a schema's spans lie is seen from its own slots
  spans_same : (sch : Schema) (i : ℕ) (a b : List ℕ) → ((j : ℕ) → i ≤ j → j < i + width sch → get_or b j 0 ≡ get_or a j 0)
      → SpansLie most sch i a → SpansLie most sch i b
  unfolding width
  spans_same done i a b h p = tt
  spans_same (number type n name more) i a b h p = spans_same more (i + 1) a b (λ j l u. h j (omega arith) (omega arith)) p
  spans_same (bytes n name more) i a b h p = (
    lies_same a b i (h i (omega arith) (omega arith)) (h (i + 1) (omega arith) (omega arith)) p.0,
    spans_same more (i + 2) a b (λ j l u. h j (omega arith) (omega arith)) p.1,
  )
  spans_same (map n name more) i a b h p = spans_same more i a b h p
  spans_same (message n name inner more) i a b h p = (
    spans_same inner (i + 1) a b (λ j l u. h j (omega arith) (omega arith)) p.0,
    spans_same more (i + 1 + width inner) a b (λ j l u. h j (omega arith) (omega arith)) p.1,
  )

  -- the spans of one field
  abbrev SpansAt : Target → List ℕ → Type 0
  SpansAt (a_number slot) l = Unit {0}
  SpansAt (some_bytes slot) l = Lies most (get_or l slot 0) (get_or l (slot + 1) 0)
  SpansAt an_entry l = Unit {0}
  SpansAt (a_message slot inner) l = SpansLie most inner (slot + 1) l
  SpansAt unknown l = Unit {0}

  spans_at : (sch : Schema) (i n : ℕ) (l : List ℕ) → SpansLie most sch i l → SpansAt (look sch i n) l
  unfolding look
  spans_at done i n l h = tt
  spans_at (number type m name more) i n l h = either (λ (t : Target). SpansAt t l) (eqb m n) tt (spans_at more (i + 1) n l h)
  spans_at (bytes m name more) i n l h = either (λ (t : Target). SpansAt t l) (eqb m n) h.0 (spans_at more (i + 2) n l h.1)
  spans_at (map m name more) i n l h = either (λ (t : Target). SpansAt t l) (eqb m n) tt (spans_at more i n l h)
  spans_at (message m name inner more) i n l h =
      either (λ (t : Target). SpansAt t l) (eqb m n) h.0 (spans_at more (i + 1 + width inner) n l h.1)

  -- a change of one field
  module _ (a b : List ℕ) where
    abbrev Changes : Target → Type 0
    Changes t = Only (low t) (high t) a b × SpansAt t b

    abbrev Goes : Schema → (i : ℕ) → Type 0
    Goes sch i = SpansLie most sch i a → SpansLie most sch i b

    spans_change : (sch : Schema) (i n : ℕ) → Changes (look sch i n) → Goes sch i
    unfolding look
    spans_change done i n = λ c h. tt
    spans_change (number type m name more) i n =
        either (λ (t : Target). Changes t → Goes more (i + 1)) (eqb m n) first (spans_change more (i + 1) n)
      where
        first : Changes (a_number i) → Goes more (i + 1)
        first c = spans_same more (i + 1) a b (λ j l u. c.0 j (inr l))
    spans_change (bytes m name more) i n =
        either (λ (t : Target). Changes t → Goes (bytes m name more) i) (eqb m n) first
        (later (spans_change more (i + 2) n) (look_within more (i + 2) n))
      where
        first : Changes (some_bytes i) → Goes (bytes m name more) i
        first c h = (c.1, spans_same more (i + 2) a b (λ j l u. c.0 j (inr l)) h.1)

        later : (Changes (look more (i + 2) n) → Goes more (i + 2)) → Within (i + 2) (i + 2 + width more) (look more (i + 2) n)
            → Changes (look more (i + 2) n) → Goes (bytes m name more) i
        later go w c h =
            let only = only_field (look more (i + 2) n) (i + 2) (i + 2 + width more) a b w c.0 in
            (lies_same a b i (only i (inl (omega arith))) (only (i + 1) (inl (omega arith))) h.0, go c h.1)
    spans_change (map m name more) i n = either (λ (t : Target). Changes t → Goes more i) (eqb m n) first (spans_change more i n)
      where
        first : Changes an_entry → Goes more i
        first c = spans_same more i a b (λ j l u. c.0 j (inr (omega arith)))
    spans_change (message m name inner more) i n =
        either (λ (t : Target). Changes t → Goes (message m name inner more) i) (eqb m n) first
        (later (spans_change more (i + 1 + width inner) n) (look_within more (i + 1 + width inner) n))
      where
        first : Changes (a_message i inner) → Goes (message m name inner more) i
        first c h = (c.1, spans_same more (i + 1 + width inner) a b (λ j l u. c.0 j (inr l)) h.1)

        later : (Changes (look more (i + 1 + width inner) n) → Goes more (i + 1 + width inner))
            → Within (i + 1 + width inner) (i + 1 + width inner + width more) (look more (i + 1 + width inner) n)
            → Changes (look more (i + 1 + width inner) n) → Goes (message m name inner more) i
        later go w c h =
            let only = only_field (look more (i + 1 + width inner) n) (i + 1 + width inner) (i + 1 + width inner + width more) a b w
            c.0 in
            (spans_same inner (i + 1) a b (λ j l u. only j (inl u)) h.0, go c h.1)

-- ---- a reading
module _ (frame : List ℕ) where
  abbrev most : ℕ
  most = length frame

  number_spans : (t : Target) (v : ℕ) (st : State) → SpansAt most t st.slots → SpansAt most t (set_number t v st).slots
  unfolding set_number
  number_spans (a_number slot) v st h = tt
  number_spans (some_bytes slot) v st h = h
  number_spans an_entry v st h = tt
  number_spans (a_message slot inner) v st h = h
  number_spans unknown v st h = tt

  start_lies : (at size : ℕ) → at + size ≤ most → Lies most (cond (eqb size 0) 0 at) size
  start_lies at size l = by (eqb size 0) refl
    where
      by : (c : Bool) → eqb size 0 ≡ c → Lies most (cond c 0 at) size
      by true e = let z = eqb-true size 0 e in record { within = omega arith; empty = λ n. refl }
      by false e = record { within = omega arith; empty = λ n. absurd (eqb-false size 0 e (omega (arith, n))) }

  bytes_spans : (slot at size : ℕ) (st : State) → slot + 2 ≤ length st.slots → at + size ≤ most
      → SpansAt most (some_bytes slot) (set_bytes slot at size st).slots
  unfolding set_bytes set_slot
  bytes_spans slot at size st room l =
      let a = st.slots in
      let start = cond (eqb size 0) 0 at in
      let long = length-set a slot start in
      let x : get_or (set (set a slot start) (slot + 1) size) slot 0 ≡ start =
      get_or-set_other (set a slot start) (slot + 1) slot size 0 (λ (e : slot ≡ slot + 1). omega arith)
      ∙ get_or-set_same a slot start 0 (omega arith) in
      let y : get_or (set (set a slot start) (slot + 1) size) (slot + 1) 0
      ≡ size = get_or-set_same (set a slot start) (slot + 1) size 0 (omega arith) in
      rw (x, y) (start_lies at size l)

  -- the mark of a message is none of its spans
  marked_spans : (slot : ℕ) (inner : Schema) (st : State) → SpansLie most inner (slot + 1) st.slots
      → SpansLie most inner (slot + 1) (set_slot slot 1 st).slots
  unfolding set_slot
  marked_spans slot inner st h =
      spans_same most inner (slot + 1) st.slots (set st.slots slot 1) (λ j l u. only_set st.slots slot 1 j (inr l)) h

  pub steps_spans : (sch : Schema) (i : ℕ) (st to : State) → Steps frame sch i st to → i + width sch ≤ length st.slots
      → SpansLie most sch i st.slots → SpansLie most sch i to.slots
  unfolding add_entry
  steps_spans sch i st to ends room h = h
  steps_spans sch i st to (takes_number n v more) room h =
      let t = look sch i n in
      steps_spans sch i (set_number t v st) to more (rw (number_long frame t v st) room)
      (spans_change most st.slots (set_number t v st).slots sch i n
      (number_only t v st, number_spans t v st (spans_at most sch i n st.slots h)) h)
  steps_spans sch i st to (takes_bytes n slot at size e l more) room h =
      let w = subst (Within i (i + width sch)) e (look_within sch i n) in
      steps_spans sch i (set_bytes slot at size st) to more (rw (bytes_long frame slot at size st) room)
      (spans_change most st.slots (set_bytes slot at size st).slots sch i n
      (rw e (bytes_only slot at size st, bytes_spans slot at size st (omega arith) (omega arith))) h)
  steps_spans sch i st to (takes_entry n x e few inside more) room h = steps_spans sch i (add_entry frame x st) to more room h
  steps_spans sch i st to (takes_message n slot inner mid e inside more) room h =
      let w = subst (Within i (i + width sch)) e (look_within sch i n) in
      let part : SpansLie most inner (slot + 1) st.slots = subst (λ (t : Target). SpansAt most t st.slots) e
      (spans_at most sch i n st.slots h) in
      let long : slot + 1 + width inner ≤ length (set_slot slot 1 st).slots = rw (slot_long frame slot 1 st) (omega arith) in
      let marked = marked_spans slot inner st part in
      let in_part = steps_spans inner (slot + 1) (set_slot slot 1 st) mid inside long marked in
      let only = message_only frame slot inner st mid (steps_only frame inner (slot + 1) (set_slot slot 1 st) mid inside) in
      let same = steps_long frame inner (slot + 1) (set_slot slot 1 st) mid inside ∙ slot_long frame slot 1 st in
      steps_spans sch i mid to more (rw same room) (spans_change most st.slots mid.slots sch i n (rw e (only, in_part)) h)

  -- ---- rows: a row keeps its key, and takes the value of an entry
  enter_lies : (new : Row) (rows : List Row) → RowLies most new → Every (RowLies most) rows → Every (RowLies most) (enter frame new rows)
  unfolding enter
  enter_lies new [] n h = (n, tt)
  enter_lies new (row ∷ rows) n h =
      either (Every (RowLies most)) (same_bytes (part_of frame row.key row.key_size) (part_of frame new.key new.key_size))
      ((h.0.0, n.1), h.1) (h.0, enter_lies new rows n h.1)

  pub none_lies : Lies most 0 0
  none_lies = record { within = omega arith; empty = λ e. refl }

  entry_lies : (e : State) → Steps frame entry 0 blank e → RowLies most (row_of e)
  unfolding width
  entry_lies e s = let h = steps_spans entry 0 blank e s (omega arith) (none_lies, (none_lies, tt)) in (h.0, h.1.0)

  pub steps_rows : (sch : Schema) (i : ℕ) (st to : State) → Steps frame sch i st to → Every (RowLies most) st.rows
      → Every (RowLies most) to.rows
  unfolding add_entry set_bytes set_slot
  steps_rows sch i st to ends h = h
  steps_rows sch i st to (takes_number n v more) h =
      steps_rows sch i (set_number (look sch i n) v st) to more (subst (Every (RowLies most)) (sym (number_rows (look sch i n) v st)) h)
  steps_rows sch i st to (takes_bytes n slot at size e l more) h = steps_rows sch i (set_bytes slot at size st) to more h
  steps_rows sch i st to (takes_entry n x e few inside more) h =
      steps_rows sch i (add_entry frame x st) to more (enter_lies (row_of x) st.rows (entry_lies x inside) h)
  steps_rows sch i st to (takes_message n slot inner mid e inside more) h =
      steps_rows sch i mid to more (steps_rows inner (slot + 1) (set_slot slot 1 st) mid inside h)
