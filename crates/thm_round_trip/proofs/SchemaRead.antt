-- All that is written for a schema is read, and its values are where `Landing` says: one induction over the schema, for a message, a part
-- and any rest of either.
use Prim.Native.Nat.{ℕ, ◌+◌, ◌^◌, ◌<◌, ◌≤◌}
use Prim.Native.String.{String}
use mathlib.Core.Path.{◌≡◌, refl, sym, ap, ◌∙◌}
use mathlib.Core.Bool.{Bool, true, false, cond}
use mathlib.Core.List.{List, [], ◌∷◌, ◌++◌, append_assoc, append-nil}
use lib.ListN.{length, get_or, length-append, replicate-append-replicate}
use lib.Seq.{set_at}
use lib.Dec.{eqb}
use native.Mathlib.Omega.{arith}
use native.Mathlib.Nat.{add-zero}
use borrow.Author.Tests.{eq-eqb, ne_eqb, eqb-true}
use Rattle.wire_write.specs.Writing.{put_bytes}
use Rattle.schema.specs.Schema.{Integer, uint32, int32, Schema, done, number, bytes, map, message, width}
use Rattle.decoder.specs.Rows.{Row}
use Rattle.decoder.specs.Fields.{State, set_slot, start_of, with_field, fields_in}
use Rattle.schema.specs.Targets.{Target, a_number, some_bytes, an_entry, a_message, look}
use Rattle.writer.specs.Encoding.{put_number, put_some, put_rows, put_fields}
use Rattle.writer_checks.specs.Grounds.{keys_differ}
use Rattle.message.specs.Meaning.{Said, unsigned, signed, present, text}
use Rattle.thm_round_trip.specs.InRange.{InRange}
use Rattle.thm_round_trip.proofs.Said.{said_in}
use Rattle.thm_round_trip.proofs.Formed.{Formed}
use Rattle.thm_round_trip.proofs.Written.{reads, head_size, length_bytes, bytes_step}
use Rattle.thm_round_trip.proofs.Landing.{zeros, number_at, rows_at, put, put_part, text_at, slots_at, entries_at, part_slots, part_entries}
use Rattle.thm_round_trip.proofs.Landing.{length_part}
use Rattle.thm_round_trip.proofs.Keys.{differ_first}
use Rattle.thm_round_trip.proofs.FieldsRead.{state, Fits, join, number_read, text_read, rows_read}

-- the whole schema has the fields above m that the rest of it has, whose first slot is j
abbrev Agree : (whole : Schema) (k : ℕ) (rest : Schema) (j m : ℕ) → Type 0
Agree whole k rest j m = (n : ℕ) → m < n → look whole k n ≡ look rest j n

module _ (whole : Schema) (k m n : ℕ) (above : m < n) (target : Target) (more : Schema) (j : ℕ)
    (agree : (n' : ℕ) → m < n' → look whole k n' ≡ cond (eqb n n') target (look more j n')) where
  found : look whole k n ≡ target
  found = agree n above ∙ rw (eq-eqb n n refl)

  others : Agree whole k more j n
  others n' h = agree n' (omega arith) ∙ rw (ne_eqb n n' (λ (e : n ≡ n'). omega arith))

-- the numbers of a schema, and of what is left of it
in_range_split : (a b : List Said) → InRange (a ++ b) → InRange a × InRange b
in_range_split [] b h = (tt, h)
in_range_split (unsigned n ∷ a) b h = let r = in_range_split a b h.1 in ((h.0, r.0), r.1)
in_range_split (signed z ∷ a) b h = let r = in_range_split a b h.1 in ((h.0, r.0), r.1)
in_range_split (present m ∷ a) b h = in_range_split a b h
in_range_split (text x ∷ a) b h = in_range_split a b h

number_fits : (source slots : List ℕ) (type : Integer) (n : ℕ) (name : String) (more : Schema) (i : ℕ)
    → InRange (said_in source (number type n name more) i slots) → Fits type (get_or slots i 0) × InRange (said_in source more (i + 1) slots)
unfolding said_in
number_fits source slots uint32 n name more i h = h
number_fits source slots int32 n name more i h = (tt, h.1)

some_long : (n : ℕ) (x : List ℕ) → length x ≤ length (put_some n x)
unfolding put_some
some_long n x = by (eqb (length x) 0) refl
  where
    by : (b : Bool) → eqb (length x) 0 ≡ b → length x ≤ length (cond b [] (put_bytes n x))
    by true e = omega (arith, eqb-true (length x) 0 e)
    by false e = omega (arith, length_bytes n x)

module _ (frame source : List ℕ) (rows : List Row) (slots : List ℕ) where
  abbrev written : Schema → (i : ℕ) → List ℕ
  written sch i = put source rows slots sch i

  abbrev landed : Schema → (i at : ℕ) → List ℕ
  landed sch i at = slots_at source rows slots sch i at

  abbrev entries : Schema → (i at : ℕ) → List Row
  entries sch i at = entries_at source rows slots sch i at

  -- What is written of the slots from i on is read, whatever follows it, into the slots from j on, which were zeros, and after the rows t.
  abbrev SchemaReads : Schema → Type 0
  SchemaReads sch =
      (whole : Schema) (k m : ℕ) → Formed m sch
      → (p : List ℕ) (j : ℕ) → length p ≡ j → Agree whole k sch j m
      → (i at : ℕ) → InRange (said_in source sch i slots)
      → (q rest : List ℕ) (t : List Row) (e : ℕ)
      → length (written sch i) < 2 ^ 64 → e + length (entries sch i at) ≤ 64 → keys_differ frame (t ++ entries sch i at) ≡ true
      → reads frame whole k at (written sch i ++ rest) (state (p ++ (zeros (width sch) ++ q)) t e)
      ≡ reads frame whole k (at + length (written sch i)) rest
      (state (p ++ (landed sch i at ++ q)) (t ++ entries sch i at) (e + length (entries sch i at)))

  -- after a first field x, which gave the slots `own` and the rows `new`
  module _ (whole : Schema) (k n : ℕ) (more : Schema) (go : SchemaReads more) (up : Formed n more) (p own : List ℕ) (j : ℕ)
      (next : length p + length own ≡ j) (agree : Agree whole k more j n) (i at : ℕ)
      (fits : InRange (said_in source more i slots)) (x q rest : List ℕ) (before : State) (t new : List Row) (e : ℕ) where
    abbrev later : List Row
    later = entries more i (at + length x)

    onward : length (x ++ written more i) < 2 ^ 64 → e + length (new ++ later) ≤ 64 → keys_differ frame (t ++ (new ++ later)) ≡ true
        → reads frame whole k at (x ++ (written more i ++ rest)) before
        ≡ reads frame whole k (at + length x) (written more i ++ rest)
        (state (p ++ (own ++ (zeros (width more) ++ q))) (t ++ new) (e + length new))
        → reads frame whole k at ((x ++ written more i) ++ rest) before
        ≡ reads frame whole k (at + length (x ++ written more i)) rest
        (state (p ++ (own ++ (landed more i (at + length x) ++ q))) (t ++ (new ++ later)) (e + length (new ++ later)))
    onward small few differ first =
        let y = written more i in
        let size = length-append x y in
        let count = length-append new later in
        let there : length (p ++ own) ≡ j = length-append p own ∙ next in
        let sum : e + length new + length later ≡ e + length (new ++ later) = omega arith in
        let rest_read =
        go whole k n up (p ++ own) j there agree i (at + length x) fits q rest (t ++ new) (e + length new) (omega arith) (omega arith)
        (rw (append_assoc t new later) differ) in
        join frame whole k at x y rest before _ _ first
        (rw (
          append_assoc p own (zeros (width more) ++ q),
          append_assoc p own
              (landed more i (at + length x) ++ q),
          append_assoc t new later,
          sum,
        ) at rest_read)

  -- ---- a part
  module _ (whole : Schema) (k n : ℕ) (some : 0 < n) (high : n < 2 ^ 29) (inner : Schema) (go : SchemaReads inner) (up : Formed 0 inner)
      (p : List ℕ) (j : ℕ) (is_j : length p ≡ j) (l : look whole k n ≡ a_message j inner) (i at : ℕ)
      (fits : InRange (said_in source inner (i + 1) slots)) (q rest : List ℕ) (t : List Row) (e : ℕ) where
    abbrev x : List ℕ
    x = written inner (i + 1)

    abbrev inside : ℕ
    inside = at + head_size n x

    present_read : length (put_bytes n x) < 2 ^ 64 → e + length (entries inner (i + 1) inside) ≤ 64
        → keys_differ frame (t ++ entries inner (i + 1) inside) ≡ true
        → reads frame whole k at (put_bytes n x ++ rest) (state (p ++ (0 ∷ (zeros (width inner) ++ q))) t e)
        ≡ reads frame whole k (at + length (put_bytes n x)) rest
        (state (p ++ (1 ∷ (landed inner (i + 1) inside ++ q))) (t ++ entries inner (i + 1) inside)
        (e + length (entries inner (i + 1) inside)))
    unfolding with_field set_slot fields_in
    present_read small few differ =
        let size = length_bytes n x in
        let there : length (p ++ (1 ∷ [])) ≡ j + 1 = length-append p (1 ∷ []) ∙ omega arith in
        let read = go inner (j + 1) 0 up (p ++ (1 ∷ [])) (j + 1) there (λ (n : ℕ) (h : 0 < n). refl) (i + 1) inside fits q [] t e
        (omega arith) few differ in
        bytes_step frame whole k at n _ some high x rest _ (omega arith)
        (rw (l, set_at p 0 (zeros (width inner) ++ q) 1 j is_j)
        (rw (
          append-nil x,
          append_assoc p (1 ∷ []) (zeros (width inner) ++ q),
          append_assoc p (1 ∷ [])
              (landed inner (i + 1) inside ++ q),
        ) at read))

    part_read : (b : Bool)
        → let w = cond b [] (put_bytes n x) in
        let new = cond b [] (entries inner (i + 1) inside) in
        length w < 2 ^ 64 → e + length new ≤ 64 → keys_differ frame (t ++ new) ≡ true
        → reads frame whole k at (w ++ rest) (state (p ++ (0 ∷ (zeros (width inner) ++ q))) t e)
        ≡ reads frame whole k (at + length w) rest
        (state (p ++ (cond b 0 1 ∷ (cond b (zeros (width inner)) (landed inner (i + 1) inside) ++ q))) (t ++ new) (e + length new))
    part_read true small few differ = rw (add-zero at, append-nil t, add-zero e)
    part_read false small few differ = present_read small few differ

  -- ---- each constructor
  read_done : SchemaReads done
  unfolding put_fields width slots_at entries_at
  read_done whole k m up p j is_j agree i at fits q rest t e small few differ = rw (add-zero at, append-nil t, add-zero e)

  read_number : (type : Integer) (n : ℕ) (name : String) (more : Schema) → SchemaReads more → SchemaReads (number type n name more)
  unfolding put_fields width slots_at entries_at look
  read_number type n name more go whole k m up p j is_j agree i at fits q rest t e small few differ =
      let v = get_or slots i 0 in
      let x = put_number type n v in
      let number = number_fits source slots type n name more i fits in
      onward whole k n more go up.1 p (number_at type v ∷ []) (j + 1) (omega arith)
      (others whole k m n up.0.0 (a_number j) more (j + 1) agree) (i + 1) at number.1 x q rest _ t [] e
      small few differ
      (rw (append-nil t, add-zero e)
      (number_read frame whole k n at (omega arith) up.0.1 type v j p (zeros (width more) ++ q) (written more (i + 1) ++ rest) t e
      number.0 is_j
      (found whole k m n up.0.0 (a_number j) more (j + 1) agree)))

  read_bytes : (n : ℕ) (name : String) (more : Schema) → SchemaReads more → SchemaReads (bytes n name more)
  unfolding put_fields width slots_at entries_at look said_in
  read_bytes n name more go whole k m up p j is_j agree i at fits q rest t e small few differ =
      let text = text_at source rows slots i in
      let x = put_some n text in
      let own = start_of (at + head_size n text) (length text) ∷ length text ∷ [] in
      onward whole k n more go up.1 p own (j + 2) (omega arith)
      (others whole k m n up.0.0 (some_bytes j) more (j + 2) agree) (i + 2) at fits x q rest _ t [] e
      small few differ
      (rw (append-nil t, add-zero e)
      (text_read frame whole k n at (omega arith) up.0.1 text j p (zeros (width more) ++ q) (written more (i + 2) ++ rest) t e
      (omega (arith, some_long n text, length-append x (written more (i + 2)))) is_j
      (found whole k m n up.0.0 (some_bytes j) more (j + 2) agree)))

  read_map : (n : ℕ) (name : String) (more : Schema) → SchemaReads more → SchemaReads (map n name more)
  unfolding put_fields width slots_at entries_at look said_in
  read_map n name more go whole k m up p j is_j agree i at fits q rest t e small few differ =
      let x = put_rows source n rows in
      let new = rows_at source n rows at in
      let later = entries more i (at + length x) in
      onward whole k n more go up.1 p [] j (omega arith)
      (others whole k m n up.0.0 an_entry more j agree) i at fits x q rest _ t new e
      small few differ
      (rows_read frame source whole k n (omega arith) up.0.1 (found whole k m n up.0.0 an_entry more j agree) rows at
      (written more i ++ rest) _ t e later
      (omega (arith, length-append x (written more i))) (omega (arith, length-append new later)) differ)

  read_message_lem : (n : ℕ) (name : String) (inner more : Schema) → SchemaReads inner → SchemaReads more
      → SchemaReads (message n name inner more)
  unfolding put_fields width slots_at entries_at look said_in
  read_message_lem n name inner more go_in go whole k m up p j is_j agree i at fits q rest t e small few differ =
      let b = eqb (get_or slots i 0) 0 in
      let x = put_part source rows slots n inner i in
      let y = written more (i + 1 + width inner) in
      let own = part_slots source rows slots n inner i at in
      let size = length_part source rows slots n inner i at in
      let new = part_entries source rows slots n inner i at in
      let later = entries more (i + 1 + width inner) (at + length x) in
      let blanks : zeros (width inner + width more) ++ q ≡ zeros (width inner) ++ (zeros (width more) ++ q) =
      ap (λ (z : List ℕ). z ++ q) (sym (replicate-append-replicate {A = ℕ} (width inner) (width more) 0))
      ∙ append_assoc (zeros (width inner)) (zeros (width more)) q in
      let target = a_message j inner in
      let both_fit = in_range_split (said_in source inner (i + 1) slots) (said_in source more (i + 1 + width inner) slots) fits in
      let first =
      part_read whole k n (omega arith) up.0.1 inner go_in up.2 p j is_j
      (found whole k m n up.0.0 target more (j + 1 + width inner) agree) i at both_fit.0
      (zeros (width more) ++ q) (y ++ rest) t e b
      (omega (arith, length-append x y)) (omega (arith, length-append new later))
      (differ_first frame (t ++ new) later (rw (append_assoc t new later) differ)) in
      rw (blanks, append_assoc own (landed more (i + 1 + width inner) (at + length x)) q)
      (onward whole k n more go up.1 p (cond b 0 1 ∷ own) (j + 1 + width inner) (omega arith)
      (others whole k m n up.0.0 target more (j + 1 + width inner) agree) (i + 1 + width inner) at both_fit.1 x q rest _ t new e
      small few differ first)

  pub schema_read : (sch : Schema) → SchemaReads sch
  schema_read done = read_done
  schema_read (number type n name more) = read_number type n name more (schema_read more)
  schema_read (bytes n name more) = read_bytes n name more (schema_read more)
  schema_read (map n name more) = read_map n name more (schema_read more)
  schema_read (message n name inner more) = read_message_lem n name inner more (schema_read inner) (schema_read more)
