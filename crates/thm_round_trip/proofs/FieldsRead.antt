-- One field that was written is read: its value is where `Landing` says, and the reading goes on after it.
use Prim.Native.Nat.{ℕ, suc, ◌+◌, ◌%◌, ◌^◌, ◌<◌, ◌≤◌}
use mathlib.Core.Path.{◌≡◌, refl, sym, ap, ◌∙◌}
use mathlib.Core.Bool.{Bool, true, false, cond}
use mathlib.Core.List.{List, [], ◌∷◌, ◌++◌, append_assoc, append-nil}
use lib.ListN.{length, set, length-append}
use lib.Seq.{set_at, append_snoc}
use lib.Dec.{ltb, eqb}
use native.Mathlib.Omega.{arith}
use native.Mathlib.Nat.{mod-lt, mod-eq_of_lt, add-zero, add_assoc}
use borrow.Author.Tests.{lt-ltb, eqb-true, ltb-false}
use Rattle.wire_read.specs.Varint.{low_u32, twos_complement}
use Rattle.wire_write.specs.Writing.{put_varint, sign_extended, put_tag, put_bytes}
use Rattle.schema.specs.Schema.{Integer, uint32, int32, Schema, entry}
use Rattle.decoder.specs.Rows.{Row}
use Rattle.decoder.specs.Fields.{State, ok, blank, start_of, Reader, set_slot, set_bytes, add_entry, with_field, fields_in}
use Rattle.schema.specs.Targets.{a_number, some_bytes, an_entry, look}
use Rattle.writer.specs.Encoding.{wide, put_number, put_some, put_entry, put_rows}
use Rattle.writer_checks.specs.Grounds.{keys_differ}
use Rattle.thm_round_trip.proofs.Written.{reads, head_size, length_bytes, number_step, bytes_step}
use Rattle.thm_round_trip.proofs.Landing.{zeros, number_at, key_of, value_of, entry_row, rows_at}
use Rattle.thm_round_trip.proofs.Keys.{enter_new}

abbrev pub state : List ℕ → List Row → (entries : ℕ) → State
state l t e = record { slots = l; rows = t; entries = e }

-- ---- numbers: what is written of one fits a varint, and its low 32 bits are what it says
abbrev pub Fits : Integer → ℕ → Type 0
Fits uint32 v = v < 2 ^ 32
Fits int32 v = Unit {0}

wide_fits : (type : Integer) (v : ℕ) → Fits type v → (wide type v < 2 ^ 64) × (low_u32 (wide type v) ≡ number_at type v)
unfolding wide sign_extended twos_complement number_at
wide_fits uint32 v h = (omega arith, mod-eq_of_lt h)
wide_fits int32 v h = by (v % 2 ^ 32) (mod-lt v (omega arith)) (ltb (v % 2 ^ 32) (2 ^ 31)) refl
  where
    by : (w : ℕ) → w < 2 ^ 32 → (b : Bool) → ltb w (2 ^ 31) ≡ b
        → (sign_extended (twos_complement w) < 2 ^ 64) × (low_u32 (sign_extended (twos_complement w)) ≡ w)
    by w small true e = rw e (omega arith, mod-eq_of_lt small)
    by w small false e = let large = ltb-false w (2 ^ 31) e in rw e (omega arith, omega arith)

number_none : (type : Integer) → number_at type 0 ≡ 0
unfolding number_at
number_none uint32 = refl
number_none int32 = refl

-- ---- slots
set_two : (p q : List ℕ) (x y a b j : ℕ) → length p ≡ j → set (set (p ++ (x ∷ y ∷ q)) j a) (j + 1) b ≡ p ++ (a ∷ b ∷ q)
set_two p q x y a b j h =
    let next : length (p ++ (a ∷ [])) ≡ j + 1 = length-append p (a ∷ []) ∙ omega arith in
    ap (λ (l : List ℕ). set l (j + 1) b) (set_at p x (y ∷ q) a j h ∙ sym (append_snoc p a (y ∷ q)))
    ∙ set_at (p ++ (a ∷ [])) y q b (j + 1) next
    ∙ append_snoc p a (b ∷ q)

-- ---- one field
module _ (frame : List ℕ) (whole : Schema) (k : ℕ) where
  -- one after the other
  pub join : (at : ℕ) (x y rest : List ℕ) (a b c : State)
      → reads frame whole k at (x ++ (y ++ rest)) a ≡ reads frame whole k (at + length x) (y ++ rest) b
      → reads frame whole k (at + length x) (y ++ rest) b ≡ reads frame whole k (at + length x + length y) rest c
      → reads frame whole k at ((x ++ y) ++ rest) a ≡ reads frame whole k (at + length (x ++ y)) rest c
  join at x y rest a b c first later = rw (append_assoc x y rest, length-append x y, ← (add_assoc at (length x) (length y))) (first ∙ later)

  module _ (n at : ℕ) (some : 0 < n) (high : n < 2 ^ 29) where
    pub number_read : (type : Integer) (v j : ℕ) (p q rest : List ℕ) (t : List Row) (e : ℕ)
        → Fits type v → length p ≡ j → look whole k n ≡ a_number j
        → reads frame whole k at (put_number type n v ++ rest) (state (p ++ (0 ∷ q)) t e)
        ≡ reads frame whole k (at + length (put_number type n v)) rest (state (p ++ (number_at type v ∷ q)) t e)
    unfolding put_number set_slot
    number_read type v j p q rest t e h is_j l = by (eqb v 0) refl
      where
        by : (b : Bool) → eqb v 0 ≡ b
            → reads frame whole k at (cond b [] (put_tag n 0 ++ put_varint (wide type v)) ++ rest) (state (p ++ (0 ∷ q)) t e)
            ≡ reads frame whole k (at + length (cond b [] (put_tag n 0 ++ put_varint (wide type v)))) rest
            (state (p ++ (number_at type v ∷ q)) t e)
        by true z = rw (add-zero at, eqb-true v 0 z, number_none type)
        by false z =
            number_step frame whole k at n (state (p ++ (0 ∷ q)) t e) some high j (wide type v) rest l (wide_fits type v h).0
            ∙ rw ((wide_fits type v h).1, set_at p 0 q (number_at type v) j is_j)

    pub text_read : (x : List ℕ) (j : ℕ) (p q rest : List ℕ) (t : List Row) (e : ℕ)
        → length x < 2 ^ 64 → length p ≡ j → look whole k n ≡ some_bytes j
        → reads frame whole k at (put_some n x ++ rest) (state (p ++ (0 ∷ 0 ∷ q)) t e)
        ≡ reads frame whole k (at + length (put_some n x)) rest (state (p ++ (start_of (at + head_size n x) (length x) ∷ length x ∷ q)) t e)
    unfolding put_some with_field set_bytes set_slot
    text_read x j p q rest t e h is_j l = by (eqb (length x) 0) refl
      where
        by : (b : Bool) → eqb (length x) 0 ≡ b
            → reads frame whole k at (cond b [] (put_bytes n x) ++ rest) (state (p ++ (0 ∷ 0 ∷ q)) t e)
            ≡ reads frame whole k (at + length (cond b [] (put_bytes n x))) rest
            (state (p ++ (cond b 0 (at + head_size n x) ∷ length x ∷ q)) t e)
        by true z = rw (add-zero at, eqb-true (length x) 0 z)
        by false z =
            bytes_step frame whole k at n (state (p ++ (0 ∷ 0 ∷ q)) t e) some high x rest _ h
            (rw (l, z, set_two p q 0 0 (at + head_size n x) (length x) j is_j))

-- ---- map entries
entry_read : (frame : List ℕ) (at : ℕ) (key value : List ℕ) → length key < 2 ^ 64 → length value < 2 ^ 64
    → let row = entry_row at key value in
    reads frame entry 0 at (put_bytes 1 key ++ put_bytes 2 value) blank
    ≡ ok (state (row.key ∷ row.key_size ∷ row.value ∷ row.value_size ∷ zeros 12) [] 0)
unfolding with_field look set_bytes set_slot fields_in
entry_read frame at key value hk hv =
    bytes_step frame entry 0 at 1 blank (omega arith) (omega arith) key (put_bytes 2 value) _ hk refl
    ∙ rw (← (append-nil (put_bytes 2 value)))
    (bytes_step frame entry 0 (at + length (put_bytes 1 key)) 2 _ (omega arith) (omega arith) value [] _ hv refl)

entry_taken : (frame : List ℕ) (read : Reader) (at : ℕ) (x : List ℕ) (st e : State) → st.entries < 64 → read entry 0 at x blank ≡ ok e
    → with_field frame read at x st an_entry ≡ ok (add_entry frame e st)
unfolding with_field
entry_taken frame read at x st e few r = cc (lt-ltb st.entries 64 few)

module _ (frame source : List ℕ) (whole : Schema) (k n : ℕ) (some : 0 < n) (high : n < 2 ^ 29) (l : look whole k n ≡ an_entry) where
  row_read : (row : Row) (at : ℕ) (rest slots : List ℕ) (t : List Row) (e : ℕ) (later : List Row)
      → length (put_bytes n (put_entry source row)) < 2 ^ 64 → e < 64
      → let new = entry_row (at + head_size n (put_entry source row)) (key_of source row) (value_of source row) in
      keys_differ frame (t ++ (new ∷ later)) ≡ true
      → reads frame whole k at (put_bytes n (put_entry source row) ++ rest) (state slots t e)
      ≡ reads frame whole k (at + length (put_bytes n (put_entry source row))) rest (state slots (t ++ (new ∷ [])) (suc e))
  unfolding put_entry add_entry
  row_read row at rest slots t e later h few differ =
      let key = key_of source row in
      let value = value_of source row in
      let x = put_entry source row in
      let size : length x ≡ length (put_bytes 1 key) + length (put_bytes 2 value) = length-append (put_bytes 1 key) (put_bytes 2 value) in
      let sizes = length_bytes n x in
      let small_key : length key < 2 ^ 64 = omega (arith, length_bytes 1 key) in
      let small_value : length value < 2 ^ 64 = omega (arith, length_bytes 2 value) in
      let read = entry_read frame (at + head_size n x) key value small_key small_value in
      let new = enter_new frame t (entry_row (at + head_size n x) key value) later differ in
      bytes_step frame whole k at n (state slots t e) some high x rest _ (omega arith)
      (rw l (entry_taken frame (fields_in (length x) frame) (at + head_size n x) x (state slots t e) _ few read ∙ rw new))

  -- the rows in their order
  pub rows_read : (rows : List Row) (at : ℕ) (rest slots : List ℕ) (t : List Row) (e : ℕ) (later : List Row)
      → length (put_rows source n rows) < 2 ^ 64 → e + length (rows_at source n rows at) ≤ 64
      → keys_differ frame (t ++ (rows_at source n rows at ++ later)) ≡ true
      → reads frame whole k at (put_rows source n rows ++ rest) (state slots t e)
      ≡ reads frame whole k (at + length (put_rows source n rows)) rest
      (state slots (t ++ rows_at source n rows at) (e + length (rows_at source n rows at)))
  unfolding put_rows rows_at
  rows_read [] at rest slots t e later h few differ = rw (add-zero at, add-zero e, append-nil t)
  rows_read (row ∷ rows) at rest slots t e later h few differ =
      let x = put_bytes n (put_entry source row) in
      let y = put_rows source n rows in
      let size = length-append x y in
      let new = entry_row (at + head_size n (put_entry source row)) (key_of source row) (value_of source row) in
      let more = rows_at source n rows (at + length x) in
      let shift : suc e + length more ≡ e + suc (length more) = omega arith in
      join frame whole k at x y rest (state slots t e) (state slots (t ++ (new ∷ [])) (suc e)) _
      (row_read row at (y ++ rest) slots t e (more ++ later) (omega arith) (omega arith) differ)
      (rows_read rows (at + length x) rest slots (t ++ (new ∷ [])) (suc e) later (omega arith) (omega arith)
      (rw (append_snoc t new (more ++ later)) differ)
      ∙ rw (append_snoc t new more, shift))
