-- What is where `Landing` says is what was to be written: the same numbers, present marks, lengths and bytes, and the same keys and
-- values in the same order.
use Prim.Native.Nat.{ℕ, suc, ◌+◌, ◌≤◌, ◌%◌, ◌^◌}
use Prim.Native.String.{String}
use mathlib.Core.Path.{◌≡◌, refl, sym, ap, ap₂, ◌∙◌}
use mathlib.Core.Bool.{Bool, true, false, cond, not, ◌&&◌, ◌||◌}
use mathlib.Core.List.{List, [], ◌∷◌, ◌++◌, append_assoc, append-nil}
use lib.ListN.{length, drop, get_or, length-append, length-drop, length-replicate, replicate-append-replicate}
use lib.Seq.{get_or_at, length-take-le}
use lib.Dec.{eqb, leb}
use native.Mathlib.Omega.{arith}
use borrow.Author.Tests.{ne_eqb, eqb-true, leb-true}
use Rattle.wire_read.specs.Varint.{twos_complement, low_i32}
use Rattle.wire_write.specs.Writing.{put_varint, put_tag, put_bytes}
use Rattle.schema.specs.Schema.{Integer, uint32, int32, Schema, done, number, bytes, map, message, width}
use Rattle.decoder.specs.Rows.{Row}
use Rattle.decoder.specs.Fields.{start_of, part_of}
use Rattle.writer.specs.Encoding.{put_number, put_some, put_entry, put_rows, put_fields}
use Rattle.writer_checks.specs.Grounds.{spans_within, rows_within, all_zero, absent_ok}
use Rattle.message.specs.Meaning.{Bytes, bytes_from, Said, unsigned, signed, text, Pair, pairs_of}
use Rattle.thm_round_trip.proofs.Said.{said_in, has_rows, kept_rows}
use Rattle.thm_round_trip.proofs.Formed.{has_parts, Formed}
use Rattle.thm_round_trip.proofs.Written.{head_size}
use Rattle.thm_round_trip.proofs.Landing.{zeros, number_at, key_of, value_of, rows_at, put, put_part, text_at, slots_at, entries_at}
use Rattle.thm_round_trip.proofs.Landing.{part_slots, part_entries, length_part, Stands, stands_first, stands_later}
use Rattle.laws.proofs.Booleans.{both}
use Rattle.message.proofs.MeaningLaws.{pairs_append}

-- ---- bytes
module _ (frame : List ℕ) where
  -- an empty one is found anywhere
  named : (at : ℕ) (x : List ℕ) → Stands frame at x → part_of frame (start_of at (length x)) (length x) ≡ x
  named at [] h = refl
  named at (b ∷ x) h = rw (ne_eqb (suc (length x)) 0 (λ (e : suc (length x) ≡ 0). omega arith)) h

  content_stands : (at n : ℕ) (x : List ℕ) → Stands frame at (put_bytes n x) → Stands frame (at + head_size n x) x
  content_stands at n x h =
      rw (length-append (put_tag n 2) (put_varint (length x))) at (stands_later frame at (put_tag n 2 ++ put_varint (length x)) x h)

  text_stands : (at n : ℕ) (x : List ℕ) → Stands frame at (put_some n x) → Stands frame (at + head_size n x) x
  unfolding put_some
  text_stands at n [] h = refl
  text_stands at n (b ∷ x) h =
      content_stands at n (b ∷ x) (rw (ne_eqb (suc (length x)) 0 (λ (e : suc (length x) ≡ 0). omega arith)) at h)

  -- bytes that lie within the source have the length that was given
  all_there : (source : List ℕ) (start len : ℕ) → start + len ≤ length source → length (part_of source start len) ≡ len
  all_there source start len h = length-take-le len (drop start source) (omega (arith, length-drop start source, h))

  same_bytes : (source : List ℕ) (start len at : ℕ) → leb (start + len) (length source) ≡ true → Stands frame at (part_of source start len)
      → let x = part_of source start len in bytes_from frame (start_of at (length x)) (length x) ≡ bytes_from source start len
  same_bytes source start len at h here =
      ap₂ (λ (n : ℕ) (l : List ℕ). record { size = n; content = l }) (all_there source start len (leb-true (start + len) (length source) h))
      (named at (part_of source start len) here)

  -- ---- rows
  rows_said : (source : List ℕ) (n : ℕ) (rows : List Row) (at : ℕ) → rows_within (length source) rows ≡ true
      → Stands frame at (put_rows source n rows)
      → pairs_of frame (rows_at source n rows at) ≡ pairs_of source rows
  unfolding put_rows put_entry rows_at rows_within
  rows_said source n [] at ok h = refl
  rows_said source n (row ∷ rows) at ok h =
      let in_row = leb (row.key + row.key_size) (length source) && leb (row.value + row.value_size) (length source) in
      let oks = both in_row (rows_within (length source) rows) ok in
      let ins = both (leb (row.key + row.key_size) (length source)) (leb (row.value + row.value_size) (length source)) oks.0 in
      let key = key_of source row in
      let value = value_of source row in
      let x = put_entry source row in
      let inside = at + head_size n x in
      let here = content_stands at n x (stands_first frame at (put_bytes n x) (put_rows source n rows) h) in
      let k = same_bytes source row.key row.key_size (inside + head_size 1 key) ins.0
      (content_stands inside 1 key (stands_first frame inside (put_bytes 1 key) (put_bytes 2 value) here)) in
      let there = inside + length (put_bytes 1 key) in
      let v = same_bytes source row.value row.value_size (there + head_size 2 value) ins.1
      (content_stands there 2 value (stands_later frame inside (put_bytes 1 key) (put_bytes 2 value) here)) in
      let later = rows_said source n rows (at + length (put_bytes n x)) oks.1
      (stands_later frame at (put_bytes n x) (put_rows source n rows) h) in
      ap₂ (λ (p : Pair) (ps : List Pair). p ∷ ps) (ap₂ (λ (a b : Bytes). record { key = a; value = b }) k v) later

-- ---- fields
abbrev number_said : Integer → ℕ → Said
number_said uint32 v = unsigned v
number_said int32 v = signed (low_i32 v)

number_same : (type : Integer) (v : ℕ) → number_said type (number_at type v) ≡ number_said type v
unfolding number_at
number_same uint32 v = refl
number_same int32 v =
    let low : v % 2 ^ 32 % 2 ^ 32 ≡ v % 2 ^ 32 = omega arith in ap (λ (w : ℕ). signed (twos_complement w)) low

module _ (frame source : List ℕ) (rows : List Row) (slots : List ℕ) where
  abbrev written : Schema → (i : ℕ) → List ℕ
  written sch i = put source rows slots sch i

  abbrev landed : Schema → (i at : ℕ) → List ℕ
  landed sch i at = slots_at source rows slots sch i at

  abbrev entries : Schema → (i at : ℕ) → List Row
  entries sch i at = entries_at source rows slots sch i at

  -- the slots `own`, wherever they are, say over the frame what the fields say from slot i on
  abbrev SchemaSays : Schema → (i : ℕ) → (own : List ℕ) → Type 0
  SchemaSays sch i own = (p q : List ℕ) (j : ℕ) → length p ≡ j → said_in frame sch j (p ++ (own ++ q)) ≡ said_in source sch i slots

  number_says : (type : Integer) (n : ℕ) (name : String) (more : Schema) (i v : ℕ) (own : List ℕ)
      → number_said type v ≡ number_said type (get_or slots i 0) → SchemaSays more (i + 1) own
      → SchemaSays (number type n name more) i (v ∷ own)
  unfolding said_in
  number_says type n name more i v own same go p q j is_j = by type same
    where
      here : get_or (p ++ (v ∷ (own ++ q))) j 0 ≡ v
      here = get_or_at p v (own ++ q) 0 j is_j

      later : said_in frame more (j + 1) (p ++ (v ∷ (own ++ q))) ≡ said_in source more (i + 1) slots
      later =
          let there : length (p ++ (v ∷ [])) ≡ j + 1 = length-append p (v ∷ []) ∙ omega arith in
          rw (append_assoc p (v ∷ []) (own ++ q)) at (go (p ++ (v ∷ [])) q (j + 1) there)

      by : (type : Integer) → number_said type v ≡ number_said type (get_or slots i 0)
          → said_in frame (number type n name more) j (p ++ (v ∷ (own ++ q))) ≡ said_in source (number type n name more) i slots
      by uint32 e = rw (here, e, later)
      by int32 e = rw (here, e, later)

  bytes_says : (n : ℕ) (name : String) (more : Schema) (i a size : ℕ) (own : List ℕ)
      → bytes_from frame a size ≡ bytes_from source (get_or slots i 0) (get_or slots (i + 1) 0) → SchemaSays more (i + 2) own
      → SchemaSays (bytes n name more) i (a ∷ size ∷ own)
  unfolding said_in
  bytes_says n name more i a size own is_text go p q j is_j =
      let next : length (p ++ (a ∷ [])) ≡ j + 1 = length-append p (a ∷ []) ∙ omega arith in
      let there : length (p ++ (a ∷ size ∷ [])) ≡ j + 2 = length-append p (a ∷ size ∷ []) ∙ omega arith in
      let start : get_or (p ++ (a ∷ size ∷ (own ++ q))) j 0 ≡ a = get_or_at p a (size ∷ (own ++ q)) 0 j is_j in
      let long : get_or (p ++ (a ∷ size ∷ (own ++ q))) (j + 1) 0 ≡ size =
      rw (append_assoc p (a ∷ []) (size ∷ (own ++ q))) at (get_or_at (p ++ (a ∷ [])) size (own ++ q) 0 (j + 1) next) in
      let later : said_in frame more (j + 2) (p ++ (a ∷ size ∷ (own ++ q))) ≡ said_in source more (i + 2) slots =
      rw (append_assoc p (a ∷ size ∷ []) (own ++ q)) at (go (p ++ (a ∷ size ∷ [])) q (j + 2) there) in
      rw (start, long) (ap₂ (λ (t : Bytes) (l : List Said). text t ∷ l) is_text later)

  message_says : (n : ℕ) (name : String) (inner more : Schema) (i mark : ℕ) (in_own own : List ℕ)
      → eqb mark 0 ≡ eqb (get_or slots i 0) 0 → length in_own ≡ width inner
      → SchemaSays inner (i + 1) in_own → SchemaSays more (i + 1 + width inner) own
      → SchemaSays (message n name inner more) i (mark ∷ (in_own ++ own))
  unfolding said_in
  message_says n name inner more i mark in_own own is_mark size go_in go p q j is_j =
      let l = p ++ (mark ∷ ((in_own ++ own) ++ q)) in
      let next : length (p ++ (mark ∷ [])) ≡ j + 1 = length-append p (mark ∷ []) ∙ omega arith in
      let there : length (p ++ (mark ∷ in_own)) ≡ j + 1 + width inner = length-append p (mark ∷ in_own) ∙ omega arith in
      let here : get_or l j 0 ≡ mark = get_or_at p mark ((in_own ++ own) ++ q) 0 j is_j in
      let first : said_in frame inner (j + 1) l ≡ said_in source inner (i + 1) slots =
      rw (append_assoc in_own own q)
      (rw (append_assoc p (mark ∷ []) (in_own ++ (own ++ q))) at (go_in (p ++ (mark ∷ [])) (own ++ q) (j + 1) next)) in
      let later : said_in frame more (j + 1 + width inner) l ≡ said_in source more (i + 1 + width inner) slots =
      rw (append_assoc in_own own q)
      (rw (append_assoc p (mark ∷ in_own) (own ++ q)) at (go (p ++ (mark ∷ in_own)) q (j + 1 + width inner) there)) in
      rw (here, is_mark, first, later)

  -- ---- an absent part: zeros say what is all zero, empty and rowless
  zeros_say : (sch : Schema) (i : ℕ) → all_zero rows sch i slots ≡ true → SchemaSays sch i (zeros (width sch))
  unfolding all_zero width said_in
  zeros_say done i h = λ p q j is_j. refl
  zeros_say (number type n name more) i h =
      let b = both (eqb (get_or slots i 0) 0) (all_zero rows more (i + 1) slots) h in
      number_says type n name more i 0 (zeros (width more)) (rw (eqb-true (get_or slots i 0) 0 b.0)) (zeros_say more (i + 1) b.1)
  zeros_say (bytes n name more) i h =
      let b = both (eqb (get_or slots (i + 1) 0) 0) (all_zero rows more (i + 2) slots) h in
      bytes_says n name more i 0 0 (zeros (width more)) (rw (eqb-true (get_or slots (i + 1) 0) 0 b.0)) (zeros_say more (i + 2) b.1)
  zeros_say (map n name more) i h = zeros_say more i (both (eqb (length rows) 0) (all_zero rows more i slots) h).1
  zeros_say (message n name inner more) i h =
      let b = both (eqb (get_or slots i 0) 0 && all_zero rows inner (i + 1) slots) (all_zero rows more (i + 1 + width inner) slots) h in
      let c = both (eqb (get_or slots i 0) 0) (all_zero rows inner (i + 1) slots) b.0 in
      rw (← (replicate-append-replicate {A = ℕ} (width inner) (width more) 0))
      (message_says n name inner more i 0 (zeros (width inner)) (zeros (width more)) (sym c.0) (length-replicate {A = ℕ} (width inner) 0)
      (zeros_say inner (i + 1) c.1) (zeros_say more (i + 1 + width inner) b.1))

  zero_kept : (sch : Schema) (i : ℕ) → all_zero rows sch i slots ≡ true → kept_rows sch rows ≡ []
  unfolding all_zero kept_rows has_rows
  zero_kept done i h = refl
  zero_kept (number type n name more) i h = zero_kept more (i + 1) (both (eqb (get_or slots i 0) 0) (all_zero rows more (i + 1) slots) h).1
  zero_kept (bytes n name more) i h = zero_kept more (i + 2) (both (eqb (get_or slots (i + 1) 0) 0) (all_zero rows more (i + 2) slots) h).1
  zero_kept (map n name more) i h = none rows (eqb-true (length rows) 0 (both (eqb (length rows) 0) (all_zero rows more i slots) h).0)
    where
      none : (l : List Row) → length l ≡ 0 → l ≡ []
      none [] e = refl
      none (x ∷ l) e = let z : ⊥ = omega arith in absurd z
  zero_kept (message n name inner more) i h =
      let b = both (eqb (get_or slots i 0) 0 && all_zero rows inner (i + 1) slots) (all_zero rows more (i + 1 + width inner) slots) h in
      let c = both (eqb (get_or slots i 0) 0) (all_zero rows inner (i + 1) slots) b.0 in
      by (has_rows inner) (has_rows more) (zero_kept inner (i + 1) c.1) (zero_kept more (i + 1 + width inner) b.1)
    where
      by : (a b : Bool) → cond a rows [] ≡ [] → cond b rows [] ≡ [] → cond (a || b) rows [] ≡ []
      by true b f g = f
      by false b f g = g

  -- ---- all of a schema
  no_parts_lem : (sch : Schema) (i : ℕ) → has_parts sch ≡ false → absent_ok rows sch i slots ≡ true
  unfolding has_parts absent_ok
  no_parts_lem done i h = refl
  no_parts_lem (number type n name more) i h = no_parts_lem more (i + 1) h
  no_parts_lem (bytes n name more) i h = no_parts_lem more (i + 2) h
  no_parts_lem (map n name more) i h = no_parts_lem more i h
  no_parts_lem (message n name inner more) i h = cc

  -- what the reader found for a schema
  pub record Back (sch : Schema) (i at : ℕ) : Type 0 where
    pub says : SchemaSays sch i (landed sch i at)
    pub rows_are : pairs_of frame (entries sch i at) ≡ pairs_of source (kept_rows sch rows)

  -- a part, absent or not
  part_back : (n : ℕ) (inner : Schema) (i at : ℕ)
      → let x = written inner (i + 1) in
      let inside = at + head_size n x in
      (Stands frame inside x → Back inner (i + 1) inside)
      → (b : Bool) → not b || all_zero rows inner (i + 1) slots ≡ true → Stands frame at (cond b [] (put_bytes n x))
      → SchemaSays inner (i + 1) (cond b (zeros (width inner)) (landed inner (i + 1) inside))
      × (pairs_of frame (cond b [] (entries inner (i + 1) inside)) ≡ pairs_of source (kept_rows inner rows))
      × (eqb (cond b 0 1) 0 ≡ b)
  part_back n inner i at go true h here = (zeros_say inner (i + 1) h, rw (zero_kept inner (i + 1) h), refl)
  part_back n inner i at go false h here =
      let r = go (content_stands frame at n (written inner (i + 1)) here) in (r.says, r.rows_are, refl)

  kept_both : (n : ℕ) (name : String) (inner more : Schema) → has_rows inner && has_rows more ≡ false
      → kept_rows inner rows ++ kept_rows more rows ≡ kept_rows (message n name inner more) rows
  unfolding kept_rows has_rows
  kept_both n name inner more h = by (has_rows inner) (has_rows more) h
    where
      by : (a b : Bool) → a && b ≡ false → cond a rows [] ++ cond b rows [] ≡ cond (a || b) rows []
      by true true h = cc
      by true false h = append-nil rows
      by false b h = refl

  pub schema_back : rows_within (length source) rows ≡ true → (sch : Schema) (m : ℕ) → Formed m sch → (i at : ℕ)
      → spans_within (length source) sch i slots ≡ true → absent_ok rows sch i slots ≡ true
      → Stands frame at (written sch i) → Back sch i at
  unfolding put_fields slots_at entries_at spans_within absent_ok kept_rows has_rows said_in
  schema_back in_rows done m up i at ins ok here = record { says = λ p q j is_j. refl; rows_are = refl }
  schema_back in_rows (number type n name more) m up i at ins ok here =
      let v = get_or slots i 0 in
      let x = put_number type n v in
      let later = schema_back in_rows more n up.1 (i + 1) (at + length x) ins ok (stands_later frame at x (written more (i + 1)) here) in
      record {
        says = number_says type n name more i (number_at type v) (landed more (i + 1) (at + length x)) (number_same type v) later.says;
        rows_are = later.rows_are;
      }
  schema_back in_rows (bytes n name more) m up i at ins ok here =
      let in_span = both (leb (get_or slots i 0 + get_or slots (i + 1) 0) (length source))
      (spans_within (length source) more (i + 2) slots) ins in
      let t = text_at source rows slots i in
      let x = put_some n t in
      let y = written more (i + 2) in
      let found = same_bytes frame source (get_or slots i 0) (get_or slots (i + 1) 0) (at + head_size n t) in_span.0
      (text_stands frame at n t (stands_first frame at x y here)) in
      let later = schema_back in_rows more n up.1 (i + 2) (at + length x) in_span.1 ok (stands_later frame at x y here) in
      record {
        says = bytes_says n name more i (start_of (at + head_size n t) (length t)) (length t)
            (landed more (i + 2) (at + length x)) found later.says;
        rows_are = later.rows_are;
      }
  schema_back in_rows (map n name more) m up i at ins ok here =
      let x = put_rows source n rows in
      let y = written more i in
      let later = schema_back in_rows more n up.1 i (at + length x) ins ok (stands_later frame at x y here) in
      let none : kept_rows more rows ≡ [] = rw up.2 in
      record {
        says = later.says;
        rows_are =
            pairs_append frame (rows_at source n rows at) (entries more i (at + length x))
            ∙ ap₂ (λ (a b : List Pair). a ++ b) (rows_said frame source n rows at in_rows (stands_first frame at x y here))
            (later.rows_are ∙ ap (pairs_of source) none)
            ∙ append-nil (pairs_of source rows);
      }
  schema_back in_rows (message n name inner more) m up i at ins ok here =
      let in_parts = both (spans_within (length source) inner (i + 1) slots)
      (spans_within (length source) more (i + 1 + width inner) slots) ins in
      let b = eqb (get_or slots i 0) 0 in
      let x = put_part source rows slots n inner i in
      let y = written more (i + 1 + width inner) in
      let oks = both (not b || all_zero rows inner (i + 1) slots) (absent_ok rows more (i + 1 + width inner) slots) ok in
      let go = schema_back in_rows inner 0 up.2 (i + 1) (at + head_size n (written inner (i + 1))) in_parts.0
      (no_parts_lem inner (i + 1) up.4) in
      let part = part_back n inner i at go b oks.0 (stands_first frame at x y here) in
      let later = schema_back in_rows more n up.1 (i + 1 + width inner) (at + length x) in_parts.1 oks.1
      (stands_later frame at x y here) in
      record {
        says =
            message_says n name inner more i (cond b 0 1) (part_slots source rows slots n inner i at)
            (landed more (i + 1 + width inner) (at + length x)) part.2
            (length_part source rows slots n inner i at) part.0 later.says;
        rows_are =
            pairs_append frame (part_entries source rows slots n inner i at) (entries more (i + 1 + width inner) (at + length x))
            ∙ ap₂ (λ (a b : List Pair). a ++ b) part.1 later.rows_are
            ∙ sym (pairs_append source (kept_rows inner rows) (kept_rows more rows))
            ∙ ap (pairs_of source) (kept_both n name inner more up.3);
      }
