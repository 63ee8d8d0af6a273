-- For a user: which number the fields of a message are refused with (`message_decides`).
--
-- Promised, for any bytes: that of the first ground from left to right, at each place tag 10, 11, 13, value 10, 12, then 14 before an
-- entry's inside, within skipped groups, map entries and inner messages too; and the message is read where no place has a ground.
-- Not promised: what is read.
-- Ruled out: a reader that looks for a 65th entry after the entry's inside, one that refuses a bad value before the bad tag of an earlier
-- place, and one that takes a varint of eleven bytes.
-- Assumes nothing.
use Prim.Native.Nat.{ℕ, zero, suc, ◌+◌, ◌-◌, ◌/◌, ◌%◌, ◌^◌, ◌<◌, ◌≤◌}
use mathlib.Core.Path.{◌≡◌, refl, sym, ap, subst, ◌∙◌}
use mathlib.Core.Logic.{◌⊎◌, inl, inr}
use mathlib.Core.Bool.{Bool, true, false, cond, ◌&&◌}
use mathlib.Core.List.{List, [], ◌∷◌, ◌++◌}
use native.Mathlib.Omega.{arith}
use borrow.Author.Tests.{ne_eqb}
use lib.Dec.{eqb, ltb, leb}
use lib.ListN.{length, take, drop, get_or}
use Rattle.laws.proofs.Booleans.{clash}
use Rattle.wire_read.specs.Varint.{VarintResult, got, bad, joined, groups, varint}
use Rattle.wire_read.specs.Tags.{WireType, VARINT, I64, LEN, SGROUP, EGROUP, I32, reserved, wire_type, TagResult, field, no_tag, tag_error}
use Rattle.wire_read.specs.Tags.{split, tag, LengthResult, bytes, length_error, length_within, length_prefix}
use Rattle.wire_read.specs.Skipping.{max_depth, SkipResult, skipped, skip_error, skip_after, skip_varint, skip_fixed, skip_bytes, value, in_group}
use Rattle.wire_read.specs.Skipping.{group_in}
use Rattle.wire_read.specs.Fields.{FieldResult, no_field, varint_field, fixed64_field, bytes_field, group_field, fixed32_field, field_error}
use Rattle.wire_read.specs.Fields.{little_endian, content, field_after, next_field}
use Rattle.wire_read.proofs.Bounds.{VarintIn, varint_in}
use Rattle.schema.specs.Schema.{Schema, entry}
use Rattle.decoder.specs.Fields.{State, Result, ok, refused, blank, Reader, set_slot, set_bytes, set_number, add_entry, with_field, and_then}
use Rattle.decoder.specs.Fields.{inside, one_field, fields_in, read_message}
use Rattle.schema.specs.Targets.{Target, a_number, some_bytes, an_entry, a_message, unknown, look}
use Rattle.refusals.specs.Grounds.{Ground, ground_of, Every, Verdict, refuses, works}
use Rattle.refusals.proofs.Tests.{Told, Finds, Tests, each, unlike, reworded, restated, equal, below, at_most}
use Rattle.refusals.proofs.Order.{Outcome, end, passed, stopped, followed, one_test}
use Rattle.thm_refusals.specs.Fields.{GoesOn, BadVarint, WrongTag, tag_grounds, LengthPast, value_grounds, next_in_group, field_in_group}
use Rattle.thm_refusals.specs.Fields.{in_group_grounds, group_grounds, content_grounds, place_grounds, Grounds, once_read, inside_grounds}
use Rattle.thm_refusals.specs.Fields.{further_grounds, fields_grounds, message_grounds, result_says}

-- the grounds gs decide v
abbrev Decides : List Ground → Verdict → Type 0
Decides gs v = Outcome gs refuses works v

-- ---- varints
abbrev is_bad : VarintResult → Bool
is_bad bad = true
is_bad (got v used) = false

joined_bad : (low : ℕ) (g : VarintResult) → is_bad (joined low g) ≡ is_bad g
unfolding joined
joined_bad low bad = refl
joined_bad low (got v used) = refl

-- `BadVarint` of a varint whose last byte can only be the one at place k
abbrev BadIn : (k : ℕ) → List ℕ → Type 0
BadIn k s = (Every GoesOn s × (length s < suc k)) ⊎ (Every GoesOn (take k s) × ((k < length s) × (1 < get_or s k 0)))

bad_later : (k b : ℕ) (s : List ℕ) → 128 ≤ b → BadIn k s → BadIn (suc k) (b ∷ s)
bad_later k b s l (inl x) = inl ((l, x.0), omega (arith, x.1))
bad_later k b s l (inr x) = inr ((l, x.0), (omega (arith, x.1.0), x.1.1))

bad_sooner : (k b : ℕ) (s : List ℕ) → BadIn (suc k) (b ∷ s) → (128 ≤ b) × BadIn k s
bad_sooner k b s (inl x) = (x.0.0, inl (x.0.1, omega (arith, x.1)))
bad_sooner k b s (inr x) = (x.0.0, inr (x.0.1, (omega (arith, x.1.0), x.1.1)))

bad_in : (k : ℕ) (s : List ℕ) → Finds (is_bad (groups (suc k) s)) (BadIn k s)
unfolding groups joined
bad_in k [] = record { told = inl (tt, omega arith) }
bad_in zero (b ∷ s) = by (ltb b 128) (below b 128).told (ltb 1 b) (below 1 b).told
  where
    only_above : BadIn 0 (b ∷ s) → 1 < b
    only_above (inl x) = absurd (omega (arith, x.1))
    only_above (inr x) = x.1.1

    by : (c : Bool) → Told c (b < 128) → (d : Bool) → Told d (1 < b)
        → Finds (is_bad (cond c (cond d bad (got b 1)) (joined (b % 128) (groups 0 s)))) (BadIn 0 (b ∷ s))
    by true l true m = record { told = inr (tt, (omega arith, m)) }
    by true l false m = record { told = λ x. m (only_above x) }
    by false l d m = record { told = inr (tt, (omega arith, omega (arith, l))) }
bad_in (suc k) (b ∷ s) = by (ltb b 128) (below b 128).told (bad_in k s)
  where
    by : (c : Bool) → Told c (b < 128) → Finds (is_bad (groups (suc k) s)) (BadIn k s)
        → Finds (is_bad (cond c (cond (eqb (suc k) 0 && ltb 1 b) bad (got b 1)) (joined (b % 128) (groups (suc k) s))))
        (BadIn (suc k) (b ∷ s))
    by true l later = rw (ne_eqb (suc k) 0 (omega arith)) (record { told = λ x. omega (arith, (bad_sooner k b s x).0) })
    by false l later =
        rw (joined_bad (b % 128) (groups (suc k) s)) (reworded (bad_later k b s (omega (arith, l))) (λ x. (bad_sooner k b s x).1) later)

bad_varint_lem : (s : List ℕ) → Finds (is_bad (varint s)) (BadVarint s)
unfolding varint
bad_varint_lem s = bad_in 9 s

-- ---- tags
abbrev tag_says : TagResult → Verdict
tag_says (field n w used) = works
tag_says no_tag = works
tag_says (tag_error code) = refuses code

tag_decides : (s : List ℕ) → Decides (tag_grounds s) (tag_says (tag s))
unfolding tag split
tag_decides [] = end
tag_decides (b ∷ s) = by (varint (b ∷ s)) (bad_varint_lem (b ∷ s))
  where
    by : (g : VarintResult) → Finds (is_bad g) (BadVarint (b ∷ s))
        → Decides (ground_of 10 (BadVarint (b ∷ s)) ∷ ground_of 11 (WrongTag g) ∷ []) (tag_says (split g))
    by bad f = stopped f.told
    by (got v used) f =
        passed f.told (one_test tag_says (unlike (each (below v (2 ^ 32)) (each (below 0 (v / 8)) (below (v % 8) 6)))) refl refl)

-- a part that has bytes left is not at its end
not_ended : (b : ℕ) (s : List ℕ) → tag (b ∷ s) ≡ no_tag → ⊥
unfolding tag split
not_ended b s e = by (varint (b ∷ s)) e
  where
    on : (t : Bool) (v used : ℕ) → cond t (field (v / 8) (v % 8) used) (tag_error 11) ≡ no_tag → ⊥
    on true v used e = clash cc
    on false v used e = clash cc

    by : (g : VarintResult) → split g ≡ no_tag → ⊥
    by bad e = clash cc
    by (got v used) e = on (ltb v (2 ^ 32) && (ltb 0 (v / 8) && ltb (v % 8) 6)) v used e

-- ---- values
abbrev skip_says : SkipResult → Verdict
skip_says (skipped used) = works
skip_says (skip_error code) = refuses code

varint_decides : (s : List ℕ) → Decides (ground_of 10 (BadVarint s) ∷ []) (skip_says (skip_varint s))
unfolding skip_varint
varint_decides s = by (varint s) refl (bad_varint_lem s)
  where
    says : (o : SkipResult) → skip_varint s ≡ o → Decides (ground_of 10 (BadVarint s) ∷ []) (skip_says o)
        → Decides (ground_of 10 (BadVarint s) ∷ []) (skip_says (skip_varint s))
    says o e d = rw e d

    by : (g : VarintResult) → varint s ≡ g → Finds (is_bad (varint s)) (BadVarint s)
        → Decides (ground_of 10 (BadVarint s) ∷ []) (skip_says (skip_varint s))
    by bad e f = says (skip_error 10) (cc) (stopped (rw e at f).told)
    by (got v used) e f = says (skipped used) (cc) (passed (rw e at f).told end)

abbrev length_says : LengthResult → Verdict
length_says (bytes used size) = works
length_says (length_error code) = refuses code

length_decides : (s : List ℕ) (g : VarintResult) → VarintIn s g → Finds (is_bad g) (BadVarint s)
    → Decides (ground_of 10 (BadVarint s) ∷ ground_of 12 (LengthPast s g) ∷ []) (length_says (length_within s g))
unfolding length_within
length_decides s bad l f = stopped f.told
length_decides s (got size used) l f = passed f.told (one_test length_says past refl refl)
  where
    past : Tests (leb size (length s - used)) (length s < used + size)
    past =
        restated (λ (h : length s - used < size). omega (arith, l)) (λ (h : length s < used + size). omega (arith, l))
        (at_most size (length s - used))

skip_length : (s : List ℕ) → skip_says (skip_bytes s) ≡ length_says (length_prefix s)
unfolding skip_bytes
skip_length s = by (length_prefix s) refl
  where
    by : (v : LengthResult) → length_prefix s ≡ v → skip_says (skip_bytes s) ≡ length_says (length_prefix s)
    by (length_error code) e = let z : skip_bytes s ≡ skip_error code = cc in ap skip_says z ∙ sym (ap length_says e)
    by (bytes used size) e = let z : skip_bytes s ≡ skipped (used + size) = cc in ap skip_says z ∙ sym (ap length_says e)

bytes_decides : (s : List ℕ) → Decides (ground_of 10 (BadVarint s) ∷ ground_of 12 (LengthPast s (varint s)) ∷ []) (skip_says (skip_bytes s))
unfolding length_prefix
bytes_decides s = rw (skip_length s) (length_decides s (varint s) (varint_in s) (bad_varint_lem s))

further_says : (k : ℕ) (o : SkipResult) → skip_says (skip_after k o) ≡ skip_says o
unfolding skip_after
further_says k (skipped used) = refl
further_says k (skip_error code) = refl

-- an answer that says one thing says no other
worked_not : (n : ℕ) → refuses n ≡ works → ⊥
worked_not n e = clash cc

module _ (skip : ℕ → ℕ → List ℕ → SkipResult) (group : ℕ → ℕ → List ℕ → List Ground)
    (q : (n d : ℕ) (s : List ℕ) → Decides (group n d s) (skip_says (skip n d s))) where
  value_decides : (n : ℕ) (w : WireType) (d : ℕ) (s : List ℕ) → Decides (value_grounds group n w d s) (skip_says (value skip n w d s))
  unfolding value skip_fixed
  value_decides n VARINT d s = varint_decides s
  value_decides n I64 d s = one_test skip_says (at_most 8 (length s)) refl refl
  value_decides n LEN d s = bytes_decides s
  value_decides n SGROUP zero s = stopped tt
  value_decides n SGROUP (suc d) s = q n d s
  value_decides n EGROUP d s = stopped tt
  value_decides n I32 d s = one_test skip_says (at_most 4 (length s)) refl refl
  value_decides n reserved d s = stopped tt

  -- ---- groups
  module _ (n d b : ℕ) (rest : List ℕ) where
    abbrev s : List ℕ
    s = b ∷ rest

    -- a field in the group, whose tag is good
    module _ (m w used : ℕ) (e : tag s ≡ field m w used) where
      abbrev its_value : SkipResult
      its_value = value skip m (wire_type w) d (drop used s)

      ends_here : eqb w 4 ≡ true → in_group skip n d s ≡ cond (eqb m n) (skipped used) (skip_error 11)
      unfolding in_group
      ends_here g = cc

      value_fails : (code : ℕ) → eqb w 4 ≡ false → its_value ≡ skip_error code → in_group skip n d s ≡ skip_error code
      unfolding in_group
      value_fails code g v = cc

      goes_on : (size : ℕ) → eqb w 4 ≡ false → its_value ≡ skipped size
          → in_group skip n d s ≡ skip_after (used + size) (skip n d (drop (used + size) s))
      unfolding in_group
      goes_on size g v = cc

      field_decides : Decides (field_in_group skip group n d s (field m w used)) (skip_says (in_group skip n d s))
      field_decides = on (eqb w 4) refl
        where
          next : eqb w 4 ≡ false → (o : SkipResult) → its_value ≡ o → skip_says its_value ≡ works
              → Decides (next_in_group group n d used s its_value) (skip_says (in_group skip n d s))
          next g (skip_error code) v fine = absurd (worked_not code (sym (ap skip_says v) ∙ fine))
          next g (skipped size) v fine =
              rw (v, goes_on size g v, further_says (used + size) (skip n d (drop (used + size) s))) (q n d (drop (used + size) s))

          stop : eqb w 4 ≡ false → (o : SkipResult) → its_value ≡ o → (k : ℕ) → skip_says its_value ≡ refuses k
              → skip_says (in_group skip n d s) ≡ refuses k
          stop g (skip_error code) v k wrong = ap skip_says (value_fails code g v) ∙ sym (ap skip_says v) ∙ wrong
          stop g (skipped size) v k wrong = absurd (worked_not k (sym wrong ∙ ap skip_says v))

          on : (t : Bool) → eqb w 4 ≡ t → Decides (field_in_group skip group n d s (field m w used)) (skip_says (in_group skip n d s))
          on true g = rw (g, ends_here g) (one_test skip_says (unlike (equal m n)) refl refl)
          on false g =
              rw g
              (followed (value_grounds group m (wire_type w) d (drop used s)) (value_decides m (wire_type w) d (drop used s))
              (next g its_value refl) (stop g its_value refl))

    tag_fails : (code : ℕ) → tag s ≡ tag_error code → in_group skip n d s ≡ skip_error code
    unfolding in_group
    tag_fails code e = cc

    some_left : Decides (in_group_grounds skip group n d s) (skip_says (in_group skip n d s))
    some_left =
        passed (λ (e : s ≡ []). clash cc)
        (followed (tag_grounds s) (tag_decides s) (next (tag s) refl) (stop (tag s) refl))
      where
        next : (t : TagResult) → tag s ≡ t → tag_says (tag s) ≡ works
            → Decides (field_in_group skip group n d s (tag s)) (skip_says (in_group skip n d s))
        next no_tag e fine = absurd (not_ended b rest e)
        next (tag_error code) e fine = absurd (worked_not code (sym (ap tag_says e) ∙ fine))
        next (field m w used) e fine =
            subst (λ (t : TagResult). Decides (field_in_group skip group n d s t) (skip_says (in_group skip n d s))) (sym e)
            (field_decides m w used e)

        stop : (t : TagResult) → tag s ≡ t → (k : ℕ) → tag_says (tag s) ≡ refuses k → skip_says (in_group skip n d s) ≡ refuses k
        stop no_tag e k wrong = absurd (not_ended b rest e)
        stop (tag_error code) e k wrong = ap skip_says (tag_fails code e) ∙ sym (ap tag_says e) ∙ wrong
        stop (field m w used) e k wrong = absurd (worked_not k (sym wrong ∙ ap tag_says e))

  in_group_decides : (n d : ℕ) (s : List ℕ) → Decides (in_group_grounds skip group n d s) (skip_says (in_group skip n d s))
  unfolding in_group tag
  in_group_decides n d [] = stopped refl
  in_group_decides n d (b ∷ rest) = some_left n d b rest

group_decides : (steps n d : ℕ) (s : List ℕ) → Decides (group_grounds steps n d s) (skip_says (group_in steps n d s))
unfolding group_in
group_decides zero n d s = stopped tt
group_decides (suc steps) n d s = in_group_decides (group_in steps) (group_grounds steps) (group_decides steps) n d s

-- ---- a field of a message
abbrev field_says : FieldResult → Verdict
field_says no_field = works
field_says (varint_field n v used) = works
field_says (fixed64_field n v used) = works
field_says (bytes_field n used size) = works
field_says (group_field n used) = works
field_says (fixed32_field n v used) = works
field_says (field_error code) = refuses code

-- it is refused as a value that is passed over
fixed_says : (b : Bool) (f : FieldResult) (width : ℕ) → field_says f ≡ works
    → field_says (cond b f (field_error 12)) ≡ skip_says (cond b (skipped width) (skip_error 12))
fixed_says true f width e = e
fixed_says false f width e = refl

content_says : (n : ℕ) (w : WireType) (s : List ℕ) → field_says (content n w s) ≡ skip_says (value (group_in (length s)) n w max_depth s)
unfolding content value skip_fixed skip_varint skip_bytes
content_says n VARINT s = by (varint s) refl
  where
    by : (g : VarintResult) → varint s ≡ g → field_says (content n VARINT s) ≡ skip_says (skip_varint s)
    by bad e =
        let y : content n VARINT s ≡ field_error 10 = cc in let z : skip_varint s ≡ skip_error 10 = cc in ap field_says y ∙ sym (ap skip_says z)
    by (got v used) e =
        let y : content n VARINT s ≡ varint_field n v used = cc in let z : skip_varint s ≡ skipped used = cc in ap field_says y
        ∙ sym (ap skip_says z)
content_says n I64 s = fixed_says (leb 8 (length s)) (fixed64_field n (little_endian (take 8 s)) 8) 8 refl
content_says n LEN s = by (length_prefix s) refl
  where
    by : (v : LengthResult) → length_prefix s ≡ v → field_says (content n LEN s) ≡ skip_says (skip_bytes s)
    by (length_error code) e =
        let y : content n LEN s ≡ field_error code = cc in let z : skip_bytes s ≡ skip_error code = cc in ap field_says y ∙ sym (ap skip_says z)
    by (bytes used size) e =
        let y : content n LEN s ≡ bytes_field n used size = cc in let z : skip_bytes s ≡ skipped (used + size) = cc in ap field_says y
        ∙ sym (ap skip_says z)
content_says n SGROUP s = by (value (group_in (length s)) n SGROUP max_depth s) refl
  where
    by : (o : SkipResult) → value (group_in (length s)) n SGROUP max_depth s ≡ o
        → field_says (content n SGROUP s) ≡ skip_says (value (group_in (length s)) n SGROUP max_depth s)
    by (skip_error code) e = let y : content n SGROUP s ≡ field_error code = cc in ap field_says y ∙ sym (ap skip_says e)
    by (skipped used) e = let y : content n SGROUP s ≡ group_field n used = cc in ap field_says y ∙ sym (ap skip_says e)
content_says n EGROUP s = refl
content_says n I32 s = fixed_says (leb 4 (length s)) (fixed32_field n (little_endian (take 4 s)) 4) 4 refl
content_says n reserved s = refl

behind_says : (k : ℕ) (f : FieldResult) → field_says (field_after k f) ≡ field_says f
unfolding field_after
behind_says k no_field = refl
behind_says k (varint_field n v used) = refl
behind_says k (fixed64_field n v used) = refl
behind_says k (bytes_field n used size) = refl
behind_says k (group_field n used) = refl
behind_says k (fixed32_field n v used) = refl
behind_says k (field_error code) = refl

module _ (s : List ℕ) where
  no_field_lem : tag s ≡ no_tag → next_field s ≡ no_field
  unfolding next_field
  no_field_lem e = cc

  bad_tag_lem : (code : ℕ) → tag s ≡ tag_error code → next_field s ≡ field_error code
  unfolding next_field
  bad_tag_lem code e = cc

  good_tag_lem : (n w used : ℕ) → tag s ≡ field n w used → next_field s ≡ field_after used (content n (wire_type w) (drop used s))
  unfolding next_field
  good_tag_lem n w used e = cc

  place_decides : Decides (place_grounds s) (field_says (next_field s))
  place_decides = followed (tag_grounds s) (tag_decides s) (next (tag s) refl) (stop (tag s) refl)
    where
      next : (t : TagResult) → tag s ≡ t → tag_says (tag s) ≡ works → Decides (content_grounds s (tag s)) (field_says (next_field s))
      next no_tag e fine = rw (e, no_field_lem e) end
      next (tag_error code) e fine = absurd (worked_not code (sym (ap tag_says e) ∙ fine))
      next (field n w used) e fine =
          let left = drop used s in
          rw (e, good_tag_lem n w used e, behind_says used (content n (wire_type w) (drop used s)), content_says n (wire_type w) (drop used s))
          (value_decides (group_in (length left)) (group_grounds (length left)) (group_decides (length left)) n (wire_type w) max_depth left)

      stop : (t : TagResult) → tag s ≡ t → (k : ℕ) → tag_says (tag s) ≡ refuses k → field_says (next_field s) ≡ refuses k
      stop no_tag e k wrong = absurd (worked_not k (sym wrong ∙ ap tag_says e))
      stop (tag_error code) e k wrong = ap field_says (bad_tag_lem code e) ∙ sym (ap tag_says e) ∙ wrong
      stop (field n w used) e k wrong = absurd (worked_not k (sym wrong ∙ ap tag_says e))

-- ---- and what follows it
module _ (frame : List ℕ) (read : Reader) (grounds : Grounds)
    (q : (sch : Schema) (i at : ℕ) (s : List ℕ) (st : State) → Decides (grounds sch i at s st) (result_says (read sch i at s st))) where
  -- a part that was read, and then what follows
  then_decides : (gs : List Ground) (o : Result) → Decides gs (result_says o)
      → (next : State → List Ground) (later : State → Result) (all : Result)
      → ((st : State) → o ≡ ok st → all ≡ later st) → ((code : ℕ) → o ≡ refused code → all ≡ refused code)
      → ((st : State) → Decides (next st) (result_says (later st))) → Decides (gs ++ once_read o next) (result_says all)
  then_decides gs (ok st) d next later all fine wrong after =
      followed gs d (λ e. subst (λ (r : Result). Decides (next st) (result_says r)) (sym (fine st refl)) (after st))
      (λ n e. absurd (worked_not n (sym e)))
  then_decides gs (refused code) d next later all fine wrong after =
      followed gs d (λ e. absurd (worked_not code e)) (λ n e. ap result_says (wrong code refl) ∙ e)

  module _ (sch : Schema) (i at : ℕ) (x rest : List ℕ) (st : State) where
    abbrev whole : Target → Result
    whole t = inside frame read sch i at x rest st t

    entry_decides : Decides (inside_grounds frame read grounds sch i at x rest st an_entry) (result_says (whole an_entry))
    unfolding inside and_then with_field
    entry_decides = by (ltb st.entries 64) refl (below st.entries 64).told
      where
        by : (b : Bool) → ltb st.entries 64 ≡ b → Told b (st.entries < 64)
            → Decides (inside_grounds frame read grounds sch i at x rest st an_entry) (result_says (whole an_entry))
        by false e many =
            let z : whole an_entry
            ≡ refused 14 =
            cc in subst (λ (r : Result). Decides (inside_grounds frame read grounds sch i at x rest st an_entry) (result_says r))
            (sym z) (stopped (omega arith))
        by true e few =
            passed (λ (many : 64 ≤ st.entries). omega arith)
            (then_decides (grounds entry 0 at x blank) (read entry 0 at x blank) (q entry 0 at x blank)
            (λ e. grounds sch i (at + length x) rest (add_entry frame e st)) (λ e. read sch i (at + length x) rest (add_entry frame e st))
            (whole an_entry)
            (λ new f. cc) (λ code f. cc) (λ new. q sch i (at + length x) rest (add_entry frame new st)))

    inside_decides : (t : Target) → Decides (inside_grounds frame read grounds sch i at x rest st t) (result_says (whole t))
    unfolding inside and_then with_field
    inside_decides (a_number slot) = q sch i (at + length x) rest st
    inside_decides unknown = q sch i (at + length x) rest st
    inside_decides (some_bytes slot) = q sch i (at + length x) rest (set_bytes slot at (length x) st)
    inside_decides an_entry = entry_decides
    inside_decides (a_message slot inner) =
        then_decides (grounds inner (slot + 1) at x (set_slot slot 1 st)) (read inner (slot + 1) at x (set_slot slot 1 st))
        (q inner (slot + 1) at x (set_slot slot 1 st))
        (λ after. grounds sch i (at + length x) rest after) (λ after. read sch i (at + length x) rest after) (whole (a_message slot inner))
        (λ new f. cc) (λ code f. cc) (λ new. q sch i (at + length x) rest new)

  field_then : (sch : Schema) (i at : ℕ) (s : List ℕ) (st : State)
      → Decides (place_grounds s ++ further_grounds frame read grounds sch i at s st (next_field s))
      (result_says (one_field frame read sch i at s st))
  unfolding one_field
  field_then sch i at s st = followed (place_grounds s) (place_decides s) (next (next_field s) refl) (stop (next_field s) refl)
    where
      all : Result
      all = one_field frame read sch i at s st

      goes : (f : FieldResult) (r : Result) → next_field s ≡ f → all ≡ r
          → Decides (further_grounds frame read grounds sch i at s st f) (result_says r)
          → Decides (further_grounds frame read grounds sch i at s st (next_field s)) (result_says all)
      goes f r e z d = rw (e, z) d

      next : (f : FieldResult) → next_field s ≡ f → field_says (next_field s) ≡ works
          → Decides (further_grounds frame read grounds sch i at s st (next_field s)) (result_says all)
      next no_field e fine = goes no_field (ok st) e (cc) end
      next (field_error code) e fine = absurd (worked_not code (sym (ap field_says e) ∙ fine))
      next (varint_field n v used) e fine =
          goes (varint_field n v used) (read sch i (at + used) (drop used s) (set_number (look sch i n) v st)) e (cc)
          (q sch i (at + used) (drop used s) (set_number (look sch i n) v st))
      next (fixed64_field n v used) e fine =
          goes (fixed64_field n v used) (read sch i (at + used) (drop used s) st) e (cc) (q sch i (at + used) (drop used s) st)
      next (group_field n used) e fine =
          goes (group_field n used) (read sch i (at + used) (drop used s) st) e (cc) (q sch i (at + used) (drop used s) st)
      next (fixed32_field n v used) e fine =
          goes (fixed32_field n v used) (read sch i (at + used) (drop used s) st) e (cc) (q sch i (at + used) (drop used s) st)
      next (bytes_field n used size) e fine =
          goes (bytes_field n used size)
          (inside frame read sch i (at + used) (take size (drop used s)) (drop size (drop used s)) st (look sch i n)) e (cc)
          (inside_decides sch i (at + used) (take size (drop used s)) (drop size (drop used s)) st (look sch i n))

      stop : (f : FieldResult) → next_field s ≡ f → (k : ℕ) → field_says (next_field s) ≡ refuses k → result_says all ≡ refuses k
      stop no_field e k wrong = absurd (worked_not k (sym wrong ∙ ap field_says e))
      stop (field_error code) e k wrong = let z : all ≡ refused code = cc in ap result_says z ∙ sym (ap field_says e) ∙ wrong
      stop (varint_field n v used) e k wrong = absurd (worked_not k (sym wrong ∙ ap field_says e))
      stop (fixed64_field n v used) e k wrong = absurd (worked_not k (sym wrong ∙ ap field_says e))
      stop (group_field n used) e k wrong = absurd (worked_not k (sym wrong ∙ ap field_says e))
      stop (fixed32_field n v used) e k wrong = absurd (worked_not k (sym wrong ∙ ap field_says e))
      stop (bytes_field n used size) e k wrong = absurd (worked_not k (sym wrong ∙ ap field_says e))

fields_decide : (steps : ℕ) (frame : List ℕ) (sch : Schema) (i at : ℕ) (s : List ℕ) (st : State)
    → Decides (fields_grounds steps frame sch i at s st) (result_says (fields_in steps frame sch i at s st))
unfolding fields_in
fields_decide zero frame sch i at s st = end
fields_decide (suc steps) frame sch i at s st =
    field_then frame (fields_in steps frame) (fields_grounds steps frame) (fields_decide steps frame) sch i at s st

pub message_decides : (frame : List ℕ) (sch : Schema) (at : ℕ) (s : List ℕ)
    → Decides (message_grounds frame sch at s) (result_says (read_message frame sch at s))
unfolding read_message
message_decides frame sch at s = fields_decide (length s) frame sch 0 at s blank
