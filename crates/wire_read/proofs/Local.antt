-- A reading that is settled does not depend on what follows: with more bytes after `s` the answer is the same.
-- Settled is every answer that found what it looked for, and of the error codes 11 and 13. Not settled are the end of the part, and 10
-- and 12, which may say only that the part ends too soon.
use Prim.Native.Nat.{ℕ, zero, suc, ◌+◌, ◌-◌, ◌%◌, ◌≤◌}
use mathlib.Core.Path.{◌≡◌, refl, ap, subst, ◌∙◌}
use mathlib.Core.Bool.{Bool, true, false, cond, ◌&&◌}
use mathlib.Core.Logic.{◌⊎◌, inl, inr}
use mathlib.Core.List.{List, [], ◌∷◌, ◌++◌}
use lib.ListN.{length, take, drop, length-append, length-drop}
use lib.Seq.{take-append-le, drop-append-le}
use lib.Dec.{ltb, leb, eqb}
use native.Mathlib.Omega.{arith}
use borrow.Author.Tests.{le-leb, leb-true}
use Rattle.laws.proofs.Booleans.{clash, choose}
use Rattle.refusals.specs.Numbers.{past_end}
use Rattle.wire_read.specs.Varint.{VarintResult, got, bad, joined, groups, varint}
use Rattle.wire_read.specs.Tags.{WireType, VARINT, I64, LEN, SGROUP, EGROUP, I32, reserved, wire_type, TagResult, field, no_tag}
use Rattle.wire_read.specs.Tags.{tag_error, split, tag, LengthResult, bytes, length_error, length_within, length_prefix}
use Rattle.wire_read.specs.Skipping.{SkipResult, skipped, skip_error, skip_after, skip_varint, skip_fixed, skip_bytes, value, in_group}
use Rattle.wire_read.specs.Skipping.{group_in, skip_group, skip_value}
use Rattle.wire_read.specs.Fields.{FieldResult, no_field, varint_field, fixed64_field, bytes_field, group_field, fixed32_field}
use Rattle.wire_read.specs.Fields.{field_error, little_endian, content, field_after, next_field}
use Rattle.wire_read.proofs.Cases.{varint_cases, tag_cases, length_cases, skip_cases, flag_cases}
use Rattle.wire_read.proofs.Bounds.{TagIn, tag_in, SkipIn, skip_value_in}
use Rattle.wire_read.proofs.Fuel.{skip_group_enough, skip_value_enough}

-- the error codes that more bytes do not change
abbrev pub Lasting : ℕ → Type 0
Lasting code = (code ≡ 11) ⊎ (code ≡ 13)

not_ten : Lasting 10 → ⊥
not_ten (inl e) = omega arith
not_ten (inr e) = omega arith

not_twelve : Lasting 12 → ⊥
not_twelve (inl e) = omega arith
not_twelve (inr e) = omega arith

-- ---- varints
abbrev pub VarintSettled : VarintResult → Type 0
VarintSettled (got v used) = Unit {0}
VarintSettled bad = ⊥

joined_settled : (low : ℕ) (g : VarintResult) → VarintSettled (joined low g) → VarintSettled g
unfolding joined
joined_settled low (got v used) h = tt
joined_settled low bad h = h

groups_local : (room : ℕ) (s t : List ℕ) → VarintSettled (groups room s) → groups room (s ++ t) ≡ groups room s
unfolding groups
groups_local zero s t h = refl
groups_local (suc room) [] t h = absurd h
groups_local (suc room) (b ∷ s) t h = by (ltb b 128) (groups_local room s t) h
  where
    by : (f : Bool) → (VarintSettled (groups room s) → groups room (s ++ t) ≡ groups room s)
        → VarintSettled (cond f (cond (eqb room 0 && ltb 1 b) bad (got b 1)) (joined (b % 128) (groups room s)))
        → cond f (cond (eqb room 0 && ltb 1 b) bad (got b 1)) (joined (b % 128) (groups room (s ++ t)))
        ≡ cond f (cond (eqb room 0 && ltb 1 b) bad (got b 1)) (joined (b % 128) (groups room s))
    by true i q = refl
    by false i q = ap (joined (b % 128)) (i (joined_settled (b % 128) (groups room s) q))

pub varint_local : (s t : List ℕ) → VarintSettled (varint s) → varint (s ++ t) ≡ varint s
unfolding varint
varint_local s t h = groups_local 10 s t h

-- ---- tags
abbrev pub TagSettled : TagResult → Type 0
TagSettled (field n w used) = Unit {0}
TagSettled no_tag = ⊥
TagSettled (tag_error code) = Lasting code

split_settled : (g : VarintResult) → TagSettled (split g) → VarintSettled g
unfolding split
split_settled bad h = not_ten h
split_settled (got v used) h = tt

pub tag_local : (s t : List ℕ) → TagSettled (tag s) → tag (s ++ t) ≡ tag s
unfolding tag
tag_local [] t h = absurd h
tag_local (b ∷ s) t h = ap split (varint_local (b ∷ s) t (split_settled (varint (b ∷ s)) h))

-- ---- lengths
abbrev pub LengthSettled : LengthResult → Type 0
LengthSettled (bytes used size) = Unit {0}
LengthSettled (length_error code) = ⊥

pub length_prefix_local : (s t : List ℕ) → LengthSettled (length_prefix s) → length_prefix (s ++ t) ≡ length_prefix s
unfolding length_prefix length_within
length_prefix_local s t = by (varint s) refl
  where
    by : (g : VarintResult) → varint s ≡ g → LengthSettled (length_within s g) → length_prefix (s ++ t) ≡ length_within s g
    by bad e = λ q. absurd q
    by (got size used) e =
        choose (λ (r : LengthResult). LengthSettled r → length_prefix (s ++ t) ≡ r) (leb size (length s - used)) (bytes used size)
        (length_error past_end)
        (λ fits q.
        let v : varint (s ++ t) ≡ got size used = varint_local s t (rw e tt) ∙ e in
        let more : size ≤ length (s ++ t) - used = omega (arith, length-append s t, leb-true size (length s - used) fits) in
        rw (v, le-leb size (length (s ++ t) - used) more))
        (λ e q. absurd q)

-- ---- values and groups that are skipped
abbrev pub SkipSettled : SkipResult → Type 0
SkipSettled (skipped used) = Unit {0}
SkipSettled (skip_error code) = Lasting code

skip_varint_local : (s t : List ℕ) → SkipSettled (skip_varint s) → skip_varint (s ++ t) ≡ skip_varint s
unfolding skip_varint
skip_varint_local s t =
    varint_cases (λ (o : SkipResult). SkipSettled o → skip_varint (s ++ t) ≡ o) (λ (g : VarintResult). varint s ≡ g) (varint s) refl
    (λ e h. absurd (not_ten h)) (λ v used e h. cc (varint_local s t (rw e tt)))

skip_fixed_local : (width : ℕ) (s t : List ℕ) → SkipSettled (skip_fixed width s) → skip_fixed width (s ++ t) ≡ skip_fixed width s
unfolding skip_fixed
skip_fixed_local width s t =
    choose (λ (o : SkipResult). SkipSettled o → skip_fixed width (s ++ t) ≡ o) (leb width (length s)) (skipped width) (skip_error past_end)
    (λ e h. rw (le-leb width (length (s ++ t)) (omega (arith, length-append s t, leb-true width (length s) e))))
    (λ e h. absurd (not_twelve h))

length_codes : (s : List ℕ) (code : ℕ) → length_prefix s ≡ length_error code → Lasting code → ⊥
unfolding length_prefix length_within
length_codes s code e h = by (varint s) e
  where
    by : (g : VarintResult) → length_within s g ≡ length_error code → ⊥
    by bad q = let z : code ≡ 10 = cc in not_ten (rw z at h)
    by (got size used) q = on (leb size (length s - used)) q
      where
        on : (f : Bool) → cond f (bytes used size) (length_error past_end) ≡ length_error code → ⊥
        on true r = clash cc
        on false r = let z : code ≡ 12 = cc in not_twelve (rw z at h)

skip_bytes_local : (s t : List ℕ) → SkipSettled (skip_bytes s) → skip_bytes (s ++ t) ≡ skip_bytes s
unfolding skip_bytes
skip_bytes_local s t =
    length_cases (λ (o : SkipResult). SkipSettled o → skip_bytes (s ++ t) ≡ o) (λ (g : LengthResult). length_prefix s ≡ g) (length_prefix s)
    refl (λ code e h. absurd (length_codes s code e h)) (λ used size e h. cc (length_prefix_local s t (rw e tt)))

module _ (g : ℕ → ℕ → List ℕ → SkipResult) (t : List ℕ) where
  value_local : (n : ℕ) (w : WireType) (d : ℕ) (s : List ℕ) → ((m e : ℕ) → SkipSettled (g m e s) → g m e (s ++ t) ≡ g m e s)
      → SkipSettled (value g n w d s) → value g n w d (s ++ t) ≡ value g n w d s
  unfolding value
  value_local n VARINT d s q h = skip_varint_local s t h
  value_local n I64 d s q h = skip_fixed_local 8 s t h
  value_local n LEN d s q h = skip_bytes_local s t h
  value_local n SGROUP zero s q h = refl
  value_local n SGROUP (suc d) s q h = q n d h
  value_local n EGROUP d s q h = refl
  value_local n I32 d s q h = skip_fixed_local 4 s t h
  value_local n reserved d s q h = refl

skip_after_settled : (n : ℕ) (o : SkipResult) → SkipSettled (skip_after n o) → SkipSettled o
unfolding skip_after
skip_after_settled n (skipped used) h = tt
skip_after_settled n (skip_error code) h = h

module _ (k : ℕ) (t : List ℕ)
    (q : (m e : ℕ) (z : List ℕ) → SkipSettled (group_in k m e z) → group_in k m e (z ++ t) ≡ group_in k m e z)
    (n d : ℕ) (s : List ℕ) where
  abbrev Stays : SkipResult → Type 0
  Stays o = SkipSettled o → in_group (group_in k) n d (s ++ t) ≡ o

  in_group_local : Stays (in_group (group_in k) n d s)
  unfolding in_group
  in_group_local =
      tag_cases Stays (λ (r : TagResult). tag s ≡ r) (tag s) refl (λ e h. absurd (not_twelve h)) (λ code e h. cc (tag_local s t (rw e h)))
      (λ m w used e.
      let b : TagIn s (field m w used) = subst (TagIn s) e (tag_in s) in
      let u : tag (s ++ t) ≡ tag s = tag_local s t (rw e tt) in
      let left : drop used (s ++ t) ≡ drop used s ++ t = drop-append-le used s t b.1 in
      let one : SkipResult = value (group_in k) m (wire_type w) d (drop used s) in
      let inner = value_local (group_in k) t m (wire_type w) d (drop used s) (λ x y. q x y (drop used s)) in
      flag_cases Stays (λ (f : Bool). eqb w 4 ≡ f) (eqb w 4) refl (λ f h. cc) (λ f.
      skip_cases Stays (λ (o : SkipResult). one ≡ o) one refl (λ code v h. cc (inner (rw v h))) (λ size v h.
      let l = skip_after_settled (used + size) (group_in k n d (drop (used + size) s)) h in
      let i : SkipIn (drop used s) (skipped size) = subst (SkipIn (drop used s)) v (skip_value_in k m (wire_type w) d (drop used s)) in
      let there : drop (used + size) (s ++ t) ≡ drop (used + size) s ++ t =
      drop-append-le (used + size) s t (omega (arith, length-drop used s)) in
      cc (inner (rw v tt), q n d (drop (used + size) s) l))))

group_in_local : (k n d : ℕ) (s t : List ℕ) → SkipSettled (group_in k n d s) → group_in k n d (s ++ t) ≡ group_in k n d s
unfolding group_in
group_in_local zero n d s t h = refl
group_in_local (suc k) n d s t h = in_group_local k t (λ m e z. group_in_local k m e z t) n d s h

pub skip_group_local : (n d : ℕ) (s t : List ℕ) → SkipSettled (skip_group n d s) → skip_group n d (s ++ t) ≡ skip_group n d s
skip_group_local n d s t h =
    let same = skip_group_enough (length (s ++ t)) n d s (omega (arith, length-append s t)) in
    group_in_local (length (s ++ t)) n d s t (rw same h) ∙ same

pub skip_value_local : (n w d : ℕ) (s t : List ℕ) → SkipSettled (skip_value n w d s) → skip_value n w d (s ++ t) ≡ skip_value n w d s
skip_value_local n w d s t h =
    let same = skip_value_enough (length (s ++ t)) n w d s (omega (arith, length-append s t)) in
    value_local (group_in (length (s ++ t))) t n (wire_type w) d s (λ m e. group_in_local (length (s ++ t)) m e s t) (rw same h) ∙ same

-- ---- fields
abbrev pub FieldSettled : FieldResult → Type 0
FieldSettled no_field = ⊥
FieldSettled (varint_field n v used) = Unit {0}
FieldSettled (fixed64_field n v used) = Unit {0}
FieldSettled (bytes_field n used size) = Unit {0}
FieldSettled (group_field n used) = Unit {0}
FieldSettled (fixed32_field n v used) = Unit {0}
FieldSettled (field_error code) = Lasting code

module _ (n : ℕ) (s t : List ℕ) where
  fixed_local : (width : ℕ) (f : ℕ → FieldResult)
      → FieldSettled (cond (leb width (length s)) (f (little_endian (take width s))) (field_error past_end))
      → cond (leb width (length (s ++ t))) (f (little_endian (take width (s ++ t)))) (field_error past_end)
      ≡ cond (leb width (length s)) (f (little_endian (take width s))) (field_error past_end)
  fixed_local width f h = by (leb width (length s)) refl h
    where
      by : (b : Bool) → leb width (length s) ≡ b → FieldSettled (cond b (f (little_endian (take width s))) (field_error past_end))
          → cond (leb width (length (s ++ t))) (f (little_endian (take width (s ++ t)))) (field_error past_end)
          ≡ cond b (f (little_endian (take width s))) (field_error past_end)
      by true e q =
          let room = leb-true width (length s) e in
          rw (le-leb width (length (s ++ t)) (omega (arith, length-append s t)), take-append-le width s t room)
      by false e q = absurd (not_twelve q)

  content_local : (w : WireType) → FieldSettled (content n w s) → content n w (s ++ t) ≡ content n w s
  unfolding content wire_type
  content_local VARINT =
      varint_cases (λ (x : FieldResult). FieldSettled x → content n VARINT (s ++ t) ≡ x) (λ (g : VarintResult). varint s ≡ g)
      (varint s) refl
      (λ e h. absurd (not_ten h)) (λ v used e h. cc (varint_local s t (rw e tt)))
  content_local I64 = fixed_local 8 (λ (v : ℕ). fixed64_field n v 8)
  content_local LEN =
      length_cases (λ (x : FieldResult). FieldSettled x → content n LEN (s ++ t) ≡ x) (λ (g : LengthResult). length_prefix s ≡ g)
      (length_prefix s) refl (λ code e h. absurd (length_codes s code e h)) (λ used size e h. cc (length_prefix_local s t (rw e tt)))
  content_local SGROUP =
      skip_cases (λ (x : FieldResult). FieldSettled x → content n SGROUP (s ++ t) ≡ x) (λ (o : SkipResult). skip_value n 3 32 s ≡ o)
      (skip_value n 3 32 s) refl
      (λ code e h. cc (skip_value_local n 3 32 s t (rw e h))) (λ used e h. cc (skip_value_local n 3 32 s t (rw e tt)))
  content_local EGROUP = λ h. refl
  content_local I32 = fixed_local 4 (λ (v : ℕ). fixed32_field n v 4)
  content_local reserved = λ h. refl

field_after_settled : (n : ℕ) (f : FieldResult) → FieldSettled (field_after n f) → FieldSettled f
unfolding field_after
field_after_settled n no_field h = h
field_after_settled n (varint_field m v used) h = tt
field_after_settled n (fixed64_field m v used) h = tt
field_after_settled n (bytes_field m used size) h = tt
field_after_settled n (group_field m used) h = tt
field_after_settled n (fixed32_field m v used) h = tt
field_after_settled n (field_error code) h = h

pub next_field_local : (s t : List ℕ) → FieldSettled (next_field s) → next_field (s ++ t) ≡ next_field s
unfolding next_field
next_field_local s t =
    tag_cases (λ (x : FieldResult). FieldSettled x → next_field (s ++ t) ≡ x) (λ (r : TagResult). tag s ≡ r) (tag s) refl
    (λ e h. absurd h) (λ code e h. cc (tag_local s t (rw e h))) (λ n w used e h.
    let l = field_after_settled used (content n (wire_type w) (drop used s)) h in
    let b : TagIn s (field n w used) = subst (TagIn s) e (tag_in s) in
    let left : drop used (s ++ t) ≡ drop used s ++ t = drop-append-le used s t b.1 in
    cc (tag_local s t (rw e tt), content_local n (drop used s) t (wire_type w) l))
