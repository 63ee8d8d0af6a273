-- Progress and bounds: what a reading of `s` takes is at least a byte and ends within `s`. Nothing past the part is ever needed.
use Prim.Native.Nat.{ℕ, zero, suc, ◌+◌, ◌-◌, ◌/◌, ◌%◌, ◌^◌, ◌<◌, ◌≤◌}
use mathlib.Core.Bool.{Bool, cond, ◌&&◌}
use mathlib.Core.List.{List, [], ◌∷◌}
use lib.ListN.{length, drop, take, length-drop}
use lib.Dec.{ltb, leb, eqb}
use native.Mathlib.Omega.{arith}
use borrow.Author.Tests.{leb-true}
use Rattle.laws.proofs.Booleans.{either, choose}
use Rattle.refusals.specs.Numbers.{past_end}
use Rattle.wire_read.proofs.Cases.{varint_cases, tag_cases, length_cases, skip_cases, flag_cases}
use Rattle.wire_read.specs.Varint.{VarintResult, got, bad, joined, groups, varint}
use Rattle.wire_read.specs.Tags.{WireType, VARINT, I64, LEN, SGROUP, EGROUP, I32, reserved, wire_type, TagResult, field, no_tag}
use Rattle.wire_read.specs.Tags.{tag_error, split, tag, LengthResult, bytes, length_error, length_within, length_prefix}
use Rattle.wire_read.specs.Skipping.{SkipResult, skipped, skip_error, skip_after, skip_varint, skip_fixed, skip_bytes, value, in_group}
use Rattle.wire_read.specs.Skipping.{group_in}
use Rattle.wire_read.specs.Fields.{FieldResult, no_field, varint_field, fixed64_field, bytes_field, group_field, fixed32_field}
use Rattle.wire_read.specs.Fields.{field_error, little_endian, content, field_after, next_field}

-- varints
abbrev pub VarintIn : List ℕ → VarintResult → Type 0
VarintIn s (got v used) = (0 < used) × (used ≤ length s)
VarintIn s bad = Unit {0}

joined_in : (b low : ℕ) (s : List ℕ) (g : VarintResult) → VarintIn s g → VarintIn (b ∷ s) (joined low g)
unfolding joined
joined_in b low s (got v used) h = (omega arith, omega arith)
joined_in b low s bad h = tt

groups_in : (room : ℕ) (s : List ℕ) → VarintIn s (groups room s)
unfolding groups
groups_in zero s = tt
groups_in (suc room) [] = tt
groups_in (suc room) (b ∷ s) =
    either (VarintIn (b ∷ s)) (ltb b 128)
    (either (VarintIn (b ∷ s)) (eqb room 0 && ltb 1 b) tt (omega arith, omega arith))
    (joined_in b (b % 128) s (groups room s) (groups_in room s))

pub varint_in : (s : List ℕ) → VarintIn s (varint s)
unfolding varint
varint_in s = groups_in 10 s

-- tags
abbrev pub TagIn : List ℕ → TagResult → Type 0
TagIn s (field n w used) = (0 < used) × (used ≤ length s)
TagIn s no_tag = Unit {0}
TagIn s (tag_error code) = Unit {0}

split_in : (s : List ℕ) (g : VarintResult) → VarintIn s g → TagIn s (split g)
unfolding split
split_in s bad h = tt
split_in s (got v used) h = either (TagIn s) (ltb v (2 ^ 32) && (ltb 0 (v / 8) && ltb (v % 8) 6)) h tt

pub tag_in : (s : List ℕ) → TagIn s (tag s)
unfolding tag
tag_in [] = tt
tag_in (b ∷ s) = split_in (b ∷ s) (varint (b ∷ s)) (varint_in (b ∷ s))

-- lengths: the bytes that are announced are there
abbrev pub LengthIn : List ℕ → LengthResult → Type 0
LengthIn s (bytes used size) = (0 < used) × (used + size ≤ length s)
LengthIn s (length_error code) = Unit {0}

length_within_in : (s : List ℕ) (g : VarintResult) → VarintIn s g → LengthIn s (length_within s g)
unfolding length_within
length_within_in s bad h = tt
length_within_in s (got size used) h =
    choose (LengthIn s) (leb size (length s - used)) (bytes used size) (length_error past_end)
    (λ e. (h.0, omega (arith, leb-true size (length s - used) e))) (λ e. tt)

pub length_prefix_in : (s : List ℕ) → LengthIn s (length_prefix s)
unfolding length_prefix
length_prefix_in s = length_within_in s (varint s) (varint_in s)

-- values and groups that are skipped
abbrev pub SkipIn : List ℕ → SkipResult → Type 0
SkipIn s (skipped used) = (0 < used) × (used ≤ length s)
SkipIn s (skip_error code) = Unit {0}

skip_varint_in : (s : List ℕ) → SkipIn s (skip_varint s)
unfolding skip_varint
skip_varint_in s = varint_cases (SkipIn s) (VarintIn s) (varint s) (varint_in s) (λ h. tt) (λ v used h. h)

skip_fixed_in : (width : ℕ) (s : List ℕ) → 0 < width → SkipIn s (skip_fixed width s)
unfolding skip_fixed
skip_fixed_in width s h =
    choose (SkipIn s) (leb width (length s)) (skipped width) (skip_error past_end) (λ e. (h, leb-true width (length s) e)) (λ e. tt)

skip_bytes_in : (s : List ℕ) → SkipIn s (skip_bytes s)
unfolding skip_bytes
skip_bytes_in s =
    length_cases (SkipIn s) (LengthIn s) (length_prefix s) (length_prefix_in s) (λ code h. tt) (λ used size h. (omega arith, omega arith))

pub value_in : (g : ℕ → ℕ → List ℕ → SkipResult) (n : ℕ) (w : WireType) (d : ℕ) (s : List ℕ) → ((m e : ℕ) → SkipIn s (g m e s))
    → SkipIn s (value g n w d s)
unfolding value
value_in g n VARINT d s q = skip_varint_in s
value_in g n I64 d s q = skip_fixed_in 8 s (omega arith)
value_in g n LEN d s q = skip_bytes_in s
value_in g n SGROUP zero s q = tt
value_in g n SGROUP (suc d) s q = q n d
value_in g n EGROUP d s q = tt
value_in g n I32 d s q = skip_fixed_in 4 s (omega arith)
value_in g n reserved d s q = tt

skip_after_in : (n : ℕ) (s : List ℕ) (o : SkipResult) → n ≤ length s → SkipIn (drop n s) o → SkipIn s (skip_after n o)
unfolding skip_after
skip_after_in n s (skipped used) h q = (omega arith, omega (arith, length-drop n s))
skip_after_in n s (skip_error code) h q = tt

in_group_in : (g : ℕ → ℕ → List ℕ → SkipResult) (n d : ℕ) (s : List ℕ) → ((m e : ℕ) (z : List ℕ) → SkipIn z (g m e z))
    → SkipIn s (in_group g n d s)
unfolding in_group
in_group_in g n d s q =
    tag_cases (SkipIn s) (TagIn s) (tag s) (tag_in s) (λ h. tt) (λ code h. tt) (λ m w used h.
    flag_cases (SkipIn s) (λ (b : Bool). Unit {0}) (eqb w 4) tt (λ end. either (SkipIn s) (eqb m n) h tt) (λ inner.
    skip_cases (SkipIn s) (SkipIn (drop used s)) (value g m (wire_type w) d (drop used s))
    (value_in g m (wire_type w) d (drop used s) (λ a c. q a c (drop used s))) (λ code v. tt) (λ size v.
    skip_after_in (used + size) s (g n d (drop (used + size) s)) (omega (arith, length-drop used s)) (q n d (drop (used + size) s)))))

pub group_in_in : (k n d : ℕ) (s : List ℕ) → SkipIn s (group_in k n d s)
unfolding group_in
group_in_in zero n d s = tt
group_in_in (suc k) n d s = in_group_in (group_in k) n d s (group_in_in k)

-- the value after a tag, at any depth and with any number of steps
pub skip_value_in : (k n : ℕ) (w : WireType) (d : ℕ) (s : List ℕ) → SkipIn s (value (group_in k) n w d s)
skip_value_in k n w d s = value_in (group_in k) n w d s (λ m e. group_in_in k m e s)

-- fields
abbrev pub FieldIn : List ℕ → FieldResult → Type 0
FieldIn s no_field = Unit {0}
FieldIn s (varint_field n v used) = (0 < used) × (used ≤ length s)
FieldIn s (fixed64_field n v used) = (0 < used) × (used ≤ length s)
FieldIn s (bytes_field n used size) = (0 < used) × (used + size ≤ length s)
FieldIn s (group_field n used) = (0 < used) × (used ≤ length s)
FieldIn s (fixed32_field n v used) = (0 < used) × (used ≤ length s)
FieldIn s (field_error code) = Unit {0}

fixed_in : (s : List ℕ) (width : ℕ) (f : FieldResult) → (width ≤ length s → FieldIn s f)
    → FieldIn s (cond (leb width (length s)) f (field_error past_end))
fixed_in s width f h =
    choose (FieldIn s) (leb width (length s)) f (field_error past_end) (λ e. h (leb-true width (length s) e)) (λ e. tt)

pub content_in : (n : ℕ) (w : WireType) (s : List ℕ) → FieldIn s (content n w s)
unfolding content
content_in n VARINT s = varint_cases (FieldIn s) (VarintIn s) (varint s) (varint_in s) (λ h. tt) (λ v used h. h)
content_in n I64 s = fixed_in s 8 (fixed64_field n (little_endian (take 8 s)) 8) (λ h. (omega arith, h))
content_in n LEN s = length_cases (FieldIn s) (LengthIn s) (length_prefix s) (length_prefix_in s) (λ code h. tt) (λ used size h. h)
content_in n SGROUP s =
    skip_cases (FieldIn s) (SkipIn s) (value (group_in (length s)) n SGROUP 32 s) (skip_value_in (length s) n SGROUP 32 s)
    (λ code h. tt) (λ used h. h)
content_in n EGROUP s = tt
content_in n I32 s = fixed_in s 4 (fixed32_field n (little_endian (take 4 s)) 4) (λ h. (omega arith, h))
content_in n reserved s = tt

field_after_in : (n : ℕ) (s : List ℕ) (f : FieldResult) → n ≤ length s → FieldIn (drop n s) f → FieldIn s (field_after n f)
unfolding field_after
field_after_in n s no_field h q = tt
field_after_in n s (varint_field m v used) h q = (omega arith, omega (arith, length-drop n s))
field_after_in n s (fixed64_field m v used) h q = (omega arith, omega (arith, length-drop n s))
field_after_in n s (bytes_field m used size) h q = (omega arith, omega (arith, length-drop n s))
field_after_in n s (group_field m used) h q = (omega arith, omega (arith, length-drop n s))
field_after_in n s (fixed32_field m v used) h q = (omega arith, omega (arith, length-drop n s))
field_after_in n s (field_error code) h q = tt

pub next_field_in : (s : List ℕ) → FieldIn s (next_field s)
unfolding next_field
next_field_in s =
    tag_cases (FieldIn s) (TagIn s) (tag s) (tag_in s) (λ h. tt) (λ code h. tt) (λ n w used h.
    field_after_in used s (content n (wire_type w) (drop used s)) h.1 (content_in n (wire_type w) (drop used s)))
