-- Promised: what was written reads back as itself, with exactly its length, whatever follows it and wherever it is: a varint, a tag, a
-- field of a number, a field of bytes; a uint32 and an int32 of a varint. A varint is written in as few bytes as any reading of that
-- number takes. A tag is refused with 11 exactly where the reader would refuse it with 11, or would read another number or wire type
-- (`tag_told`, `tag_exactly`).
-- Not promised: that bytes which were read are written as they were. A varint may be longer than needed when it is read.
-- Ruled out: a writer that drops the bit of a tenth byte, one that writes -1 in five bytes, and one that writes a tag of field 0.
use Prim.Native.Nat.{ℕ, zero, suc, ◌+◌, ◌*◌, ◌-◌, ◌/◌, ◌%◌, ◌^◌, ◌<◌, ◌≤◌}
use mathlib.Core.Path.{◌≡◌, refl, sym, ap, ap₂, subst, ◌∙◌}
use mathlib.Core.Bool.{Bool, true, false, cond, ◌&&◌}
use mathlib.Core.List.{List, [], ◌∷◌, ◌++◌, append_assoc}
use lib.ListN.{length, take, drop, length-append}
use lib.Seq.{take_at, drop_at}
use lib.Dec.{ltb, eqb}
use lib.Arith.{digits_div, digits_mod}
use lib.IntN.{ℤ, pos, negsuc}
use lib.Signed.{mag}
use native.Mathlib.Omega.{arith}
use native.Mathlib.Nat.{mod-lt, mod-eq_of_lt, div-add-mod'}
use borrow.Author.Tests.{lt-ltb, le-ltb, le-leb, ne_eqb, ltb-true, ltb-false}
use Rattle.laws.proofs.Booleans.{clash, either, both, choose}
use Rattle.refusals.specs.Numbers.{bad_tag}
use Rattle.wire_read.specs.Varint.{VarintResult, got, bad, joined, groups, varint, low_u32, twos_complement, low_i32}
use Rattle.wire_read.specs.Tags.{VARINT, LEN, wire_type, field, tag_error, split, tag, bytes, length_within, length_prefix}
use Rattle.wire_read.specs.Fields.{varint_field, bytes_field, content, field_after, next_field}
use Rattle.wire_write.specs.Writing.{shortest, put_varint, sign_extended, put_tag, put_bytes, good_tag}
use Rattle.wire_write.proofs.Encoding.{shortest_last, shortest_more, left_fits, varint_bounds, shortest_full}

-- ---- varints

last_fits : (room v : ℕ) → v < 2 * 128 ^ room → eqb room 0 && ltb 1 v ≡ false
last_fits zero v h = le-ltb 1 v (omega arith)
last_fits (suc room) v h = rw (ne_eqb (suc room) 0 (λ (e : suc room ≡ 0). omega arith))

joined_back : (v used : ℕ) → joined ((128 + v % 128) % 128) (got (v / 128) used) ≡ got v (suc used)
unfolding joined
joined_back v used =
    let low : (128 + v % 128) % 128 ≡ v % 128 = digits_mod 1 {m = 128} {r = v % 128} (mod-lt v (omega arith)) in
    ap₂ got (omega (arith, low, div-add-mod' v 128)) (omega arith)

module _ (room v : ℕ) (rest : List ℕ) where
  last_byte : v < 2 * 128 ^ room → v < 128 → groups (suc room) (shortest (suc room) v ++ rest) ≡ got v (length (shortest (suc room) v))
  unfolding groups
  last_byte h e = rw (shortest_last room v e, lt-ltb v 128 e, last_fits room v h)

  more_bytes : 128 ≤ v → groups room (shortest room (v / 128) ++ rest) ≡ got (v / 128) (length (shortest room (v / 128)))
      → groups (suc room) (shortest (suc room) v ++ rest) ≡ got v (length (shortest (suc room) v))
  unfolding groups
  more_bytes e r = rw (shortest_more room v e, le-ltb (128 + v % 128) 128 (omega arith), r) (joined_back v _)

groups_back : (room v : ℕ) (rest : List ℕ) → v < 2 * 128 ^ room
    → groups (suc room) (shortest (suc room) v ++ rest) ≡ got v (length (shortest (suc room) v))
groups_back zero v rest h = last_byte zero v rest h (omega arith)
groups_back (suc room) v rest h = by (ltb v 128) refl (groups_back room (v / 128) rest (left_fits room v h))
  where
    by : (b : Bool) → ltb v 128 ≡ b
        → groups (suc room) (shortest (suc room) (v / 128) ++ rest) ≡ got (v / 128) (length (shortest (suc room) (v / 128)))
        → groups (suc (suc room)) (shortest (suc (suc room)) v ++ rest) ≡ got v (length (shortest (suc (suc room)) v))
    by true e r = last_byte (suc room) v rest h (ltb-true v 128 e)
    by false e r = more_bytes (suc room) v rest (ltb-false v 128 e) r

pub varint_back : (v : ℕ) (rest : List ℕ) → v < 2 ^ 64 → varint (put_varint v ++ rest) ≡ got v (length (put_varint v))
unfolding varint put_varint
varint_back v rest h = groups_back 9 v rest h

-- ---- tags

tag_some : (x rest : List ℕ) → 0 < length x → tag (x ++ rest) ≡ split (varint (x ++ rest))
unfolding tag
tag_some [] rest h = let z : ⊥ = omega arith in absurd z
tag_some (b ∷ x) rest h = refl

-- no tag has a wire type of more
three_bits : (v used n w used' : ℕ) → split (got v used) ≡ field n w used' → w < 8
unfolding split
three_bits v used n w used' e = by (ltb v (2 ^ 32) && (ltb 0 (v / 8) && ltb (v % 8) 6)) e
  where
    by : (ok : Bool) → cond ok (field (v / 8) (v % 8) used) (tag_error bad_tag) ≡ field n w used' → w < 8
    by true g = let same : v % 8 ≡ w = cc in omega arith
    by false g = clash cc

module _ (n w : ℕ) (rest : List ℕ) (fits : n * 8 + w < 2 ^ 64) where
  tag_is : tag (put_tag n w ++ rest) ≡ split (got (n * 8 + w) (length (put_tag n w)))
  tag_is = tag_some (put_tag n w) rest (varint_bounds (n * 8 + w)).0 ∙ rw (varint_back (n * 8 + w) rest fits)

  -- of a wire type of three bits: the reader takes what `write_tag` takes, and refuses with 11 what it refuses with 11
  pub tag_told : w < 8 → tag (put_tag n w ++ rest) ≡ cond (good_tag n w) (field n w (length (put_tag n w))) (tag_error bad_tag)
  unfolding split good_tag
  tag_told small =
      let number : (n * 8 + w) / 8 ≡ n = digits_div n {m = 8} {r = w} small in
      let type : (n * 8 + w) % 8 ≡ w = digits_mod n {m = 8} {r = w} small in
      tag_is ∙ rw (number, type)

  -- of any wire type: what reads back as itself is taken
  pub tag_exactly : (used : ℕ) → tag (put_tag n w ++ rest) ≡ field n w used → good_tag n w ≡ true
  tag_exactly used e =
      let small = three_bits (n * 8 + w) (length (put_tag n w)) n w used (sym tag_is ∙ e) in
      taken (good_tag n w) (sym (tag_told small) ∙ e)
    where
      taken : (good : Bool) → cond good (field n w (length (put_tag n w))) (tag_error bad_tag) ≡ field n w used → good ≡ true
      taken true g = refl
      taken false g = clash cc

-- field numbers 1 to 2^29 - 1 with the wire types 0 to 5
module _ (n w : ℕ) (some : 0 < n) (high : n < 2 ^ 29) (known : w < 6) where
  pub tag_good : good_tag n w ≡ true
  unfolding good_tag
  tag_good = rw (lt-ltb (n * 8 + w) (2 ^ 32) (omega arith), lt-ltb 0 n some, lt-ltb w 6 known)

  pub tag_back : (rest : List ℕ) → tag (put_tag n w ++ rest) ≡ field n w (length (put_tag n w))
  tag_back rest = tag_told n w rest (omega arith) (omega arith) ∙ rw tag_good

-- and no others
pub good_numbers : (n w : ℕ) → good_tag n w ≡ true → (0 < n) × (n < 2 ^ 29) × (w < 6)
unfolding good_tag
good_numbers n w e =
    let a = both (ltb (n * 8 + w) (2 ^ 32)) (ltb 0 n && ltb w 6) e in
    let b = both (ltb 0 n) (ltb w 6) a.1 in
    (ltb-true 0 n b.0, omega (arith, ltb-true (n * 8 + w) (2 ^ 32) a.0), ltb-true w 6 b.1)

-- ---- fields

pub length_prefix_back : (x rest : List ℕ) → length x < 2 ^ 64
    → length_prefix (put_varint (length x) ++ (x ++ rest)) ≡ bytes (length (put_varint (length x))) (length x)
unfolding length_prefix length_within
length_prefix_back x rest h =
    let fits : length x ≤ length (put_varint (length x) ++ (x ++ rest)) - length (put_varint (length x)) =
    omega (arith, length-append (put_varint (length x)) (x ++ rest), length-append x rest) in
    rw (
      varint_back (length x) (x ++ rest) h,
      le-leb (length x) (length (put_varint (length x) ++ (x ++ rest)) - length (put_varint (length x))) fits,
    )

module _ (n : ℕ) (some : 0 < n) (high : n < 2 ^ 29) where
  next_back : (w : ℕ) → w < 6 → (rest : List ℕ)
      → next_field (put_tag n w ++ rest) ≡ field_after (length (put_tag n w)) (content n (wire_type w) rest)
  unfolding next_field
  next_back w known rest =
      let t = tag_back n w some high known rest in
      let d : drop (length (put_tag n w)) (put_tag n w ++ rest) ≡ rest = drop_at (put_tag n w) rest (length (put_tag n w)) refl in
      let z : next_field (put_tag n w ++ rest) ≡ field_after (length (put_tag n w))
      (content n (wire_type w) (drop (length (put_tag n w)) (put_tag n w ++ rest))) = cc in
      z ∙ rw d

  -- a field of a number
  pub varint_field_back : (v : ℕ) (rest : List ℕ) → v < 2 ^ 64
      → next_field (put_tag n 0 ++ (put_varint v ++ rest)) ≡ varint_field n v (length (put_tag n 0) + length (put_varint v))
  unfolding content field_after wire_type
  varint_field_back v rest h =
      let r = varint_back v rest h in
      let z : content n VARINT (put_varint v ++ rest) ≡ varint_field n v (length (put_varint v)) = cc in
      next_back 0 (omega arith) (put_varint v ++ rest) ∙ rw z

  -- a field of bytes: its content starts after the tag and the length
  pub bytes_field_back : (x rest : List ℕ) → length x < 2 ^ 64
      → next_field (put_bytes n x ++ rest) ≡ bytes_field n (length (put_tag n 2) + length (put_varint (length x))) (length x)
  unfolding content field_after wire_type
  bytes_field_back x rest h =
      let r = length_prefix_back x rest h in
      let z : content n LEN (put_varint (length x) ++ (x ++ rest)) ≡ bytes_field n (length (put_varint (length x))) (length x) = cc in
      let shape : put_bytes n x ++ rest ≡ put_tag n 2 ++ (put_varint (length x) ++ (x ++ rest)) = simp append_assoc in
      rw shape (next_back 2 (omega arith) (put_varint (length x) ++ (x ++ rest)) ∙ rw z)

  -- and is the content that was written
  pub content_back : (x rest : List ℕ)
      → take (length x) (drop (length (put_tag n 2) + length (put_varint (length x))) (put_bytes n x ++ rest)) ≡ x
  content_back x rest =
      let shape : put_bytes n x ++ rest ≡ (put_tag n 2 ++ put_varint (length x)) ++ (x ++ rest) = simp append_assoc in
      let size = length-append (put_tag n 2) (put_varint (length x)) in
      let d = drop_at (put_tag n 2 ++ put_varint (length x)) (x ++ rest) (length (put_tag n 2) + length (put_varint (length x))) size in
      rw (shape, d) (take_at x rest (length x) refl)

-- ---- numbers of 32 bits

pub unsigned_back : (n : ℕ) → n < 2 ^ 32 → low_u32 n ≡ n
unsigned_back n h = mod-eq_of_lt h

-- an int32 z: `mag` is n for n and for -1 - n
pub signed_back : (z : ℤ) → mag z < 2 ^ 31 → low_i32 (sign_extended z) ≡ z
unfolding sign_extended twos_complement
signed_back (pos n) h =
    let low : n % 2 ^ 32 ≡ n = mod-eq_of_lt (omega arith) in
    rw (low, lt-ltb n (2 ^ 31) h)
signed_back (negsuc n) h =
    let low : (2 ^ 64 - suc n) % 2 ^ 32 ≡ 2 ^ 32 - suc n = omega arith in
    rw (low, le-ltb (2 ^ 32 - suc n) (2 ^ 31) (omega arith)) (ap negsuc (omega arith))

-- its 32 bits say the same
pub signed_bits : (z : ℤ) → mag z < 2 ^ 31 → low_i32 (low_u32 (sign_extended z)) ≡ z
signed_bits z h =
    let low : sign_extended z % 2 ^ 32 % 2 ^ 32 ≡ sign_extended z % 2 ^ 32 = omega arith in
    ap twos_complement low ∙ signed_back z h

-- and so do the bits of the int32 that 32 bits say
pub bits_back : (n : ℕ) → n < 2 ^ 32 → low_u32 (sign_extended (low_i32 n)) ≡ n
unfolding sign_extended twos_complement
bits_back n small = rw (mod-eq_of_lt small) (by (ltb n (2 ^ 31)) refl)
  where
    by : (b : Bool) → ltb n (2 ^ 31) ≡ b → low_u32 (sign_extended (cond b (pos n) (negsuc (2 ^ 32 - 1 - n)))) ≡ n
    by true e = mod-eq_of_lt small
    by false e = let large = ltb-false n (2 ^ 31) e in omega arith

-- a negative int32, -1 - n, and what it is written as are 2^64 together
pub signed_whole : (n : ℕ) → n < 2 ^ 31 → sign_extended (negsuc n) + suc n ≡ 2 ^ 64
unfolding sign_extended
signed_whole n h = omega arith

-- what an int32 is written as fits a varint
pub signed_fits : (z : ℤ) → mag z < 2 ^ 31 → sign_extended z < 2 ^ 64
unfolding sign_extended
signed_fits (pos n) h = omega arith
signed_fits (negsuc n) h = omega arith

-- "A negative int32 is written in ten bytes."
pub negative_ten : (n : ℕ) → n < 2 ^ 31 → length (put_varint (sign_extended (negsuc n))) ≡ 10
unfolding put_varint sign_extended
negative_ten n h = shortest_full 9 (2 ^ 64 - suc n) (omega arith) (omega arith)

-- ---- shortest

abbrev Least : ℕ → VarintResult → Type 0
Least room (got v used) = length (shortest room v) ≤ used
Least room bad = Unit {0}

joined_least : (room low : ℕ) → low < 128 → (g : VarintResult) → Least room g → Least (suc room) (joined low g)
unfolding joined
joined_least room low h bad l = tt
joined_least room low h (got v used) l = by (ltb (low + 128 * v) 128) refl
  where
    by : (b : Bool) → ltb (low + 128 * v) 128 ≡ b → length (shortest (suc room) (low + 128 * v)) ≤ 1 + used
    by true e = rw (shortest_last room (low + 128 * v) (ltb-true (low + 128 * v) 128 e)) (omega arith)
    by false e =
        let q : (low + 128 * v) / 128 ≡ v = omega arith in
        rw (shortest_more room (low + 128 * v) (ltb-false (low + 128 * v) 128 e), q) (omega arith)

groups_least : (room : ℕ) (s : List ℕ) → Least room (groups room s)
unfolding groups
groups_least zero s = tt
groups_least (suc room) [] = tt
groups_least (suc room) (b ∷ s) =
    choose (Least (suc room)) (ltb b 128) (cond (eqb room 0 && ltb 1 b) bad (got b 1)) (joined (b % 128) (groups room s))
    (λ e.
    let one : length (shortest (suc room) b) ≤ 1 = rw (shortest_last room b (ltb-true b 128 e)) (omega arith) in
    either (Least (suc room)) (eqb room 0 && ltb 1 b) tt one)
    (λ e. joined_least room (b % 128) (mod-lt b (omega arith)) (groups room s) (groups_least room s))

-- no reading of a number takes fewer bytes than are written for it
pub varint_least : (s : List ℕ) (v used : ℕ) → varint s ≡ got v used → length (put_varint v) ≤ used
unfolding varint put_varint
varint_least s v used e = subst (Least 10) e (groups_least 10 s)
