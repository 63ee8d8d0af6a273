-- What is read fits: a varint's value 64 bits and its bytes ten; a tag's field number is 1 to 2^29 - 1 and its wire type 0 to 5. What
-- the definitions subtract is there.
use Prim.Native.Nat.{ℕ, zero, suc, ◌+◌, ◌*◌, ◌-◌, ◌/◌, ◌%◌, ◌^◌, ◌<◌, ◌≤◌}
use mathlib.Core.Path.{◌≡◌}
use mathlib.Core.Bool.{cond, ◌&&◌}
use mathlib.Core.List.{List, [], ◌∷◌}
use lib.Dec.{ltb, eqb}
use native.Mathlib.Omega.{arith}
use native.Mathlib.Nat.{mod-lt, pow-suc, one-le-pow}
use borrow.Author.Tests.{ltb-true, ltb-false, le-ltb}
use Rattle.laws.proofs.Booleans.{both, either, choose}
use Rattle.wire_read.specs.Varint.{VarintResult, got, bad, joined, groups, varint}
use Rattle.wire_read.specs.Tags.{TagResult, field, no_tag, tag_error, split, tag}

abbrev Short : ℕ → VarintResult → Type 0
Short room (got v used) = (v < 2 * 128 ^ room) × (used ≤ suc room)
Short room bad = Unit {0}

joined_short : (room low : ℕ) → low < 128 → (g : VarintResult) → Short room g → Short (suc room) (joined low g)
unfolding joined
joined_short room low h bad q = tt
joined_short room low h (got v used) q = (omega (arith, pow-suc 128 room), omega arith)

last_short : (room b : ℕ) → b < 128 → Short room (cond (eqb room 0 && ltb 1 b) bad (got b 1))
last_short zero b h =
    choose (Short 0) (ltb 1 b) bad (got b 1) (λ e. tt) (λ e. (omega (arith, ltb-false 1 b e), omega arith))
last_short (suc room) b h =
    either (Short (suc room)) (eqb (suc room) 0 && ltb 1 b) tt
    (omega (arith, pow-suc 128 room, one-le-pow room 128 (omega arith)), omega arith)

groups_short : (room : ℕ) (s : List ℕ) → Short room (groups (suc room) s)
unfolding groups joined
groups_short room [] = tt
groups_short zero (b ∷ s) =
    choose (Short 0) (ltb b 128) (cond (eqb 0 0 && ltb 1 b) bad (got b 1)) bad (λ e. last_short 0 b (ltb-true b 128 e)) (λ e. tt)
groups_short (suc room) (b ∷ s) =
    choose (Short (suc room)) (ltb b 128) (cond (eqb (suc room) 0 && ltb 1 b) bad (got b 1)) (joined (b % 128) (groups (suc room) s))
    (λ e. last_short (suc room) b (ltb-true b 128 e))
    (λ e. joined_short room (b % 128) (mod-lt b (omega arith)) (groups (suc room) s) (groups_short room s))

abbrev pub VarintRange : VarintResult → Type 0
VarintRange (got v used) = (v < 2 ^ 64) × (used ≤ 10)
VarintRange bad = Unit {0}

pub varint_range : (s : List ℕ) → VarintRange (varint s)
unfolding varint
varint_range s = by (groups 10 s) (groups_short 9 s)
  where
    by : (g : VarintResult) → Short 9 g → VarintRange g
    by (got v used) q = q
    by bad q = tt

abbrev pub TagRange : TagResult → Type 0
TagRange (field n w used) = (0 < n) × (n < 2 ^ 29) × (w < 6)
TagRange no_tag = Unit {0}
TagRange (tag_error code) = Unit {0}

split_range : (g : VarintResult) → TagRange (split g)
unfolding split
split_range bad = tt
split_range (got v used) =
    choose TagRange (ltb v (2 ^ 32) && (ltb 0 (v / 8) && ltb (v % 8) 6)) (field (v / 8) (v % 8) used) (tag_error 11)
    (λ e.
    let a = both (ltb v (2 ^ 32)) (ltb 0 (v / 8) && ltb (v % 8) 6) e in
    let b = both (ltb 0 (v / 8)) (ltb (v % 8) 6) a.1 in
    (ltb-true 0 (v / 8) b.0, omega (arith, ltb-true v (2 ^ 32) a.0), ltb-true (v % 8) 6 b.1))
    (λ e. tt)

pub tag_range : (s : List ℕ) → TagRange (tag s)
unfolding tag
tag_range [] = tt
tag_range (b ∷ s) = split_range (varint (b ∷ s))

-- a tenth byte of 128 or more is bad, whatever follows it
pub no_eleventh : (b : ℕ) (s : List ℕ) → 128 ≤ b → groups 1 (b ∷ s) ≡ bad
unfolding groups joined
no_eleventh b s h = rw (le-ltb b 128 h)

-- a negative int32 and the low 32 bits that it is read from are 2^32 together
pub complement_whole : (v : ℕ) → 2 ^ 32 - 1 - v % 2 ^ 32 + 1 + v % 2 ^ 32 ≡ 2 ^ 32
complement_whole v = omega (arith, mod-lt v {m = 2 ^ 32} (omega arith))
