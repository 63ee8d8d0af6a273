-- The loop of `read_varint`: the groups joined so far, and what the later bytes give above them.
use Prim.Native.Nat.{ℕ, zero, suc, ◌+◌, ◌*◌, ◌-◌, ◌%◌, ◌^◌, ◌<◌, ◌≤◌, min}
use mathlib.Core.Path.{◌≡◌, refl, sym, ap, ap₂, ◌∙◌}
use mathlib.Core.Bool.{Bool, true, false, cond, ◌&&◌}
use mathlib.Core.List.{List, []}
use mathlib.Core.Logic.{◌≢◌}
use lib.ListN.{length, get_or}
use lib.Dec.{ltb, leb, eqb}
use lib.Bits.{bit_and, bit_or, and_mask, or_shifted_r}
use lib.Arith.{digits_lt}
use lib.Pow.{shl_lt, pow_mono, pow-add}
use native.Mathlib.Numerals.{add-one}
use native.Mathlib.Omega.{arith}
use native.Mathlib.Nat.{mod-eq_of_lt, mod-lt}
use borrow.Author.Tests.{leb-true, leb-false, eqb-true, lt-ltb, le-ltb}
use Rattle.std.specs.Prelude.{Result, Ok, Err}
use Rattle.wire_read.specs.Part.{part}
use Rattle.wire_read.specs.Varint.{VarintResult, got, bad, joined, groups, varint}
use Rattle.wire_read.specs.Placed.{varint_at}
use Rattle.wire_read.specs.declared.Varint.{Varint}
use Rattle.wire_read.proofs.PartLaws.{part_empty, part_cons}

abbrev read : ℕ → ℕ → Result Varint ℕ
read value next = Ok (record { value = value; next = next })

-- `value`, of `shift` bits, below what the later bytes give
unfoldable pub over : ℕ → ℕ → VarintResult → VarintResult
over value shift (got v used) = got (value + v * 2 ^ shift) used
over value shift bad = bad

pub record Joining (s : List ℕ) (at end stop value shift i : ℕ) : Type 0 where
  pub from : at ≤ i
  pub is_stop : stop ≡ min end (length s)
  pub shifted : shift ≡ 7 * (i - at)
  pub top : shift ≤ 63
  pub low : value < 2 ^ shift
  pub rest : varint_at at (varint (part s at end)) ≡ varint_at i (over value shift (groups (10 - (i - at)) (part s i end)))

pub joining_starts : (s : List ℕ) (at end stop : ℕ) → stop ≡ min end (length s) → Joining s at end stop 0 0 at
unfolding varint over
joining_starts s at end stop h =
    let none : at - at ≡ 0 = omega arith in
    record {
      from = omega arith;
      is_stop = h;
      shifted = omega arith;
      top = omega arith;
      low = omega arith;
      rest = rw none (ap (varint_at at) (same (groups 10 (part s at end))));
    }
  where
    same : (g : VarintResult) → g ≡ over 0 0 g
    same (got v used) = ap (λ (x : ℕ). got x used) (omega arith)
    same bad = refl

groups_nil : (room : ℕ) → groups room [] ≡ bad
unfolding groups
groups_nil zero = refl
groups_nil (suc room) = refl

regroup : (value low v p : ℕ) → value + (low + 128 * v) * p ≡ value + low * p + v * (p * 128)
regroup value low v p = omega arith

-- one more group joined
over_joined : (value shift i low : ℕ) (g : VarintResult)
    → varint_at i (over value shift (joined low g)) ≡ varint_at (i + 1) (over (value + low * 2 ^ shift) (shift + 7) g)
unfolding varint_at over joined
over_joined value shift i low (got v used) = ap₂ read (rw (pow-add 2 shift 7) (regroup value low v (2 ^ shift))) (omega arith)
over_joined value shift i low bad = refl

module _ (s : List ℕ) (at end stop value shift i : ℕ) (j : Joining s at end stop value shift i) where
  pub cut_off : stop ≤ i → Err 10 ≡ varint_at at (varint (part s at end))
  unfolding varint_at over
  cut_off h = sym (j.rest ∙ rw (part_empty s i end (omega (arith, j.is_stop)), groups_nil (10 - (i - at))))

  module _ (b : ℕ) (byte : b ≡ get_or s i 0) (inside : i < stop) where
    next : groups (10 - (i - at)) (part s i end)
        ≡ cond (ltb b 128) (cond (eqb (9 - (i - at)) 0 && ltb 1 b) bad (got b 1))
        (joined (b % 128) (groups (9 - (i - at)) (part s (suc i) end)))
    unfolding groups
    next =
        let room : 10 - (i - at) ≡ suc (9 - (i - at)) = omega (arith, j.shifted, j.top) in
        rw (room, part_cons s i end (omega (arith, j.is_stop)), byte)

    small : (shift ≡ 63 → b ≤ 1) → (b % 128) * 2 ^ shift < 18446744073709551616
    small fit = by (leb shift 56) refl
      where
        by : (t : Bool) → leb shift 56 ≡ t → (b % 128) * 2 ^ shift < 18446744073709551616
        by true e =
            let h : shift ≤ 56 = leb-true shift 56 e in
            let p : 2 ^ (7 + shift) ≤ 2 ^ 63 = pow_mono {i = 7 + shift} {j = 63} (omega arith) in
            omega (arith, shl_lt {a = b % 128} 7 shift (mod-lt b (omega arith)))
        by false e =
            let h : shift ≡ 63 = omega (arith, j.shifted, j.top, leb-false shift 56 e) in
            rw h (omega (arith, fit h))

    group_joined : (shift ≡ 63 → b ≤ 1) → bit_or value ((bit_and b 127 * 2 ^ shift) % 18446744073709551616) ≡ value + (b % 128) * 2 ^ shift
    group_joined fit =
        let mask : bit_and b 127 ≡ b % 128 = and_mask b 7 in
        rw (mask, mod-eq_of_lt (small fit), or_shifted_r (b % 128) shift value j.low) (omega arith)

    pub too_big : shift ≡ 63 → 1 < b → Err 10 ≡ varint_at at (varint (part s at end))
    unfolding varint_at over joined groups
    too_big e h =
        let last : 9 - (i - at) ≡ 0 = omega (arith, j.shifted) in
        sym (j.rest ∙ rw (next, last, lt-ltb 1 b h) (ap (λ (g : VarintResult). varint_at i (over value shift g)) (by (ltb b 128))))
      where
        by : (t : Bool) → cond t bad (joined (b % 128) (groups 0 (part s (suc i) end))) ≡ bad
        by true = refl
        by false = refl

    last_fits : (shift ≡ 63 → b ≤ 1) → eqb (9 - (i - at)) 0 && ltb 1 b ≡ false
    last_fits fit = by (eqb (9 - (i - at)) 0) refl
      where
        by : (t : Bool) → eqb (9 - (i - at)) 0 ≡ t → t && ltb 1 b ≡ false
        by true e = le-ltb 1 b (fit (omega (arith, j.shifted, j.top, eqb-true (9 - (i - at)) 0 e)))
        by false e = refl

    pub found : (shift ≡ 63 → b ≤ 1) → b < 128
        → read (bit_or value ((bit_and b 127 * 2 ^ shift) % 18446744073709551616)) (i + 1) ≡ varint_at at (varint (part s at end))
    unfolding varint_at over
    found fit h = sym (j.rest ∙ rw (next, lt-ltb b 128 h, last_fits fit, group_joined fit, mod-eq_of_lt h))

    pub again : (shift ≡ 63 → b ≤ 1) → 128 ≤ b
        → Joining s at end stop (bit_or value ((bit_and b 127 * 2 ^ shift) % 18446744073709551616)) (shift + 7) (i + 1)
    again fit h =
        let not_last : shift ≢ 63 = λ (e : shift ≡ 63). omega (arith, fit e) in
        let room : 9 - (i - at) ≡ 10 - (i + 1 - at) = omega (arith, j.shifted, j.top, j.from) in
        record {
          from = omega (arith, j.from);
          is_stop = j.is_stop;
          shifted = omega (arith, j.shifted, j.from);
          top = omega (arith, j.shifted, j.top);
          low =
              rw (group_joined fit)
              (omega (
                arith,
                pow-add 2 shift 7,
                digits_lt {q = b % 128} {m = 128} {r = value} {c = 2 ^ shift} (mod-lt b (omega arith)) j.low,
              ));
          rest =
              j.rest
              ∙ rw (next, le-ltb b 128 h, group_joined fit, ← room, add-one i)
              (over_joined value shift i (b % 128) (groups (9 - (i - at)) (part s (suc i) end)) ∙ rw (add-one i));
        }
