-- The loop that stores a varint: what is left of it, stored from the place reached, always gives what all of it gives.
use Prim.Native.Nat.{ℕ, zero, suc, ◌+◌, ◌*◌, ◌/◌, ◌%◌, ◌^◌, ◌<◌, ◌≤◌}
use mathlib.Core.Path.{◌≡◌, refl, ◌∙◌}
use mathlib.Core.List.{List}
use lib.ListN.{length, set, length-set}
use lib.Seq.{sets}
use lib.Bits.{bit_and, bit_or, and_le_r, and_mask, or_lt, or_shifted_r}
use native.Mathlib.Nat.{mod-lt}
use native.Mathlib.Numerals.{add-one}
use native.Mathlib.Omega.{arith}
use mir.Syntax.{w8}
use mir.Val.{Fits}
use Rattle.wire_write.specs.Writing.{shortest, put_varint}
use Rattle.wire_write.proofs.Encoding.{shortest_last, shortest_more, left_fits, shortest_bounds}

-- a group of seven bits and a mark above it are a byte
pub group_fits : (v mark : ℕ) → mark < 256 → Fits w8 (bit_or (bit_and v 127) mark)
group_fits v mark h = record { fits = or_lt 8 (bit_and v 127) mark (omega (arith, and_le_r v 127)) h }

-- a group with the mark that another follows
byte_of : (v : ℕ) → bit_or (bit_and v 127) 128 ≡ 128 + v % 128
byte_of v =
    let mask : bit_and v 127 ≡ v % 128 = and_mask v 7 in
    rw mask (or_shifted_r 1 7 (v % 128) (mod-lt v (omega arith)))

-- what is left of `v`, stored from `i` in the output as it is, gives what all of it gives in the output as it was
pub record Putting (v : ℕ) (out₀ : List ℕ) (at : ℕ) (out : List ℕ) (rest i : ℕ) : Type 0 where
  pub room : ℕ
  pub fits : rest < 2 * 128 ^ room
  pub enough : at + length (put_varint v) ≤ length out₀
  pub size : length out ≡ length out₀
  pub place : i + length (shortest (suc room) rest) ≡ at + length (put_varint v)
  pub same : sets out i (shortest (suc room) rest) ≡ sets out₀ at (put_varint v)

pub start : (v : ℕ) (out : List ℕ) (at : ℕ) → v < 18446744073709551616 → at + length (put_varint v) ≤ length out → Putting v out at out v at
unfolding put_varint
start v out at h k = record { room = 9; fits = h; enough = k; size = refl; place = refl; same = refl }

module _ (v : ℕ) (out₀ : List ℕ) (at : ℕ) (out : List ℕ) (rest i : ℕ) (p : Putting v out₀ at out rest i) where
  pub in_out : i < length out
  in_out = omega (arith, p.enough, p.size, p.place, shortest_bounds p.room rest)

  pub again : 128 ≤ rest → Putting v out₀ at (set out i (bit_or (bit_and rest 127) 128)) (rest / 128) (i + 1)
  again h = step p.room p.fits p.place p.same
    where
      step : (room : ℕ) → rest < 2 * 128 ^ room → i + length (shortest (suc room) rest) ≡ at + length (put_varint v)
          → sets out i (shortest (suc room) rest) ≡ sets out₀ at (put_varint v)
          → Putting v out₀ at (set out i (bit_or (bit_and rest 127) 128)) (rest / 128) (i + 1)
      step zero f l s = let z : ⊥ = omega arith in absurd z
      step (suc room) f l s =
          record {
            room = room;
            fits = left_fits room rest f;
            enough = p.enough;
            size = length-set out i (bit_or (bit_and rest 127) 128) ∙ p.size;
            place = omega (arith, rw (shortest_more (suc room) rest h) at l);
            same = rw (byte_of rest, add-one i) (rw (shortest_more (suc room) rest h) at s);
          }

  pub done : rest < 128 → (i + 1 ≡ at + length (put_varint v)) × (set out i rest ≡ sets out₀ at (put_varint v))
  done h = (
    omega (arith, rw (shortest_last p.room rest h) at p.place),
    rw (shortest_last p.room rest h) at p.same,
  )
