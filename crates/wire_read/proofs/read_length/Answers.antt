-- `read_length` meets its contract. The length is a varint, and the bytes left after it are those of the part less the ones it took.
use Prim.Native.Nat.{ℕ, ◌-◌, ◌<◌, ◌≤◌, min}
use mathlib.Core.Path.{◌≡◌, refl, ap}
use mathlib.Core.List.{List}
use lib.ListN.{length}
use native.Mathlib.Omega.{arith}
use borrow.Author.Tests.{le-leb, lt-leb}
use Rattle.std.specs.Prelude.{Result, Ok, Err}
use Rattle.wire_read.specs.Part.{part}
use Rattle.wire_read.specs.Placed.{varint_at, length_at}
use Rattle.wire_read.specs.Tags.{length_within, length_prefix}
use Rattle.wire_read.specs.Varint.{VarintResult, got, bad, varint}
use Rattle.wire_read.specs.declared.Length.{Length}
use Rattle.wire_read.specs.declared.Varint.{Varint}
use Rattle.wire_read.proofs.PartLaws.{part_length}
use Rattle.wire_read.proofs.Answers.{found_as, then, passed_on, is_got}
use Rattle.wire_read.proofs.Places.{value_place}
use Rattle.wire_read.proofs.read_length.Goals as goal

-- the length that a varint is
abbrev length_of : ℕ → List ℕ → Varint → Result Length ℕ
length_of at z v = length_at at (length_within z (got v.value (v.next - at)))

length_made : (at : ℕ) (z : List ℕ) → then (varint_at at (varint z)) (length_of at z) ≡ length_at at (length_prefix z)
unfolding length_prefix length_within length_at varint_at
length_made at z = by (varint z)
  where
    by : (g : VarintResult) → then (varint_at at g) (length_of at z) ≡ length_at at (length_within z g)
    by bad = refl
    by (got size used) = ap (λ (n : ℕ). length_at at (length_within z (got size n))) (omega arith)

module _ (s : List ℕ) (at end stop : ℕ) (is_stop : stop ≡ min end (length s)) {v : Varint}
    (found : Ok v ≡ varint_at at (varint (part s at end))) where
  in_part : (at < v.next) × (v.next ≤ stop)
  in_part = omega (arith, value_place s at end found)

  left : length (part s at end) - (v.next - at) ≡ stop - v.next
  left = omega (arith, part_length s at end, value_place s at end found)

  announced : v.value ≤ stop - v.next → Ok (record { start = v.next; size = v.value }) ≡ length_at at (length_prefix (part s at end))
  unfolding length_prefix length_within length_at
  announced h =
      let g = is_got at (varint (part s at end)) found in rw (g.0, left, le-leb v.value (stop - v.next) h, g.1)

  too_long : stop - v.next < v.value → Err 12 ≡ length_at at (length_prefix (part s at end))
  unfolding length_prefix length_within length_at
  too_long h = let g = is_got at (varint (part s at end)) found in rw (g.0, left, lt-leb v.value (stop - v.next) h)

pub returns-in_err-v : goal.returns-in_err-v
returns-in_err-v c =
    passed_on c.read_varint.ensures _ (length_made _ _) c.in_err-v.was _ c.from_residual.ensures

pub overflow_sub-left : goal.overflow_sub-left
overflow_sub-left c =
    (in_part _ _ _ _ c.part_end.ensures (found_as c.read_varint.ensures c.in_ok-v.was)).1

pub returns-then-left-size : goal.returns-then-left-size
returns-then-left-size c =
    too_long _ _ _ _ c.part_end.ensures (found_as c.read_varint.ensures c.in_ok-v.was) c.if-left-size.true

pub returns : goal.returns
returns c =
    announced _ _ _ _ c.part_end.ensures (found_as c.read_varint.ensures c.in_ok-v.was) c.if-left-size.false
