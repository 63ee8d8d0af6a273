-- Where a writer answers the next place, its reader gives back from the output what was written, in the terms of both contracts: the
-- value, the same next place, and for bytes their start and length, wherever they are and whatever surrounds them. Nothing is said of a
-- refusal.
-- Ruled out: a writer that answers a place other than the one after what it stored, one that stores nothing, and one that writes a tag
-- that no reader takes.
use Prim.Native.Nat.{ℕ, ◌+◌, ◌-◌, ◌<◌, ◌≤◌, ◌^◌}
use mathlib.Core.Path.{◌≡◌}
use mathlib.Core.Bool.{true}
use mathlib.Core.List.{List, ◌++◌, append_assoc}
use lib.ListN.{length, take, drop, length-append}
use lib.Seq.{drop_at, take-append-add, length-take-le}
use native.Mathlib.Omega.{arith}
use borrow.Author.Tests.{le-leb, leb-true}
use Rattle.std.specs.Prelude.{Some, Ok}
use Rattle.wire_read.specs.Part.{part}
use Rattle.wire_read.specs.Varint.{varint}
use Rattle.wire_read.specs.Tags.{tag}
use Rattle.wire_read.specs.Fields.{next_field}
use Rattle.copying.specs.Stored.{fits, stored}
use Rattle.wire_write.specs.Writing.{put_varint, put_tag, put_bytes, good_tag, written_at, tag_stored, tag_written}
use Rattle.wire_read.specs.Placed.{varint_at, tag_at, field_at}
use Rattle.wire_read.specs.declared.Field.TheVariants as fields
use Rattle.wire_write.proofs.Outputs.{accepted}
use Rattle.wire_write.proofs.ReadBack.{varint_back, good_numbers, tag_back, bytes_field_back}

module _ (out : List ℕ) (at end : ℕ) (x : List ℕ) (room : at + length x ≤ length out) (inside : at + length x ≤ end) where
  -- the part that starts where `x` was stored is `x` and what came after it
  pub part_stored : part (stored out at x) at end ≡ x ++ part out (at + length x) end
  unfolding stored
  part_stored =
      let here : length (take at out) ≡ at = length-take-le at out (omega arith) in
      let size : end - at ≡ length x + (end - (at + length x)) = omega arith in
      rw (
        le-leb (at + length x) (length out) room,
        append_assoc (take at out) x (drop (at + length x) out),
        drop_at (take at out) (x ++ drop (at + length x) out) at here,
        size,
      )
      (take-append-add x (drop (at + length x) out) (end - (at + length x)))

module _ (out : List ℕ) (at end next : ℕ) (inside : next ≤ end) where
  pub varint_round_trip : (v : ℕ) → v < 2 ^ 64 → written_at out at (put_varint v) ≡ Ok next
      → varint_at at (varint (part (stored out at (put_varint v)) at end)) ≡ Ok (record { value = v; next = next })
  unfolding written_at varint_at
  varint_round_trip v h e =
      let a = accepted true (fits out at (put_varint v)) (at + length (put_varint v)) next e in
      let room : at + length (put_varint v) ≤ length out = leb-true _ _ a.1 in
      rw (part_stored out at end (put_varint v) room (omega (arith, a.2)), varint_back v (part out (at + length (put_varint v)) end) h, a.2)

  pub tag_round_trip : (n w : ℕ) → tag_written n w out at (put_tag n w) ≡ Ok next
      → tag_at at (tag (part (tag_stored n w out at (put_tag n w)) at end)) ≡ Ok (Some (record { number = n; wire_type = w; next = next }))
  unfolding tag_written tag_stored tag_at
  tag_round_trip n w e =
      let a = accepted (good_tag n w) (fits out at (put_tag n w)) (at + length (put_tag n w)) next e in
      let room : at + length (put_tag n w) ≤ length out = leb-true _ _ a.1 in
      let good = good_numbers n w a.0 in
      rw (
        a.0,
        part_stored out at end (put_tag n w) room (omega (arith, a.2)),
        tag_back n w good.0 good.1 good.2 (part out (at + length (put_tag n w)) end),
        a.2,
      )

  pub bytes_round_trip : (n : ℕ) (x : List ℕ) → length x < 2 ^ 64 → tag_written n 2 out at (put_bytes n x) ≡ Ok next
      → (field_at at (next_field (part (tag_stored n 2 out at (put_bytes n x)) at end))
      ≡ Ok (Some (fields.Bytes n (at + (length (put_tag n 2) + length (put_varint (length x)))) (length x))))
      × (at + (length (put_tag n 2) + length (put_varint (length x))) + length x ≡ next)
  unfolding tag_written tag_stored field_at
  bytes_round_trip n x short e =
      let a = accepted (good_tag n 2) (fits out at (put_bytes n x)) (at + length (put_bytes n x)) next e in
      let room : at + length (put_bytes n x) ≤ length out = leb-true _ _ a.1 in
      let good = good_numbers n 2 a.0 in
      let size : length (put_bytes n x) ≡ length (put_tag n 2) + length (put_varint (length x)) + length x = simp length-append in (
        rw (
          a.0,
          part_stored out at end (put_bytes n x) room (omega (arith, a.2)),
          bytes_field_back n good.0 good.1 x (part out (at + length (put_bytes n x)) end) short,
        ),
        omega (arith, a.2, size),
      )
