-- `write_bytes` meets its contract. Both grounds are looked at before the first of its three parts is stored; one stored after another
-- is both stored at once (`Outputs`).
use Prim.Native.Nat.{ℕ, ◌+◌, ◌≤◌}
use mathlib.Core.Path.{◌≡◌, refl, sym, ap, ◌∙◌}
use mathlib.Core.Bool.{Bool}
use mathlib.Core.List.{List, ◌++◌}
use lib.ListN.{length, length-append}
use lib.Dec.{leb}
use native.Mathlib.Omega.{arith}
use Rattle.std.specs.Prelude.{Result, Ok, Err, ⊤}
use Rattle.copying.specs.Stored.{fits, stored}
use Rattle.copying.proofs.Outputs.{stored_then, length_stored}
use Rattle.wire_write.specs.Writing.{put_varint, put_tag, put_bytes, good_tag, first_ground, found_ground, written_at, tag_stored, tag_written}
use Rattle.wire_read.proofs.Answers.{found_as, refused_as, refused_by}
use Rattle.wire_write.proofs.Encoding.{varint_bounds}
use Rattle.wire_write.proofs.Outputs.{written, tag_refused, tag_fits, tag_written_lem, tag_stored_lem}
use Rattle.wire_write.proofs.write_bytes.Goals as goal

short : (v n : ℕ) → n ≡ length (put_varint v) → n ≤ 10
short v n e = omega (arith, varint_bounds v)

-- the tag, the length and the content, one after the other
module _ (out : List ℕ) (at n : ℕ) (content : List ℕ) (k l : ℕ) (is-k : k ≡ length (put_tag n 2))
    (is-l : l ≡ length (put_varint (length content)))
    (room : Bool) (is-room : room ≡ leb (at + (k + l) + length content) (length out)) (good : Bool) (is-good : good ≡ good_tag n 2)
  where
    abbrev tag : List ℕ
    tag = put_tag n 2

    abbrev size : List ℕ
    size = put_varint (length content)

    abbrev field : List ℕ
    field = put_bytes n content

    field-length : length field ≡ length tag + length size + length content
    field-length = simp length-append

    is-fits : room ≡ fits out at field
    is-fits =
        let same : at + (k + l) + length content ≡ at + length field = omega (arith, field-length) in
        is-room ∙ ap (λ (m : ℕ). leb m (length out)) same

    refuses : {code : ℕ} → Err code ≡ found_ground (first_ground good room) → (Err code ≡ tag_written n 2 out at field) × (out ≡ tag_stored n 2 out at field)
    refuses some = tag_refused n 2 out at field good room is-good is-fits some

    module _ {u : ⊤} (none : Ok u ≡ found_ground (first_ground good room)) where
      all_fit : at + length tag + length size + length content ≤ length out
      all_fit = omega (arith, field-length, tag_fits n 2 out at field good room is-good is-fits none)

      first : at + length tag ≤ length out
      first = omega (arith, all_fit)

      module _ (i : ℕ) (is-i : i ≡ at + length tag) (out₁ : List ℕ) (is-out₁ : out₁ ≡ stored out at tag) where
        second : i + length size ≤ length out₁
        second = rw is-out₁ (omega (arith, all_fit, length_stored out at tag))

        module _ (j : ℕ) (is_j : j ≡ i + length size) (out₂ : List ℕ) (is-out₂ : out₂ ≡ stored out₁ i size) where
          two : out₂ ≡ stored out at (tag ++ size)
          two = is-out₂ ∙ rw (is-out₁, is-i) (stored_then out at tag size (omega (arith, all_fit)))

          two-place : j ≡ at + length (tag ++ size)
          two-place = omega (arith, length-append tag size)

          two-fit : at + length (tag ++ size) + length content ≤ length out
          two-fit = omega (arith, all_fit, length-append tag size)

          third : j + length content ≤ length out₂
          third = rw two (omega (arith, two-fit, two-place, length_stored out at (tag ++ size)))

          third-place : j + length content ≡ at + length field
          third-place = omega (arith, two-place, field-length, length-append tag size)

          done : (w : Result ℕ ℕ) → w ≡ written_at out₂ j content → (out₃ : List ℕ) → out₃ ≡ stored out₂ j content
              → (w ≡ tag_written n 2 out at field) × (out₃ ≡ tag_stored n 2 out at field)
          done w is-w out₃ is-out₃ = (
            is-w ∙ sym (written out₂ j content third (j + length content) refl)
                ∙ written out at field (omega (arith, all_fit, field-length)) (j + length content) third-place
                ∙ sym (tag_written_lem n 2 out at field good room is-good is-fits none),
            is-out₃ ∙ rw (two, two-place) (stored_then out at (tag ++ size) content two-fit)
                ∙ sym (tag_stored_lem n 2 out at field good room is-good is-fits none),
          )

pub returns-in_err-first_ground : goal.returns-in_err-first_ground
returns-in_err-first_ground c =
    let args = c.args in
    let refused = refuses args.out.now args.at args.number args.content.now _ _ c.varint_len.ensures c.varint_len-2.ensures _
    c.has_room_for_both-room.ensures _ c.good_tag.ensures (refused_as c.first_ground.ensures c.in_err-first_ground.was) in
    (refused_by _ _ c.from_residual.ensures ∙ refused.0, refused.1)

pub put_varint-behind_tag-requires : goal.put_varint-behind_tag-requires
put_varint-behind_tag-requires c =
    let args = c.args in
    first args.out.now args.at args.number args.content.now _ _ c.varint_len.ensures c.varint_len-2.ensures _
    c.has_room_for_both-room.ensures _ c.good_tag.ensures (found_as c.first_ground.ensures c.in_ok-first_ground.was)

pub put_varint-start-requires : goal.put_varint-start-requires
put_varint-start-requires c =
    let args = c.args in
    second args.out.now args.at args.number args.content.now _ _ c.varint_len.ensures c.varint_len-2.ensures _
    c.has_room_for_both-room.ensures _ c.good_tag.ensures (found_as c.first_ground.ensures c.in_ok-first_ground.was) _
    c.put_varint-behind_tag.ensures.0 _ c.put_varint-behind_tag.ensures.1

pub returns : goal.returns
returns c =
    let args = c.args in
    done args.out.now args.at args.number args.content.now _ _ c.varint_len.ensures c.varint_len-2.ensures _
    c.has_room_for_both-room.ensures _ c.good_tag.ensures (found_as c.first_ground.ensures c.in_ok-first_ground.was) _
    c.put_varint-behind_tag.ensures.0 _ c.put_varint-behind_tag.ensures.1 _ c.put_varint-start.ensures.0 _
    c.put_varint-start.ensures.1 _ c.write_raw.ensures.0 _ c.write_raw.ensures.1

pub overflow_add-head : goal.overflow_add-head
overflow_add-head c =
    omega (arith, short _ _ c.varint_len.ensures, short _ _ c.varint_len-2.ensures)
