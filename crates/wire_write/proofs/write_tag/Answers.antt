-- `write_tag` meets its contract. Both grounds are looked at before a byte is stored (`Outputs`).
use Prim.Native.Nat.{ℕ, ◌+◌, ◌≤◌}
use mathlib.Core.Path.{◌≡◌, sym, ap, ◌∙◌}
use mathlib.Core.Bool.{Bool}
use mathlib.Core.List.{List}
use lib.ListN.{length}
use lib.Dec.{leb}
use Rattle.std.specs.Prelude.{Ok, Err, ⊤}
use Rattle.copying.specs.Stored.{fits, stored}
use Rattle.wire_write.specs.Writing.{put_tag, good_tag, first_ground, found_ground, tag_stored, tag_written}
use Rattle.wire_read.proofs.Answers.{found_as, refused_as, refused_by}
use Rattle.wire_write.proofs.Outputs.{written, tag_refused, tag_fits, tag_written_lem, tag_stored_lem}
use Rattle.wire_write.proofs.write_tag.Goals as goal

module _ (n w : ℕ) (out : List ℕ) (at size : ℕ) (is_size : size ≡ length (put_tag n w)) (room : Bool)
    (is-room : room ≡ leb (at + size) (length out))
    (good : Bool) (is-good : good ≡ good_tag n w) where
  is-fits : room ≡ fits out at (put_tag n w)
  is-fits = is-room ∙ ap (λ (k : ℕ). leb (at + k) (length out)) is_size

  refuses : {code : ℕ} → Err code ≡ found_ground (first_ground good room)
      → (Err code ≡ tag_written n w out at (put_tag n w)) × (out ≡ tag_stored n w out at (put_tag n w))
  refuses some = tag_refused n w out at (put_tag n w) good room is-good is-fits some

  module _ {u : ⊤} (none : Ok u ≡ found_ground (first_ground good room)) where
    room-for-it : at + length (put_tag n w) ≤ length out
    room-for-it = tag_fits n w out at (put_tag n w) good room is-good is-fits none

    stores : (next : ℕ) → next ≡ at + length (put_tag n w) → (out' : List ℕ) → out' ≡ stored out at (put_tag n w)
        → (Ok next ≡ tag_written n w out at (put_tag n w)) × (out' ≡ tag_stored n w out at (put_tag n w))
    stores next is-next out' is-out' = (
      written out at (put_tag n w) room-for-it next is-next
          ∙ sym (tag_written_lem n w out at (put_tag n w) good room is-good is-fits none),
      is-out' ∙ sym (tag_stored_lem n w out at (put_tag n w) good room is-good is-fits none),
    )

pub returns-in_err-first_ground : goal.returns-in_err-first_ground
returns-in_err-first_ground c =
    let args = c.args in
    let refused = refuses args.number args.wire_type args.out.now args.at _ c.varint_len.ensures _ c.has_room-room.ensures _
    c.good_tag.ensures (refused_as c.first_ground.ensures c.in_err-first_ground.was) in
    (refused_by _ _ c.from_residual.ensures ∙ refused.0, refused.1)

pub put_varint-requires : goal.put_varint-requires
put_varint-requires c =
    let args = c.args in
    room-for-it args.number args.wire_type args.out.now args.at _ c.varint_len.ensures _ c.has_room-room.ensures _
    c.good_tag.ensures (found_as c.first_ground.ensures c.in_ok-first_ground.was)

pub returns : goal.returns
returns c =
    let args = c.args in
    stores args.number args.wire_type args.out.now args.at _ c.varint_len.ensures _ c.has_room-room.ensures _
    c.good_tag.ensures (found_as c.first_ground.ensures c.in_ok-first_ground.was) _ c.put_varint.ensures.0 _ c.put_varint.ensures.1
