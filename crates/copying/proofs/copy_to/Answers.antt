-- There is room, and the copy goes to the part from `at`; or there is none.
use native.Mathlib.Omega.{arith}
use Rattle.copying.proofs.Copied.{within, rest_room, all_stored, none_stored}
use Rattle.copying.proofs.copy_to.Goals as goal

pub slice_bounds-copy_parts-count : goal.slice_bounds-copy_parts-count
slice_bounds-copy_parts-count c =
    let room = within c.args.out.now c.args.source.now _ _ c.has_room.ensures c.if-has_room.true in
    omega arith

pub slice_bounds-copy_parts-start : goal.slice_bounds-copy_parts-start
slice_bounds-copy_parts-start c =
    let room = within c.args.out.now c.args.source.now _ _ c.has_room.ensures c.if-has_room.true in
    omega arith

pub copy_parts-requires : goal.copy_parts-requires
copy_parts-requires c =
    rest_room c.args.out.now c.args.source.now _ _ c.has_room.ensures c.if-has_room.true

pub returns-then-has_room : goal.returns-then-has_room
returns-then-has_room c =
    all_stored c.args.out.now c.args.source.now _ _ c.has_room.ensures c.if-has_room.true _
    c.copy_parts.ensures

pub returns : goal.returns
returns c =
    none_stored c.args.out.now c.args.source.now _ _ c.has_room.ensures c.if-has_room.false
