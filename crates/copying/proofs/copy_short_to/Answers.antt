-- There is room, and the copy goes to the part from `at`; or there is none.
use native.Mathlib.Omega.{arith}
use Rattle.copying.proofs.Copied.{within, rest_room, all_stored, none_stored}
use Rattle.copying.proofs.copy_short_to.Goals as goal

pub slice_bounds-copy_short-count : goal.slice_bounds-copy_short-count
slice_bounds-copy_short-count c =
    let room = within c.args.out.now c.args.source.now _ _ c.has_room.ensures c.if-has_room.true in
    omega arith

pub slice_bounds-copy_short-start : goal.slice_bounds-copy_short-start
slice_bounds-copy_short-start c =
    let room = within c.args.out.now c.args.source.now _ _ c.has_room.ensures c.if-has_room.true in
    omega arith

pub copy_short-requires : goal.copy_short-requires
copy_short-requires c =
    rest_room c.args.out.now c.args.source.now _ _ c.has_room.ensures c.if-has_room.true

pub returns-then-has_room : goal.returns-then-has_room
returns-then-has_room c =
    all_stored c.args.out.now c.args.source.now _ _ c.has_room.ensures c.if-has_room.true _
    c.copy_short.ensures

pub returns : goal.returns
returns c =
    none_stored c.args.out.now c.args.source.now _ _ c.has_room.ensures c.if-has_room.false
