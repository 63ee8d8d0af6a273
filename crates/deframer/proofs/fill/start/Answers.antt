-- One copy of what the piece has of a frame, or the header first.
use native.Mathlib.Omega.{arith}
use mathlib.Core.Path.{◌≡◌}
use lib.ListN.{take}
use Rattle.fixed_header.proofs.Codes.{good_total}
use Rattle.deframer.proofs.Advance.{content_moved}
use Rattle.deframer.proofs.fill.start.Goals as goal

pub content-requires : goal.content-requires
content-requires c =
    let most = good_total c.args.ceiling (take 16 c.args.piece.now) c.in-Some.ensures.in_bounds.1 in
    let begun = c.in-Some.ensures.in_bounds in
    (omega arith, omega arith, omega arith, omega arith)

pub returns-in-Some : goal.returns-in-Some
returns-in-Some c =
    let begun = c.in-Some.ensures.in_bounds in
    let m =
    content_moved c.args.ceiling c.in-Some.total _ _ c.args.buffer.now c.args.piece.now 0
    begun.0 begun.1 begun.2 (c.content.ensures.value, c.content.ensures.buffer_after) in
    let none : c.args.held ≡ 0 = omega arith in
    rw none (record { value = m.0; buffer_after = m.1 })
