-- The state is not known, or the frame goes on.
use mathlib.Core.Path.{◌∙◌}
use native.Mathlib.Omega.{arith}
use lib.ListN.{take}
use Rattle.fixed_header.proofs.Codes.{good_total}
use Rattle.deframer.specs.Deframe.{stream}
use Rattle.deframer.proofs.Advance.{begins, content_moved, call_unknown, call_moves, called_refused, called_moved, from_start}
use Rattle.deframer.proofs.Known.{known_by}
use Rattle.deframer.proofs.fill.more.Goals as goal

pub returns-in-None : goal.returns-in-None
returns-in-None c =
    let st = c.args.state in
    let d = c.args.buffer.now in
    let p = c.args.piece.now in
    let most = c.args.ceiling in
    let unknown = known_by most st d c.requires.3 (c.in-None.ensures.bytes_value c.requires.2 (omega arith)) in
    let m = called_refused most st d p 2 _ c.refused.ensures (call_unknown most st d p c.requires.0 c.requires.1 unknown) in
    record { value = m.0; buffer_after = m.1 }

pub content-requires : goal.content-requires
content-requires c =
    let good = c.in-Some.ensures.in_bounds in
    let total = good_total c.args.ceiling (take 16 c.args.buffer.now) good.1 in
    (omega arith, omega arith, omega arith, omega arith)

pub returns-in-Some : goal.returns-in-Some
returns-in-Some c =
    let st = c.args.state in
    let d = c.args.buffer.now in
    let p = c.args.piece.now in
    let most = c.args.ceiling in
    let size = c.in-Some.total in
    let good = c.in-Some.ensures.in_bounds in
    let total = good_total most (take 16 d) good.1 in
    let known = known_by most st d c.requires.3 (c.in-Some.ensures.bytes_value c.requires.2 (omega arith)) in
    let begun = begins most d p st.held size c.requires.2 (omega arith) good.1 good.2 in
    let m = called_moved most st d p _ _ (call_moves most st d p c.requires.0 c.requires.1 known c.requires.3)
    (content_moved most size _ _ d (stream st.held d p) st.held begun.0 begun.1 begun.2
    (from_start size _ _ d p st.held (c.content.ensures.value, c.content.ensures.buffer_after))) in
    record { value = m.0; buffer_after = m.1 }
