-- The bytes are none, or end with the frame, or lie within it.
use Prim.Native.Nat.{ℕ, ◌+◌, min}
use mathlib.Core.Path.{◌≡◌, refl, sym, ap, ◌∙◌}
use lib.ListN.{length}
use native.Mathlib.Omega.{arith}
use Rattle.wire_read.proofs.PartLaws.{part_empty}
use Rattle.decoder.proofs.PartEnds.{part_to_end}
use Rattle.message.specs.Spans.{place_after}
use Rattle.message.proofs.bytes_at.Goals as goal

at_place : (place : ℕ × ℕ) (a b : ℕ) → a ≡ b → place_after place a ≡ place_after place b
at_place place a b e = ap (place_after place) e

pub returns-then-size-start : goal.returns-then-size-start
returns-then-size-start c =
    let span = c.args.span in
    let f = c.args.frame in (
      part_empty f.now (length f.now) (length f.now) (omega arith)
          ∙ sym (part_empty f.now span.start (span.start + span.len) (omega arith)),
      at_place f.ref_ptr (length f.now) (min span.start (length f.now)) (omega arith),
    )

pub returns-then-size-end : goal.returns-then-size-end
returns-then-size-end c =
    let span = c.args.span in
    let f = c.args.frame in (
      part_to_end f.now span.start (span.start + span.len) (omega arith),
      at_place f.ref_ptr span.start (min span.start (length f.now)) (omega arith),
    )

pub returns : goal.returns
returns c =
    let span = c.args.span in
    let f = c.args.frame in
    (refl, at_place f.ref_ptr span.start (min span.start (length f.now)) (omega arith))
