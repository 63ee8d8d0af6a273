-- What is written of slots is what is written of their record (`Slots`): each slot is a number of 32 bits.
use Prim.Native.Nat.{ℕ}
use mathlib.Core.Path.{ap, ◌∙◌}
use lib.ListN.{get_or}
use mir.Syntax.{w32}
use mir.Val.{Fits}
use borrow.Author.Rules.{rules}
use Rattle.writer.specs.Writing.{Writing}
use Rattle.writer.proofs.Slots.{from_slots}
use Rattle.writer.proofs.write_slots.Goals as goal

pub returns : goal.returns
returns c =
    let fit : (i : ℕ) → Fits w32 (get_or c.args.slots i 0) = λ i. search rules in
    let same = from_slots c.args.id c.args.header_version c.args.slots c.args.count (λ i. (fit i).fits) c.args.ceiling c.args.kind
    c.args.source.now c.args.rows.now c.args.body.now c.args.out.now in
    let wrote = c.write_values.ensures in
    (wrote.0 ∙ ap (λ (w : Writing). w.answer) same, wrote.1 ∙ ap (λ (w : Writing). w.output) same)
