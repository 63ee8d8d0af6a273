-- What is written of its kind, its id, its version, its slots and its row count is what is written of the record.
use mathlib.Core.Path.{ap, ◌∙◌}
use Rattle.writer.specs.Writing.{Writing}
use Rattle.writer.proofs.Refusals.{as_record}
use Rattle.writer.proofs.write.Goals as goal

pub returns : goal.returns
returns c =
    let is = c.slots_of-outline.ensures in
    let same = as_record c.args.ceiling c.args.«record» is.0 is.1 is.2 is.4 is.3 c.args.source.now c.args.rows.now
    c.args.body.now c.args.out.now in
    let wrote = c.write_values.ensures in
    (wrote.0 ∙ ap (λ (w : Writing). w.answer) same, wrote.1 ∙ ap (λ (w : Writing). w.output) same)
