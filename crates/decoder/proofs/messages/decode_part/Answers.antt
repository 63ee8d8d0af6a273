-- `decode_part` meets its contract: blank slots over cleared rows hold the blank state, and what `read_fields` then reports is the
-- message (`Whole`).
use mathlib.Core.Path.{sym, ◌∙◌}
use Rattle.schema.proofs.KindLaws.{message_number_lem}
use Rattle.decoder.proofs.Whole.{blank_held, decoded, not_decoded}
use Rattle.decoder.proofs.messages.decode_part.Goals as goal

pub read_fields-decoded-requires : goal.read_fields-decoded-requires
read_fields-decoded-requires c =
    let pre = c.requires in
    (pre.0, pre.1, pre.2, blank_held c.clear.new.rows c.args.rows.now c.clear.ensures pre.3)

pub returns-then-is_err : goal.returns-then-is_err
returns-then-is_err c =
    let args = c.args in
    let call = c.read_fields-decoded in
    let second = c.clear-then-is_err in
    let gives =
    not_decoded args.frame.now args.schema args.at args.end _ args.rows.now c.clear.new.rows call.new.rows _ c.requires.1
    (message_number_lem _ _ c.message_schema.ensures) c.clear.ensures call.ensures (sym c.is_err.ensures.value ∙ c.if-is_err.true)
    second.new.rows second.ensures in
    record { value = gives.0; rows_after = gives.1 }

pub returns-else-is_err : goal.returns-else-is_err
returns-else-is_err c =
    let args = c.args in
    let call = c.read_fields-decoded in
    let gives =
    decoded args.frame.now args.schema args.at args.end _ args.rows.now c.clear.new.rows call.new.rows _ c.requires.1
    (message_number_lem _ _ c.message_schema.ensures) c.clear.ensures call.ensures (sym c.is_err.ensures.value ∙ c.if-is_err.false) in
    record { value = gives.0; rows_after = gives.1 }
