-- `decode` meets its contract: each ground of a refusal in its order (`Answers`); then `decode_part` reads the part that exists
-- (`PartEnds`).
use Rattle.std.proofs.Common.{arith}
use Rattle.refusals.specs.declared.Refusal.TheVariants as refusals
use Rattle.decoder.proofs.Answers.{few_numbers, too_long, refusal, part_read}
use Rattle.decoder.proofs.decode.Goals as goal

pub returns-then-rows-lt-ROW_NUMBERS : goal.returns-then-rows-lt-ROW_NUMBERS
returns-then-rows-lt-ROW_NUMBERS c =
    let args = c.args in
    let gives =
    refusal refusals.RowsShort
    (few_numbers args.frame.now args.at args.end args.schema args.rows.now c.if-rows-lt-ROW_NUMBERS.true) in
    record { value = gives.0; rows_after = gives.1 }

pub returns-then-frame-gt-MAX_FRAME : goal.returns-then-frame-gt-MAX_FRAME
returns-then-frame-gt-MAX_FRAME c =
    let args = c.args in
    let gives =
    refusal refusals.WrongFrame
    (too_long args.frame.now args.at args.end args.schema args.rows.now c.if-rows-lt-ROW_NUMBERS.false c.if-frame-gt-MAX_FRAME.true) in
    record { value = gives.0; rows_after = gives.1 }

pub decode_part-requires : goal.decode_part-requires
decode_part-requires c =
    let is-start = c.min.ensures in
    let is-stop = c.min-stop.ensures in
    (omega arith, omega arith, c.if-frame-gt-MAX_FRAME.false, c.if-rows-lt-ROW_NUMBERS.false)

pub returns : goal.returns
returns c =
    let args = c.args in
    let call = c.decode_part in
    let gives =
    part_read args.frame.now args.at args.end args.schema args.rows.now c.if-rows-lt-ROW_NUMBERS.false c.if-frame-gt-MAX_FRAME.false
    call.result {numbers = call.new.rows} c.min-stop.ensures c.min.ensures (call.ensures.value, call.ensures.rows_after) in
    record { value = gives.0; rows_after = gives.1 }
