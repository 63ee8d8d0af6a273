-- Each ground of a refusal in its order (`Readings`); after a good fixed header `read_whole` answers, as under any ceiling (`Under`).
use mathlib.Core.Path.{sym, ap, ◌∙◌}
use native.Mathlib.Omega.{arith}
use lib.Seq.{length-take-le}
use Rattle.std.proofs.lemmas.Result.{err_from_is_err_and}
use Rattle.fixed_header.proofs.Codes.{ceiling_range}
use Rattle.refusals.specs.Refusals.{in_numbers}
use Rattle.message.proofs.Readings.{bad_ceiling_lem, few_rows, short}
use Rattle.message.proofs.WholeFrames.{header_refused, good_at_largest, read_at_largest}
use Rattle.message.proofs.frames.read_parts.Goals as goal

pub returns-then-not-ceiling_ok : goal.returns-then-not-ceiling_ok
returns-then-not-ceiling_ok c =
    bad_ceiling_lem c.args.ceiling c.args.kind c.args.frame.now c.args.rows.now (sym c.ceiling_ok.ensures ∙ c.if-not-ceiling_ok.true)

pub returns-then-rows-lt-ROW_NUMBERS : goal.returns-then-rows-lt-ROW_NUMBERS
returns-then-rows-lt-ROW_NUMBERS c =
    let in_range = ceiling_range c.args.ceiling (sym c.ceiling_ok.ensures ∙ c.if-not-ceiling_ok.false) in
    few_rows c.args.ceiling in_range c.args.kind c.args.frame.now c.args.rows.now c.if-rows-lt-ROW_NUMBERS.true

pub returns-then-frame-lt-HEADER : goal.returns-then-frame-lt-HEADER
returns-then-frame-lt-HEADER c =
    let in_range = ceiling_range c.args.ceiling (sym c.ceiling_ok.ensures ∙ c.if-not-ceiling_ok.false) in
    short c.args.ceiling c.args.kind c.args.frame.now c.args.rows.now c.if-rows-lt-ROW_NUMBERS.false in_range c.if-frame-lt-HEADER.true

pub slice_bounds-parse_header-end : goal.slice_bounds-parse_header-end
slice_bounds-parse_header-end c =
    sym (length-take-le 16 c.args.frame.now (omega arith))

pub read_whole-requires : goal.read_whole-requires
read_whole-requires c = (
  c.if-rows-lt-ROW_NUMBERS.false,
  c.if-frame-lt-HEADER.false,
  good_at_largest c.args.ceiling c.args.frame.now _ (ap in_numbers (sym c.in_ok-header.was) ∙ c.parse_header.ensures),
)

pub returns-in_err-header : goal.returns-in_err-header
returns-in_err-header c =
    let p = err_from_is_err_and c.from_residual.result c.from_residual.ensures.1 in
    rw (p.1, p.2)
    (header_refused c.args.ceiling c.args.kind c.args.frame.now c.args.rows.now c.if-rows-lt-ROW_NUMBERS.false
    c.if-frame-lt-HEADER.false _ (ap in_numbers (sym c.in_err-header.was) ∙ c.parse_header.ensures))

pub returns : goal.returns
returns c =
    read_at_largest c.args.ceiling c.args.frame.now _ (ap in_numbers (sym c.in_ok-header.was) ∙ c.parse_header.ensures)
    c.args.kind c.args.rows.now _ _ c.read_whole.ensures
