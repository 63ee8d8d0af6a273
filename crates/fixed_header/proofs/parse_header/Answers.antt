-- A refusal is handed on; a header that is not refused has 16 bytes.
use mathlib.Core.Path.{sym}
use native.Mathlib.Omega.{arith}
use borrow.Author.Tests.{ne_eqb}
use Rattle.std.proofs.lemmas.Result.{err_from_is_err_and}
use Rattle.refusals.proofs.Answers.{number_not_0}
use Rattle.fixed_header.specs.Header.{parsed}
use Rattle.fixed_header.proofs.Codes.{good_length}
use Rattle.fixed_header.proofs.parse_header.Goals as goal

pub returns-in_err-check_header : goal.returns-in_err-check_header
unfolding parsed
returns-in_err-check_header c =
    let p = err_from_is_err_and c.from_residual.result c.from_residual.ensures.1 in
    rw (p.1, p.2, ← c.in_err-check_header.ensures, ne_eqb _ _ (number_not_0 c.in_err-check_header.field-0.0))

pub header_in-requires : goal.header_in-requires
header_in-requires c =
    omega (arith, good_length c.args.ceiling c.args.bytes.now (sym c.in_ok-check_header.ensures))

pub returns : goal.returns
unfolding parsed
returns c = rw (← c.in_ok-check_header.ensures, c.header_in.ensures)
