-- The ceiling, then the length, then `check`.
use native.Mathlib.Omega.{arith}
use borrow.Author.Tests.{eq-eqb, ne_eqb}
use Rattle.fixed_header.specs.Header.{header_error}
use Rattle.laws.proofs.Tests.{fails, holds}
use Rattle.fixed_header.proofs.Codes.{ceiling_range}
use Rattle.fixed_header.proofs.check_header.Goals as goal

pub returns-then-not-ceiling_ok : goal.returns-then-not-ceiling_ok
unfolding header_error
returns-then-not-ceiling_ok c = rw (fails c.ceiling_ok.ensures c.if-not-ceiling_ok.true-raw)

pub returns-then-bytes-ne-HEADER : goal.returns-then-bytes-ne-HEADER
unfolding header_error
returns-then-bytes-ne-HEADER c =
    rw (holds c.ceiling_ok.ensures c.if-not-ceiling_ok.false-raw, ne_eqb _ _ c.if-bytes-ne-HEADER.true)

pub check-requires : goal.check-requires
check-requires c =
    let in_range = ceiling_range _ (holds c.ceiling_ok.ensures c.if-not-ceiling_ok.false-raw) in
    (omega (arith, c.if-bytes-ne-HEADER.false), in_range.0)

pub returns : goal.returns
unfolding header_error
returns c =
    rw (holds c.ceiling_ok.ensures c.if-not-ceiling_ok.false-raw, eq-eqb _ _ c.if-bytes-ne-HEADER.false) c.check.ensures
