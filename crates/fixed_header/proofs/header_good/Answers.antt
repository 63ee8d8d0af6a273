-- The ceiling, then the length, then `good`.
use borrow.Author.Tests.{eq-eqb, ne_eqb}
use Rattle.fixed_header.specs.Header.{header_error}
use Rattle.laws.proofs.Tests.{fails, holds}
use Rattle.fixed_header.proofs.header_good.Goals as goal

pub returns-then-not-ceiling_ok : goal.returns-then-not-ceiling_ok
unfolding header_error
returns-then-not-ceiling_ok c = rw (fails c.ceiling_ok.ensures c.if-not-ceiling_ok.true-raw)

pub returns-then-bytes-ne-HEADER : goal.returns-then-bytes-ne-HEADER
unfolding header_error
returns-then-bytes-ne-HEADER c =
    rw (holds c.ceiling_ok.ensures c.if-not-ceiling_ok.false-raw, ne_eqb _ _ c.if-bytes-ne-HEADER.true)

pub returns : goal.returns
unfolding header_error
returns c =
    rw (holds c.ceiling_ok.ensures c.if-not-ceiling_ok.false-raw, eq-eqb _ _ c.if-bytes-ne-HEADER.false) c.good.ensures
