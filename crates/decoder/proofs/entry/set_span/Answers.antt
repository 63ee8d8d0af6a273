-- `set_span` meets its contract: its branches are the definition's tests.
use borrow.Author.Tests.{eq-eqb, ne_eqb}
use mathlib.Core.Path.{sym}
use Rattle.decoder.specs.DecoderState.{with_span}
use Rattle.decoder.proofs.entry.set_span.Goals as goal

pub returns-then-number-eq1 : goal.returns-then-number-eq1
unfolding with_span
returns-then-number-eq1 c =
    rw (eq-eqb 1 _ (sym c.if-number-eq1.true), c.start_of-place.ensures)

pub returns-then-number-eq2 : goal.returns-then-number-eq2
unfolding with_span
returns-then-number-eq2 c =
    rw (
      ne_eqb 1 _ (λ e. c.if-number-eq1.false (sym e)),
      eq-eqb 2 _ (sym c.if-number-eq2.true),
      c.start_of-place.ensures,
    )

pub returns : goal.returns
unfolding with_span
returns c =
    rw (ne_eqb 1 _ (λ e. c.if-number-eq1.false (sym e)), ne_eqb 2 _ (λ e. c.if-number-eq2.false (sym e)))
