-- The laws of `Known`, a branch each; the 16 bytes that `check_header` sees are the buffer's first.
use mathlib.Core.Path.{refl, sym, ◌∙◌}
use native.Mathlib.Omega.{arith}
use borrow.Author.Tests.{eq-eqb, ne_eqb}
use lib.Seq.{length-take-le}
use Rattle.deframer.proofs.Known.{unknown_held, known_code}
use Rattle.deframer.proofs.fill.held_refusal.Goals as goal

pub returns-then-state-ne-HEADER : goal.returns-then-state-ne-HEADER
returns-then-state-ne-HEADER c = λ some.
    rw (unknown_held c.args.ceiling c.args.state c.args.buffer.now some c.if-state-ne-HEADER.true)

pub slice_bounds-check_header-end : goal.slice_bounds-check_header-end
slice_bounds-check_header-end c = sym (length-take-le 16 c.args.buffer.now (omega arith))

pub returns-in-Err : goal.returns-in-Err
returns-in-Err c = λ some.
    let is = sym c.number.ensures ∙ c.if-number-state.true in
    rw (
      known_code c.args.ceiling c.args.state c.args.buffer.now some c.requires.0 (omega arith) c.if-state-ne-HEADER.false,
      eq-eqb _ _ (sym c.in-Err.ensures ∙ is),
    )
    is

pub returns-in_default : goal.returns-in_default
returns-in_default c = λ some.
    rw (
      known_code c.args.ceiling c.args.state c.args.buffer.now some c.requires.0 (omega arith) c.if-state-ne-HEADER.false,
      ne_eqb _ _ (λ e. c.if-number-state.false (c.number.ensures ∙ c.in-Err.ensures ∙ e)),
    )

pub returns-in_default-2 : goal.returns-in_default-2
returns-in_default-2 c = λ some.
    rw (
      known_code c.args.ceiling c.args.state c.args.buffer.now some c.requires.0 (omega arith) c.if-state-ne-HEADER.false,
      ne_eqb _ _ (λ e. some (sym (c.in_default.ensures ∙ e))),
    )
