-- The laws of `Known`, a branch each.
use mathlib.Core.Path.{refl, sym, ◌∙◌}
use native.Mathlib.Omega.{arith}
use Rattle.deframer.proofs.Known.{known_short}
use Rattle.deframer.proofs.fill.known.Goals as goal

pub returns-then-held-lt-HEADER : goal.returns-then-held-lt-HEADER
returns-then-held-lt-HEADER c =
    sym (known_short c.args.ceiling (record { held = c.args.held; error = 0 }) c.args.buffer.now refl c.if-held-lt-HEADER.true)

pub returns : goal.returns
returns c =
    c.is_some.ensures ∙ sym (c.frame_size.ensures.bytes_value c.if-held-lt-HEADER.false (omega arith))
