-- A part that is empty, and one that is not.
use Prim.Native.Nat.{◌-◌}
use mathlib.Core.Path.{◌≡◌, refl}
use native.Mathlib.Omega.{arith}
use borrow.Author.Tests.{ne_eqb}
use Rattle.message.proofs.frames.span.Goals as goal

pub returns-then-end-start : goal.returns-then-end-start
returns-then-end-start c =
    let e : c.args.end - c.args.start ≡ 0 = omega arith in
    rw e refl

pub returns : goal.returns
returns c =
    rw (ne_eqb (c.args.end - c.args.start) 0 (omega arith)) refl
