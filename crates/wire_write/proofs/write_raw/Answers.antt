-- `write_raw` meets its contract: the content is stored, or there was no room for it.
use Prim.Native.Nat.{ℕ, ◌+◌, ◌≤◌}
use mathlib.Core.Path.{◌≡◌, refl, sym, ◌∙◌}
use mathlib.Core.Bool.{Bool, true, false}
use mathlib.Core.List.{List}
use lib.ListN.{length}
use native.Mathlib.Omega.{arith}
use borrow.Author.Tests.{leb-true, leb-false}
use Rattle.std.specs.Prelude.{Ok, Err}
use Rattle.refusals.specs.Numbers.{output_short}
use Rattle.copying.specs.Stored.{fits}
use Rattle.wire_write.specs.Writing.{written_at}
use Rattle.wire_write.proofs.Outputs.{written, full}
use Rattle.wire_write.proofs.write_raw.Goals as goal

module _ (out x : List ℕ) (at : ℕ) (b : Bool) (is_b : b ≡ fits out at x) where
  room : b ≡ true → at + length x ≤ length out
  room t = leb-true (at + length x) (length out) (sym is_b ∙ t)

  stores : b ≡ true → (next : ℕ) → next ≡ at + length x → Ok next ≡ written_at out at x
  stores t next e = written out at x (room t) next e

  refuses : b ≡ false → Err output_short ≡ written_at out at x
  refuses t = (full out at x (omega (arith, leb-false (at + length x) (length out) (sym is_b ∙ t)))).0

pub overflow_add-result : goal.overflow_add-result
overflow_add-result c =
    let args = c.args in
    omega (arith, room args.out.now args.content.now args.at _ c.copy_short_to.ensures.0 c.if-copy_short_to.true)

pub returns-then-copy_short_to : goal.returns-then-copy_short_to
returns-then-copy_short_to c =
    let args = c.args in
    let stored_is = c.copy_short_to.ensures in
    (stores args.out.now args.content.now args.at _ stored_is.0 c.if-copy_short_to.true _ refl, stored_is.1)

pub returns : goal.returns
returns c =
    let args = c.args in
    let stored_is = c.copy_short_to.ensures in
    (refuses args.out.now args.content.now args.at _ stored_is.0 c.if-copy_short_to.false, stored_is.1)
