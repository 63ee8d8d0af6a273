-- `queue::due::due_before` meets its contract: the derived order is that of the definitions. Assumes nothing.
use mathlib.Core.Path.{◌≡◌, refl, ◌∙◌}
use native.Mathlib.Omega.{arith}
use Rattle.std.proofs.lemmas.Bool.Decides.{nat_tests}
use Rattle.std.specs.Ordering.{partial_lt}
use Rattle.queue.specs.declared.due.Due.{Due}
use Rattle.queue.specs.declared.due.Due.TheVariants.{At, Never}
use Rattle.queue.specs.contracts.due.DuePartialOrd.TheImpl as order
use Rattle.queue.specs.Due.{earlier}
use Rattle.queue.specs.Found.{as_due}
use Rattle.queue.proofs.due.due_before.Goals as goal

order_is : (x y : Due) → partial_lt order.partial_cmp-value.it x y ≡ earlier (as_due x) (as_due y)
order_is (At m) (At n) = grind (arith, nat_tests)
order_is (At m) Never = refl
order_is Never (At n) = refl
order_is Never Never = refl

pub returns : goal.returns
returns c = c.lt.ensures ∙ order_is c.args.a c.args.b
