-- `queue::pairs::find` meets its contract: the first job that has the pair, or none. Assumes nothing.
use mathlib.Core.Path.{◌≡◌}
use mathlib.Core.Bool.{true, false}
use Rattle.std.proofs.Common.{rules}
use Rattle.std.proofs.lemmas.Iterator.{IsFirst-from_position, YieldsList-from_slice}
use Rattle.queue.specs.declared.Job.{Job}
use Rattle.queue.specs.Waiting.{has_pair}
use Rattle.queue.proofs.Search.{found_in}
use Rattle.queue.proofs.pairs.find.Goals as goal

pub returns : goal.returns
returns c =
    let a = c.args in
    found_in (has_pair a.connection a.request) a.jobs.now _
    (IsFirst-from_position _ _ _ (λ (j : Job). has_pair a.connection a.request j ≡ true) (λ (j : Job). has_pair a.connection a.request j ≡ false)
    c.position.ensures.ran (YieldsList-from_slice a.jobs.now c.iter.ensures.rest) (λ x q k. search rules) (λ x q k. search rules))
