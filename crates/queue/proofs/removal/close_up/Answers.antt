-- `queue::removal::close_up` meets its contract: the jobs after the place are copied up, and the last place is made zero.
-- Assumes nothing.
use Prim.Native.Nat.{◌-◌}
use mathlib.Core.Path.{◌≡◌, refl, ◌∙◌}
use mathlib.Core.List.{List}
use native.Mathlib.Omega.{arith}
use borrow.Author.Rules.{rules}
use lib.ListN.{length}
use Rattle.queue.specs.Waiting.{capacity, zero_job}
use Rattle.queue.proofs.CloseUp.{moved_up, copied_up, closed_queue}
use Rattle.queue.proofs.removal.close_up.Goals as goal

pub returns : goal.returns
returns c =
    let q = c.args.q.now in
    let at = c.args.at in
    let places : length q.jobs ≡ capacity = search rules in
    let zero : c.default.result ≡ zero_job = search rules in
    let moved : c.copy_within.new.self ≡ moved_up q.jobs at (q.count - 1) =
    c.copy_within.ensures.after ∙ copied_up q.jobs at q.count (omega arith) in
    closed_queue q at (omega arith) (omega arith) (rw (moved, zero)) refl
