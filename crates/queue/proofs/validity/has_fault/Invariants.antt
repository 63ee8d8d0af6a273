-- At each turn the jobs from the next on have a fault where all have.
use mathlib.Core.Path.{◌≡◌}
use lib.ListN.{length}
use Rattle.queue.proofs.Valid.{fault}
use Rattle.queue.proofs.validity.has_fault.Given as goal

abbrev pub invariant-loop-j : goal.invariant-loop-j
invariant-loop-j l = fault l.rest ≡ fault l.jobs

abbrev pub decreases-loop-j : goal.decreases-loop-j
decreases-loop-j l = length l.rest
