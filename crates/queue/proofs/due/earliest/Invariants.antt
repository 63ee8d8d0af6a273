-- The first jobs are led by the one that was found: at the start the first job leads itself.
use Rattle.std.proofs.Common.{◌≡◌, ◌+◌}
use Rattle.queue.specs.Due.{due}
use Rattle.queue.specs.Waiting.{job_at}
use Rattle.queue.specs.Found.{as_due}
use Rattle.queue.proofs.Leader.{Leads}
use Rattle.queue.proofs.due.earliest.Given as goal

abbrev pub invariant-loop-i : goal.invariant-loop-i
invariant-loop-i l =
    record {
      leads : Leads l.jobs (l.i + 1) l.first;
      best_is : as_due l.best ≡ due (job_at l.jobs l.first);
    }
