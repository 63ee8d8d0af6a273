-- The history of a queue: what each call did, in order, and what waits by it. What waits is a function of the events only.
-- Assumes nothing.
use Rattle.std.specs.Prelude.{ℕ, Bool, true, false, cond, ◌||◌, List, [], ◌∷◌, map}
use Rattle.queue.specs.declared.Job.{Job}
use Rattle.queue.specs.Waiting.{same_pair}

-- a job was accepted, taken or cancelled; a call was refused with a number; or the queue was made one in which nothing waits
pub data Event : Type 0 where
  job_accepted : Job → Event
  job_taken : Job → Event
  job_cancelled : Job → Event
  call_refused : (number : ℕ) → Event
  queue_emptied : Event

-- whether an event removes a job, which is known by its pair
abbrev pub removes : Job → Event → Bool
removes j (job_accepted k) = false
removes j (job_taken k) = same_pair k j
removes j (job_cancelled k) = same_pair k j
removes j (call_refused n) = false
removes j queue_emptied = true

-- whether one of these events does
abbrev pub removed_in : Job → List Event → Bool
removed_in j [] = false
removed_in j (e ∷ es) = removes j e || removed_in j es

-- what waits: the jobs accepted and not removed since, in order of acceptance
abbrev pub waits : List Event → List Job
waits [] = []
waits (job_accepted j ∷ es) = cond (removed_in j es) (waits es) (j ∷ waits es)
waits (job_taken j ∷ es) = waits es
waits (job_cancelled j ∷ es) = waits es
waits (call_refused n ∷ es) = waits es
waits (queue_emptied ∷ es) = waits es

-- the history of a queue in which these jobs wait: each was accepted, in this order
abbrev pub started_with : List Job → List Event
started_with js = map job_accepted js
