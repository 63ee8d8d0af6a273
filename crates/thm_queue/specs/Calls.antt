-- Calls on a queue that the controller lends, as C makes them: "It is lent by the controller and updated in place."
-- Assumes nothing.
use Rattle.std.specs.Prelude.{ℕ, ◌≡◌, cond, List, [], ◌∷◌, eqb}
use Rattle.queue.specs.declared.Job.{Job}
use Rattle.queue.specs.declared.Queue.{Queue}
use Rattle.queue.specs.Calls.{new_job, empty_queue, added, taken, cancelled}
use Rattle.thm_queue.specs.History.{Event, job_accepted, job_taken, job_cancelled, call_refused, queue_emptied}

-- `trpc_queue_init`, `trpc_queue_add`, `trpc_queue_take`, `trpc_queue_cancel`, with their numbers
pub data Call : Type 0 where
  init : Call
  add : (connection request timeout arrival : ℕ) → Call
  take : Call
  cancel : (connection request : ℕ) → Call

-- what the controller has after a call: its queue, what is in the job that it lent to take or cancel, and the number returned
pub record Seen : Type 0 where
  pub call : Call
  pub queue : Queue
  pub job : Job
  pub error : ℕ

-- the `ensures` of the call's function, where q was lent (`proofs/Contracts`). It says all of the queue's memory afterwards.
abbrev pub Ensured : Queue → Call → Seen → Type 0
Ensured q init s = s.queue ≡ empty_queue
Ensured q (add c r t a) s = record { queue = s.queue; error = s.error } ≡ added q (new_job c r t a)
Ensured q take s = record { queue = s.queue; job = s.job; error = s.error } ≡ taken q
Ensured q (cancel c r) s = record { queue = s.queue; job = s.job; error = s.error } ≡ cancelled q c r

-- each call found the queue as the one before it left it
abbrev pub InPlace : Queue → List Seen → Type 0
InPlace q [] = Unit {0}
InPlace q (s ∷ ss) = Ensured q s.call s × InPlace s.queue ss

-- ---- what a call did, by what the controller has of it: a number that is not 0 is a refusal
abbrev pub did : (error : ℕ) → Event → Event
did error e = cond (eqb error 0) e (call_refused error)

abbrev pub event_of : Call → Job → (error : ℕ) → Event
event_of init job error = queue_emptied
event_of (add c r t a) job error = did error (job_accepted (new_job c r t a))
event_of take job error = did error (job_taken job)
event_of (cancel c r) job error = did error (job_cancelled job)

abbrev pub event : Seen → Event
event s = event_of s.call s.job s.error

-- ---- what a call reports to its caller: nothing by init, a number by add, a number and a job by take and cancel
pub data Report : Type 0 where
  nothing : Report
  number : (error : ℕ) → Report
  number_and_job : (error : ℕ) → Job → Report

abbrev pub report_of : Call → Job → (error : ℕ) → Report
report_of init job error = nothing
report_of (add c r t a) job error = number error
report_of take job error = number_and_job error job
report_of (cancel c r) job error = number_and_job error job

abbrev pub reported : Seen → Report
reported s = report_of s.call s.job s.error

abbrev pub call_of : Seen → Call
call_of s = s.call
