-- Document 01, "Waiting jobs" and "Refusal numbers": what each call answers, and the whole queue after it.
-- Assumes nothing.
use Rattle.std.specs.Prelude.{ℕ, cond, eqb, replicate, Result, Ok, Err}
use Rattle.refusals.specs.Numbers.{queue_full, late_arrival, queue_empty, bad_queue, pair_waits, pair_absent}
use Rattle.refusals.specs.Refusals.{code_of}
use Rattle.refusals.specs.declared.Refusal.{Refusal}
use Rattle.records.specs.declared.Request.{Request}
use Rattle.queue.specs.declared.Job.{Job}
use Rattle.queue.specs.declared.Queue.{Queue}
use Rattle.queue.specs.declared.Added.{Added as AddAnswer}
use Rattle.queue.specs.declared.Removed.{Removed as RemovalAnswer}
use Rattle.queue.specs.Waiting.{capacity, zero_job, waiting, job_at, any, place, has_pair}
use Rattle.queue.specs.Waiting.{same_pair, late, invalid, earliest, filled, closed_up}

-- a job of "connection number, request id and timeout (32-bit), arrival (64-bit ms)"; the number that fills its gap is 0
abbrev pub new_job : (connection request timeout arrival : ℕ) → Job
new_job connection request timeout arrival =
    record { connection = connection; request = request; timeout = timeout; zero = 0; arrival = arrival }

-- "The id in bytes 11-14 is the one to answer with; the message's own request_id is only handed over."
abbrev pub job_of : Request → (connection arrival : ℕ) → Job
job_of request connection arrival = new_job connection request.id request.timeout arrival

-- a queue in which nothing waits, all zero
abbrev pub empty_queue : Queue
empty_queue = record { jobs = replicate capacity zero_job; count = 0 }

-- ---- what the caller has after a call: the queue, the job removed, and the refusal number, 0 where there is none
pub record Added : Type 0 where
  pub queue : Queue
  pub error : ℕ

pub record Removed : Type 0 where
  pub queue : Queue
  pub job : Job
  pub error : ℕ

-- "all others leave rows, output and list untouched"
abbrev pub add_error : Queue → ℕ → Added
add_error q n = record { queue = q; error = n }

-- "List 24 first; add 22, 25, 21"; "21 is given exactly when 64 jobs wait and none of 24, 22, 25 applies". "A clock that goes
-- back is no fault": no ground compares arrivals.
unfoldable pub added : Queue → Job → Added
added q j =
    cond (invalid q) (add_error q bad_queue)
    (cond (late j) (add_error q late_arrival)
    (cond (any (same_pair j) (waiting q)) (add_error q pair_waits)
    (cond (eqb q.count capacity) (add_error q queue_full)
    (record { queue = filled q j; error = 0 }))))

-- "A refused record or job is all zero", and the list is untouched
abbrev pub remove_error : Queue → ℕ → Removed
remove_error q n = record { queue = q; job = zero_job; error = n }

-- take and cancel "give the job removed"
abbrev pub removed_at : Queue → ℕ → Removed
removed_at q at = record { queue = closed_up q at; job = job_at (waiting q) at; error = 0 }

-- "Take removes the earliest due"; 24, then 23 where "nothing waits"
unfoldable pub taken : Queue → Removed
taken q =
    cond (invalid q) (remove_error q bad_queue)
    (cond (eqb q.count 0) (remove_error q queue_empty)
    (removed_at q (earliest (waiting q))))

-- "Cancel removes the named pair"; 24, then 26 where "that pair doesn't wait"
unfoldable pub cancelled : Queue → ℕ → ℕ → Removed
cancelled q c r =
    cond (invalid q) (remove_error q bad_queue)
    (cond (any (has_pair c r) (waiting q)) (removed_at q (place (has_pair c r) (waiting q)))
    (remove_error q pair_absent))

-- ---- the same by what the code answers: the job of a refusal is all zero
abbrev pub after_add : AddAnswer → Added
after_add a = record { queue = a.queue; error = code_of a.answer }

abbrev pub job_or_zero : Result Job Refusal → Job
job_or_zero (Ok j) = j
job_or_zero (Err refusal) = zero_job

abbrev pub after_removal : RemovalAnswer → Removed
after_removal r = record { queue = r.queue; job = job_or_zero r.job; error = code_of r.job }
