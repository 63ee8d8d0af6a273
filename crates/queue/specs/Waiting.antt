-- Document 01, "Waiting jobs": the list of jobs that wait, when it is invalid, which of its jobs is taken, and how it
-- changes. Everything is said of the list of waiting jobs.
-- Assumes nothing.
use Rattle.std.specs.Prelude.{ℕ, suc, ◌-◌, ◌^◌, Bool, false, not, cond, ◌&&◌, ◌||◌, List, [], ◌∷◌, ◌++◌, ltb, eqb, take, drop, get_or}
use Rattle.queue.specs.declared.Job.{Job}
use Rattle.queue.specs.declared.Queue.{Queue}
use Rattle.queue.specs.Due.{due_before}

-- "The list holds up to 64 jobs"
abbrev pub capacity : ℕ
capacity = 64

abbrev pub latest_arrival : ℕ
latest_arrival = 2 ^ 62

-- "A refused record or job is all zero", and so is a place freed
abbrev pub zero_job : Job
zero_job = record { connection = 0; request = 0; timeout = 0; zero = 0; arrival = 0 }

-- the jobs that wait, in order of acceptance; what is past the count is no job
abbrev pub waiting : Queue → List Job
waiting q = take q.count q.jobs

-- the job at a place, counted from 0
abbrev pub job_at : List Job → ℕ → Job
job_at w k = get_or w k zero_job

-- whether some job has a property
abbrev pub any : (Job → Bool) → List Job → Bool
any p [] = false
any p (j ∷ js) = p j || any p js

-- the first place of a job that has a property; the list's length where none has
abbrev pub place : (Job → Bool) → List Job → ℕ
place p [] = 0
place p (j ∷ js) = cond (p j) 0 (suc (place p js))

-- a job's pair is its connection number and its request id
abbrev pub has_pair : ℕ → ℕ → Job → Bool
has_pair c r j = eqb j.connection c && eqb j.request r

-- whether two jobs have the same pair
abbrev pub same_pair : Job → Job → Bool
same_pair j k = has_pair j.connection j.request k

-- refusal 24: "a waiting pair twice"
abbrev pub pair_twice : List Job → Bool
pair_twice [] = false
pair_twice (j ∷ js) = any (same_pair j) js || pair_twice js

-- refusals 22 and 24: "arrival above 2^62"
abbrev pub late : Job → Bool
late j = ltb latest_arrival j.arrival

-- refusal 24: "count over 64, a waiting pair twice, or a waiting arrival above 2^62"
unfoldable pub invalid : Queue → Bool
invalid q = ltb capacity q.count || (pair_twice (waiting q) || any late (waiting q))

-- no waiting job is due before this one
abbrev pub none_before : List Job → Job → Bool
none_before w j = not (any (λ k. due_before k j) w)

-- "Take removes the earliest due, ties by acceptance": the place of the first job that no waiting job is due before
unfoldable pub earliest : List Job → ℕ
earliest w = place (none_before w) w

-- "The list holds up to 64 jobs in order of acceptance": a job that is accepted comes after those that wait.
-- This is the rule of the order in which jobs are stored.
abbrev pub with : List Job → Job → List Job
with w j = w ++ (j ∷ [])

-- the list without the job at a place: "later jobs move up one"
abbrev pub without : List Job → ℕ → List Job
without w at = take at w ++ drop (suc at) w

-- a queue with one job more; what is past the place filled stays as it was
abbrev pub filled : Queue → Job → Queue
filled q j = record { jobs = with (waiting q) j ++ drop (suc q.count) q.jobs; count = suc q.count }

-- a queue with one job less: "later jobs move up one and the last place freed is zero"; what is past it stays as it was. The
-- count is above 0, since only a job that waits is removed (`taken`, `cancelled`).
unfoldable pub closed_up : Queue → ℕ → Queue
closed_up q at =
    record { jobs = without (waiting q) at ++ zero_job ∷ drop q.count q.jobs; count = q.count - 1 }
