-- Document 01, "Waiting jobs": which job is due before another, in whole numbers. No definition that the code is proved to
-- meet is used, so that the due order can be read without them.
-- Assumes nothing.
use Rattle.std.specs.Prelude.{ℕ, ◌+◌, ◌<◌, ◌≡◌, ◌⊎◌}
use Rattle.queue.specs.declared.Job.{Job}

-- "timeout 0 is no deadline"
abbrev pub NoDeadline : Job → Type 0
NoDeadline j = j.timeout ≡ 0

abbrev pub HasDeadline : Job → Type 0
HasDeadline j = 0 < j.timeout

-- "Due time is arrival plus timeout as whole numbers"
abbrev pub due_at : Job → ℕ
due_at j = j.arrival + j.timeout

-- j is due before k. No deadline "sorts after all others".
abbrev pub DueBefore : (j k : Job) → Type 0
DueBefore j k = HasDeadline j × (NoDeadline k ⊎ (HasDeadline k × (due_at j < due_at k)))

-- j and k are equally due. Of no deadline: "two such being a tie".
abbrev pub EquallyDue : (j k : Job) → Type 0
EquallyDue j k = (NoDeadline j × NoDeadline k) ⊎ (HasDeadline j × HasDeadline k × (due_at j ≡ due_at k))
