-- Document 01, "Waiting jobs": when a job is due, and which of two jobs is due before the other.
-- Assumes nothing.
use Rattle.std.specs.Prelude.{ℕ, ◌+◌, Bool, true, false, cond, ltb, eqb}
use Rattle.queue.specs.declared.Job.{Job}

-- "Due time is arrival plus timeout as whole numbers"
abbrev pub due_time : Job → ℕ
due_time j = j.arrival + j.timeout

-- "timeout 0 is no deadline"
pub data Due : Type 0 where
  at : ℕ → Due
  never : Due

unfoldable pub due : Job → Due
due j = cond (eqb j.timeout 0) never (at (due_time j))

-- no deadline "sorts after all others, two such being a tie"
abbrev pub earlier : Due → Due → Bool
earlier never e = false
earlier (at m) never = true
earlier (at m) (at n) = ltb m n

abbrev pub due_before : Job → Job → Bool
due_before a b = earlier (due a) (due b)
