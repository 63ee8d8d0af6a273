-- For a user in C: when `trpc_queue_add`, `trpc_queue_take` and `trpc_queue_cancel` return which number, of any queue in memory.
--
-- Promised, of any call that gave what its contract ensures (`Ensured`, tied in proofs/Contracts), whatever the memory held: a number is
-- returned exactly when its ground holds and none before it does, 24 first; with no ground the call does its work; the queue, and the job
-- lent to take and cancel, are said for each case.
--   `c_add`      24, 22, 25, 21
--   `c_take`     24, 23
--   `c_cancel`   24, 26
-- Not promised: what the calls come to one after another, which `queue_promise` says.
-- Ruled out: a call that returns 0 for a queue that is not valid, and one that changes the queue and returns a number.
use Prim.Native.Nat.{ℕ}
use Rattle.queue.specs.declared.Queue.{Queue}
use Rattle.queue.specs.Calls.{Added, Removed, new_job}
use Rattle.refusals.specs.Grounds.{Exactly}
use Rattle.thm_refusals.specs.Queue.{add_entry, take_entry, cancel_entry}
use Rattle.thm_refusals.proofs.Queue.{add_gives, take_gives, cancel_gives}
use Rattle.thm_queue.specs.Calls.{add, take, cancel, Seen, Ensured}

-- what the controller has after an add, and after a take or a cancel
abbrev pub add_gave : Seen → Added
add_gave s = record { queue = s.queue; error = s.error }

abbrev pub removal_gave : Seen → Removed
removal_gave s = record { queue = s.queue; job = s.job; error = s.error }

module _ (q : Queue) (s : Seen) where
  pub c_add : (c r t a : ℕ) → Ensured q (add c r t a) s → Exactly (add_entry q (new_job c r t a)) (add_gave s)
  c_add c r t a ensured = add_gives q (new_job c r t a) (add_gave s) ensured

  pub c_take : Ensured q take s → Exactly (take_entry q) (removal_gave s)
  c_take ensured = take_gives q (removal_gave s) ensured

  pub c_cancel : (c r : ℕ) → Ensured q (cancel c r) s → Exactly (cancel_entry q c r) (removal_gave s)
  c_cancel c r ensured = cancel_gives q c r (removal_gave s) ensured
