-- What the private functions say of the jobs that wait. No public contract cites it.
use Rattle.std.specs.Prelude.{ℕ, ◌<◌, ◌≤◌, ◌≡◌, Bool, true, false, List, length}
use Rattle.queue.specs.declared.Job.{Job}
use Rattle.queue.specs.declared.Queue.{Queue}
use Rattle.queue.specs.declared.due.Due.{Due as CodeDue}
use Rattle.queue.specs.declared.due.Due.TheVariants as code
use Rattle.refusals.specs.declared.Refusal.{Refusal}
use Rattle.refusals.specs.Refusals.{number}
use Rattle.queue.specs.Due.{Due, at, never}
use Rattle.queue.specs.Waiting.{capacity, waiting, any, place, late, invalid, earliest, filled}
use Rattle.queue.specs.Calls.{Added, Removed, add_error, added, remove_error, removed_at}

-- a search: some job has the property, and this is the first place of one; or none has it
pub record AtPlace (p : Job → Bool) (w : List Job) (k : ℕ) : Type 0 where
  pub some : any p w ≡ true
  pub inside : k < length w
  pub is_place : k ≡ place p w

abbrev pub Nowhere : (Job → Bool) → List Job → Type 0
Nowhere p w = any p w ≡ false

-- the jobs that wait in a valid queue
pub record Waits (q : Queue) (w : List Job) : Type 0 where
  pub valid : invalid q ≡ false
  pub are : w ≡ waiting q
  pub long : length w ≡ q.count
  pub few : q.count ≤ capacity
  pub early : any late w ≡ false

pub record IsEarliest (w : List Job) (k : ℕ) : Type 0 where
  pub inside : k < length w
  pub is_earliest : k ≡ earliest w

-- when a job is due, as the code has it
abbrev pub as_due : CodeDue → Due
as_due (code.At n) = at n
as_due code.Never = never

-- a job can be added, or why not
pub record HasRoom (q : Queue) (j : Job) : Type 0 where
  pub below : q.count < capacity
  pub is_added : added q j ≡ record { queue = filled q j; error = 0 }

abbrev pub AddRefused : Queue → Job → Refusal → Type 0
AddRefused q j e = added q j ≡ add_error q (number e)

-- what the caller has after a removal, by the place found or by why none was
pub record Removes (q : Queue) (k : ℕ) (after : Removed) : Type 0 where
  pub inside : k < q.count
  pub few : q.count ≤ capacity
  pub is_removed : after ≡ removed_at q k

abbrev pub RemovalRefused : Queue → Refusal → Removed → Type 0
RemovalRefused q e after = after ≡ remove_error q (number e)
