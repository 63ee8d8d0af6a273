-- For a user: the queue's functions give each number exactly when its ground holds and none before it does.
--
-- Promised, of every queue and all arguments:
--   `add_exactly`      24, 22, 25, 21, in this order; where none holds the job is accepted.
--   `take_exactly`     24, 23; where neither holds the job that is due first is removed.
--   `cancel_exactly`   24, 26; where neither holds the job of the named pair is removed.
--   `add_gives`, `take_gives`, `cancel_gives`   the same of an answer that the contract's `ensures` names.
-- A refusal leaves the queue untouched, and the job handed out is all zero.
-- Not promised: what waits after several calls. That is `queue_promise` in `thm_queue`, of the functions for C.
-- Ruled out: an add that gives 21 where the pair waits already, and a take from an invalid queue that gives 23.
-- Assumes nothing.
use Prim.Native.Nat.{ℕ}
use mathlib.Core.Path.{◌≡◌, refl, sym, subst}
use mathlib.Core.List.{List, [], ◌∷◌}
use native.Mathlib.Omega.{arith}
use Rattle.queue.specs.declared.Job.{Job}
use Rattle.queue.specs.declared.Queue.{Queue}
use Rattle.queue.specs.Waiting.{capacity, latest_arrival, waiting, any, has_pair, pair_twice, late, invalid}
use Rattle.queue.specs.Calls.{Added, Removed, added, taken, cancelled}
use Rattle.refusals.specs.Grounds.{Some, Exactly}
use Rattle.refusals.proofs.Tests.{Finds, each, either_found, unlike, equal, below, some}
use Rattle.refusals.proofs.Order.{end, when, unless, exactly, first_says, Numbered}
use Rattle.thm_refusals.specs.Queue.{HasPair, Late, PairTwice, Invalid, add_entry, take_entry, cancel_entry}

pub pair_waits_lem : (c r : ℕ) (w : List Job) → Finds (any (has_pair c r) w) (Some (HasPair c r) w)
pair_waits_lem c r = some (λ (j : Job). each (equal j.connection c) (equal j.request r)) (any (has_pair c r)) refl (λ x xs. refl)

late_waits : (w : List Job) → Finds (any late w) (Some Late w)
late_waits = some (λ (j : Job). below latest_arrival j.arrival) (any late) refl (λ x xs. refl)

pair_twice_lem : (w : List Job) → Finds (pair_twice w) (PairTwice w)
pair_twice_lem [] = record { told = λ g. g }
pair_twice_lem (j ∷ js) = either_found (pair_waits_lem j.connection j.request js) (pair_twice_lem js)

pub invalid_queue : (q : Queue) → Finds (invalid q) (Invalid q)
unfolding invalid
invalid_queue q = either_found (below capacity q.count) (either_found (pair_twice_lem (waiting q)) (late_waits (waiting q)))

module _ (q : Queue) (j : Job) where
  add_numbered : Numbered (add_entry q j).grounds
  add_numbered = search arith depth 20

  pub add_exactly : Exactly (add_entry q j) (added q j)
  unfolding added
  add_exactly =
      exactly (add_entry q j) (added q j) (λ none. refl) (first_says (add_entry q j).grounds add_numbered)
      (when (invalid_queue q)
      (when (below latest_arrival j.arrival)
      (when (pair_waits_lem j.connection j.request (waiting q))
      (when (equal q.count capacity)
      end))))

  pub add_gives : (a : Added) → a ≡ added q j → Exactly (add_entry q j) a
  add_gives a e = subst (Exactly (add_entry q j)) (sym e) add_exactly

module _ (q : Queue) where
  take_numbered : Numbered (take_entry q).grounds
  take_numbered = search arith depth 20

  pub take_exactly : Exactly (take_entry q) (taken q)
  unfolding taken
  take_exactly =
      exactly (take_entry q) (taken q) (λ none. refl) (first_says (take_entry q).grounds take_numbered)
      (when (invalid_queue q)
      (when (equal q.count 0)
      end))

  pub take_gives : (a : Removed) → a ≡ taken q → Exactly (take_entry q) a
  take_gives a e = subst (Exactly (take_entry q)) (sym e) take_exactly

module _ (q : Queue) (c r : ℕ) where
  cancel_numbered : Numbered (cancel_entry q c r).grounds
  cancel_numbered = search arith depth 20

  pub cancel_exactly : Exactly (cancel_entry q c r) (cancelled q c r)
  unfolding cancelled
  cancel_exactly =
      exactly (cancel_entry q c r) (cancelled q c r) (λ none. refl) (first_says (cancel_entry q c r).grounds cancel_numbered)
      (when (invalid_queue q)
      (unless (unlike (pair_waits_lem c r (waiting q)))
      end))

  pub cancel_gives : (a : Removed) → a ≡ cancelled q c r → Exactly (cancel_entry q c r) a
  cancel_gives a e = subst (Exactly (cancel_entry q c r)) (sym e) cancel_exactly
