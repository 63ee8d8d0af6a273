-- `queue::add` meets its contract: where there is room, the queue with the job after those that wait is the one of the definition.
-- Assumes nothing.
use mathlib.Core.Path.{◌≡◌, refl, sym, ap, ◌∙◌}
use mathlib.Core.Bool.{true, true≢false}
use native.Mathlib.Omega.{arith}
use borrow.Author.Rules.{rules}
use lib.ListN.{length}
use Rattle.std.specs.Prelude.{Result, Ok, Err, MatchResult}
use Rattle.std.specs.Result.{is_ok}
use Rattle.refusals.specs.declared.Refusal.{Refusal}
use Rattle.refusals.specs.Refusals.{code_of}
use Rattle.queue.specs.declared.Job.{Job}
use Rattle.queue.specs.declared.Queue.{Queue}
use Rattle.queue.specs.Waiting.{capacity}
use Rattle.queue.specs.Found.{HasRoom, AddRefused}
use Rattle.queue.specs.Calls.{Added}
use Rattle.queue.proofs.Changes.{filled_queue}
use Rattle.queue.proofs.add.Goals as goal

has_room :
    (q : Queue) (j : Job) (r : Result (Unit {0}) Refusal) → is_ok r ≡ true → MatchResult r (λ u. HasRoom q j) (λ e. AddRefused q j e)
    → (code_of r ≡ 0) × HasRoom q j
has_room q j (Ok u) is h = (refl, h)
has_room q j (Err e) is h = absurd (true≢false (sym is))

pub returns-then-is_ok : goal.returns-then-is_ok
returns-then-is_ok c =
    let a = c.args in
    let places : length a.q.jobs ≡ capacity = search rules in
    let is : is_ok c.room-added.result ≡ true = search rules in
    let room = has_room a.q a.j c.room-added.result is c.room-added.ensures in
    rw room.0
    (ap {B = Added} (λ (q : Queue). record { queue = q; error = 0 })
    (filled_queue a.q a.j (omega (arith, places, room.1.below)) (omega arith))
    ∙ sym room.1.is_added)
