-- `queue::place_of_due` meets its contract: a place, or the ground for none, by what the search of the waiting jobs says.
-- Assumes nothing.
use Prim.Native.Nat.{ℕ, ◌<◌}
use mathlib.Core.Path.{◌≡◌, sym, ap, ◌∙◌}
use mathlib.Core.List.{List, []}
use native.Mathlib.Omega.{arith}
use borrow.Author.Rules.{rules}
use borrow.Author.Tests.{eq-eqb, ne_eqb}
use lib.ListN.{length}
use Rattle.std.proofs.Common.{Err}
use Rattle.std.specs.Prelude.{Option, None, Some, MatchOption, MatchResult}
use Rattle.std.specs.Option.{ok_or}
use Rattle.refusals.specs.declared.Refusal.TheVariants as refusals
use Rattle.queue.specs.declared.Job.{Job}
use Rattle.queue.specs.declared.Queue.{Queue}
use Rattle.queue.specs.Found.{Waits, IsEarliest, Removes, RemovalRefused}
use Rattle.queue.specs.Calls.{taken}
use Rattle.queue.proofs.place_of_due.Goals as goal

pub returns-in_err-waiting : goal.returns-in_err-waiting
unfolding taken
returns-in_err-waiting c =
    let e : c.from_residual.result ≡ Err refusals.BadQueue = search rules in
    rw (e, c.in_err-waiting.ensures.1)

by_place :
    (q : Queue) (w : List Job) (r : Option ℕ) → Waits q w → MatchOption r (w ≡ []) (IsEarliest w)
    → MatchResult (ok_or r refusals.QueueEmpty) (λ k. Removes q k (taken q)) (λ e. RemovalRefused q e (taken q))
unfolding taken
by_place q w None is h = rw (is.valid, eq-eqb q.count 0 (sym is.long ∙ ap length h))
by_place q w (Some k) is h =
    let inside : k < q.count = omega (arith, h.inside, is.long) in
    record {
      inside = inside;
      few = is.few;
      is_removed = rw (h.is_earliest, is.are, is.valid, ne_eqb q.count 0 (omega (arith, inside)));
    }

pub returns : goal.returns
returns c =
    let e : c.ok_or.result ≡ ok_or c.earliest.result refusals.QueueEmpty = search rules in
    rw e (by_place _ _ c.earliest.result c.in_ok-waiting.ensures c.earliest.ensures)
