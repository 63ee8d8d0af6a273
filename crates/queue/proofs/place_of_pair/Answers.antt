-- `queue::place_of_pair` meets its contract: a place, or the ground for none, by what the search of the waiting jobs says.
-- Assumes nothing.
use Prim.Native.Nat.{ℕ}
use mathlib.Core.Path.{◌≡◌, sym, ap, ◌∙◌}
use mathlib.Core.Bool.{true, false}
use mathlib.Core.List.{List}
use native.Mathlib.Omega.{arith}
use borrow.Author.Rules.{rules}
use Rattle.std.proofs.Common.{Err}
use Rattle.std.specs.Prelude.{Option, None, Some, MatchOption, MatchResult}
use Rattle.std.specs.Option.{ok_or}
use Rattle.refusals.specs.declared.Refusal.TheVariants as refusals
use Rattle.queue.specs.declared.Job.{Job}
use Rattle.queue.specs.declared.Queue.{Queue}
use Rattle.queue.specs.Waiting.{any, has_pair, waiting}
use Rattle.queue.specs.Found.{Waits, AtPlace, Nowhere, Removes, RemovalRefused}
use Rattle.queue.specs.Calls.{cancelled}
use Rattle.queue.proofs.place_of_pair.Goals as goal

pub returns-in_err-waiting : goal.returns-in_err-waiting
unfolding cancelled
returns-in_err-waiting c =
    let e : c.from_residual.result ≡ Err refusals.BadQueue = search rules in
    rw (e, c.in_err-waiting.ensures.1)

by_place :
    (q : Queue) (n m : ℕ) (w : List Job) (r : Option ℕ) → Waits q w → MatchOption r (Nowhere (has_pair n m) w) (AtPlace (has_pair n m) w)
    → MatchResult (ok_or r refusals.PairAbsent) (λ k. Removes q k (cancelled q n m)) (λ e. RemovalRefused q e (cancelled q n m))
unfolding cancelled
by_place q n m w None is h =
    let absent : any (has_pair n m) (waiting q) ≡ false = ap (any (has_pair n m)) (sym is.are) ∙ h in
    rw (is.valid, absent)
by_place q n m w (Some k) is h =
    let waits : any (has_pair n m) (waiting q) ≡ true = ap (any (has_pair n m)) (sym is.are) ∙ h.some in
    record {
      inside = omega (arith, h.inside, is.long);
      few = is.few;
      is_removed = rw (h.is_place, is.are, is.valid, waits);
    }

pub returns : goal.returns
returns c =
    let e : c.ok_or.result ≡ ok_or c.find.result refusals.PairAbsent = search rules in
    rw e (by_place _ _ _ _ c.find.result c.in_ok-waiting.ensures c.find.ensures)
