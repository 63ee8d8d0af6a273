-- `queue::room` meets its contract: each `return` is the answer for the grounds that led there.
-- Assumes nothing.
use mathlib.Core.Path.{◌≡◌, sym, ap, ◌∙◌}
use mathlib.Core.Bool.{false, true}
use native.Mathlib.Omega.{arith}
use borrow.Author.Rules.{rules}
use borrow.Author.Tests.{lt-ltb, le-ltb, eq-eqb, ne_eqb}
use Rattle.std.proofs.Common.{Err}
use Rattle.refusals.specs.declared.Refusal.TheVariants as refusals
use Rattle.queue.specs.Waiting.{capacity, latest_arrival, late, waiting, any, same_pair}
use Rattle.queue.specs.Calls.{added}
use Rattle.queue.proofs.Search.{finds}
use Rattle.queue.proofs.room.Goals as goal

pub returns-in_err-waiting : goal.returns-in_err-waiting
unfolding added
returns-in_err-waiting c =
    let e : c.from_residual.result ≡ Err refusals.BadQueue = search rules in
    rw (e, c.in_err-waiting.ensures.1)

pub returns-then-j-gt-LATEST_ARRIVAL : goal.returns-then-j-gt-LATEST_ARRIVAL
unfolding added
returns-then-j-gt-LATEST_ARRIVAL c =
    rw (c.in_ok-waiting.ensures.valid, lt-ltb latest_arrival c.args.j.arrival c.if-j-gt-LATEST_ARRIVAL.true)

pub returns-then-is_some : goal.returns-then-is_some
unfolding added
returns-then-is_some c =
    let a = c.args in
    let w = c.in_ok-waiting.ensures in
    let in-time : late a.j ≡ false = le-ltb latest_arrival a.j.arrival c.if-j-gt-LATEST_ARRIVAL.false in
    let waits : any (same_pair a.j) (waiting a.q.now) ≡ true =
    ap (any (same_pair a.j)) (sym w.are) ∙ finds (same_pair a.j) _ _ c.find.ensures ∙ sym c.is_some.ensures ∙ c.if-is_some.true in
    rw (w.valid, in-time, waits)

pub returns-then-n-eq-CAPACITY : goal.returns-then-n-eq-CAPACITY
unfolding added
returns-then-n-eq-CAPACITY c =
    let a = c.args in
    let w = c.in_ok-waiting.ensures in
    let in-time : late a.j ≡ false = le-ltb latest_arrival a.j.arrival c.if-j-gt-LATEST_ARRIVAL.false in
    let new-pair : any (same_pair a.j) (waiting a.q.now) ≡ false =
    ap (any (same_pair a.j)) (sym w.are) ∙ finds (same_pair a.j) _ _ c.find.ensures ∙ sym c.is_some.ensures ∙ c.if-is_some.false in
    rw (w.valid, in-time, new-pair, eq-eqb a.q.now.count capacity c.if-n-eq-CAPACITY.true)

pub returns : goal.returns
unfolding added
returns c =
    let a = c.args in
    let w = c.in_ok-waiting.ensures in
    let in-time : late a.j ≡ false = le-ltb latest_arrival a.j.arrival c.if-j-gt-LATEST_ARRIVAL.false in
    let new-pair : any (same_pair a.j) (waiting a.q.now) ≡ false =
    ap (any (same_pair a.j)) (sym w.are) ∙ finds (same_pair a.j) _ _ c.find.ensures ∙ sym c.is_some.ensures ∙ c.if-is_some.false in
    record {
      below = omega (arith, w.few, c.if-n-eq-CAPACITY.false);
      is_added = rw (w.valid, in-time, new-pair, ne_eqb a.q.now.count capacity c.if-n-eq-CAPACITY.false);
    }
