-- `queue::due::earliest` meets its contract: the job found leads the first i + 1 jobs, and the leader of all is their earliest.
-- Assumes nothing.
use Prim.Native.Nat.{◌+◌}
use mathlib.Core.Path.{◌≡◌, refl, sym, ap, ap₂, ◌∙◌}
use native.Mathlib.Numerals.{add-one}
use native.Mathlib.Omega.{arith}
use lib.ListN.{length}
use lib.Seq.{take-length}
use Rattle.queue.specs.Due.{due, earlier}
use Rattle.queue.specs.Waiting.{job_at, earliest}
use Rattle.queue.proofs.Leader.{leads_one, leads_changed, leads_still, leads_earliest}
use Rattle.queue.proofs.due.earliest.Goals as goal
use Rattle.queue.proofs.due.earliest.Goals.{then-due_before, else-due_before}

pub loop-i-init : goal.loop-i-init
loop-i-init c =
    let first : c.in_ok-j.j.now ≡ job_at c.args.jobs.now 0 = rw c.in_ok-j.ensures.cases.0 refl in
    record { leads = leads_one c.args.jobs.now; best_is = c.due_of-best.ensures ∙ ap due first }

pub loop-i-preserved : goal.loop-i-preserved
loop-i-preserved c =
    let w = c.args.jobs.now in
    let l = c.loop-i in
    let next : job_at c.in_ok-j.later.now l.i ≡ job_at w (l.i + 1) = rw (c.in_ok-j.ensures.cases.0, add-one) refl in
    let test = ap₂ earlier (sym (c.due_of-due.ensures ∙ ap due next)) (sym l.invariant.best_is) ∙ sym c.due_before.ensures in
    elim c.if-due_before.branch [
      | then-due_before came ↦ rw (came.first-is, came.best-is)
          (record { leads = leads_changed w (l.i + 1) l.first l.invariant.leads (test ∙ came.if-due_before.true); best_is = c.due_of-due.ensures ∙ ap due next })
      | else-due_before came ↦ rw (came.first-is, came.best-is)
          (record { leads = leads_still w (l.i + 1) l.first l.invariant.leads (test ∙ came.if-due_before.false); best_is = l.invariant.best_is })
    ]

pub returns : goal.returns
returns c =
    let w = c.args.jobs.now in
    let l = c.loop-i in
    let all : l.i + 1 ≡ length w = omega (arith, c.in_ok-j.ensures.cases.1, c.loop-i-test.false, l.auto.i-end) in
    let leads = rw all at l.invariant.leads in
    record {
      inside = omega (arith, leads.inside);
      is_earliest = sym (ap earliest (sym (take-length w)) ∙ leads_earliest w (length w) l.first (omega arith) leads);
    }
