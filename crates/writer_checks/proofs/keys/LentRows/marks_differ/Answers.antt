-- What is known of the rows from i on: whether their keys differ, and that they are marked.
use native.Mathlib.Omega.{arith}
use Rattle.writer_checks.specs.Grounds.{keys_differ}
use Rattle.writer_checks.specs.Marks.{Marked}
use Rattle.writer_checks.proofs.GroundLaws.{none_left, differ_more}
use Rattle.writer_checks.proofs.keys.LentRows.marks_differ.Goals as goal

pub loop-i-init : goal.loop-i-init
unfolding keys_differ Marked
loop-i-init c =
    let none = none_left c.args.self.now.count c.args.self.now.rows.now in
    (rw none, record { places = omega arith; marks = rw none tt })

pub loop-i-preserved : goal.loop-i-preserved
loop-i-preserved c =
    let known = c.loop-i.invariant in
    let more = differ_more _ _ _ c.loop-i-test.true c.loop-i.auto.i _ c.mark_key-differ.ensures.0 known.0 in
    (more, c.mark_key-differ.ensures.1)
