-- What is known of the rows from i on: whether their keys differ, and that they are marked.
use mathlib.Core.Path.{◌≡◌}
use lib.ListN.{drop}
use Rattle.decoder.specs.Rows.{rows_in}
use Rattle.writer_checks.specs.Grounds.{keys_differ}
use Rattle.writer_checks.specs.Marks.{MarkedFrom}
use Rattle.writer_checks.proofs.keys.LentRows.marks_differ.Given as goal

abbrev pub invariant-loop-i : goal.invariant-loop-i
invariant-loop-i l =
    (l.differ ≡ keys_differ l.self.source.now (drop l.i (rows_in l.self.count l.self.rows.now)))
    × MarkedFrom l.self.source.now l.self.rows.now l.self.count l.i l.seen
