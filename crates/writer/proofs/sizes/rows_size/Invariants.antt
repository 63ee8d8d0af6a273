-- What is done and the rows that are left have the sum of all rows; a row has at most `most_row`.
use Prim.Native.Nat.{◌+◌, ◌*◌, ◌≤◌}
use mathlib.Core.Path.{◌≡◌}
use lib.ListN.{drop}
use Rattle.writer.specs.Straight.{most_row, fours, rows_sum, row_size}
use Rattle.writer.proofs.sizes.rows_size.Given as goal

abbrev pub invariant-loop-row : goal.invariant-loop-row
invariant-loop-row l =
    (l.size ≤ l.row-index * most_row) × (l.size + rows_sum row_size (drop l.row-index (fours l.m.rows.now)) ≡ rows_sum row_size (fours l.m.rows.now))
