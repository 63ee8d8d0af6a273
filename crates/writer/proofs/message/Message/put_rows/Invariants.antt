-- The rows that are left, stored from the place reached, give what all of them give.
use lib.ListN.{drop}
use Rattle.writer.specs.Encoding.{put_rows}
use Rattle.writer.specs.Straight.{fours}
use Rattle.writer.proofs.Stores.{Left}
use Rattle.writer.proofs.message.Message.put_rows.Given as goal

abbrev pub invariant-loop-row : goal.invariant-loop-row
invariant-loop-row l =
    Left (put_rows l.self.source.now l.number (drop l.row-index (fours l.self.rows.now))) (put_rows l.self.source.now l.number (fours l.self.rows.now)) l.initial.out l.at l.out l.next
