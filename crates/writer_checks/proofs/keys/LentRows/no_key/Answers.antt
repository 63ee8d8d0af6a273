-- The rows after row i, for `find_key` (`none_after_lem`).
use Rattle.writer_checks.proofs.GroundLaws.{none_after_lem}
use Rattle.writer_checks.proofs.keys.LentRows.no_key.Goals as goal

pub returns : goal.returns
returns c =
    none_after_lem c.args.self.now.count c.args.i _ _ c.args.self.now.rows.now _ c.requires c.args.self.now.lie.lent
    c.find_key.ensures
