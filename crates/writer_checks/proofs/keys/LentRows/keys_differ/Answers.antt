-- One row, two, or the marks.
use mathlib.Core.Path.{◌≡◌}
use native.Mathlib.Omega.{arith}
use Rattle.writer_checks.proofs.GroundLaws.{few_differ, two_differ}
use Rattle.writer_checks.proofs.keys.LentRows.keys_differ.Goals as goal

pub returns-then-self-lt2 : goal.returns-then-self-lt2
returns-then-self-lt2 c = let count = c.args.self.now.count in few_differ _ count _ (omega arith)

pub returns-then-self-eq2 : goal.returns-then-self-eq2
returns-then-self-eq2 c =
    let two : c.args.self.now.count ≡ 2 = c.if-self-eq2.true in
    rw two (two_differ c.args.self.now.source.now c.args.self.now.rows.now (rw two at c.no_key.ensures))
