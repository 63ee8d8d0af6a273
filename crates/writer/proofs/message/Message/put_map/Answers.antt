-- No rows give no bytes; the others are `put_rows`'s.
use mathlib.Core.Path.{◌≡◌, sym, ◌∙◌}
use lib.ListN.{length}
use native.Mathlib.Omega.{arith}
use borrow.Author.Tests.{eqb-true}
use Rattle.writer.proofs.Stores.{starts}
use Rattle.writer.proofs.RowLoop.{put_rows_all}
use Rattle.writer.proofs.message.Message.put_map.Goals as goal

pub returns-then-is_empty : goal.returns-then-is_empty
returns-then-is_empty c =
    let rows = c.args.self.now.rows.now in
    let none : length rows ≡ 0 = eqb-true (length rows) 0 (sym c.is_empty.ensures ∙ c.if-is_empty.true) in
    put_rows_all rows 0 _ _ (starts _ _ _) (omega arith)
