-- The first 256 numbers are filled, and those after them stay.
use Rattle.std.proofs.Common.{ℕ, List, ◌++◌, drop, replicate, ap, ◌∙◌, rules}
use lib.Seq.{length-take-le}
use Rattle.decoder.proofs.rows.clear.Goals as goal

pub returns : goal.returns
returns c =
    let rows = c.args.rows.now in
    ap (λ (front : List ℕ). front ++ drop 256 rows)
    (c.fill.ensures.after (λ y q. search rules) ∙ ap (λ (n : ℕ). replicate n 0) (length-take-le 256 rows c.requires))
