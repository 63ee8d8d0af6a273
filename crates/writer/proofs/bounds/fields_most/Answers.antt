-- Kind by kind, by the schema.
use Rattle.schema.specs.Schema.{width}
use native.Mathlib.Omega.{arith}
use Rattle.writer.specs.Straight.{most_by}
use Rattle.writer.proofs.bounds.fields_most.Goals as goal

pub returns-in-Request : goal.returns-in-Request
unfolding most_by
returns-in-Request c = rw c.in-Request.is ((λ rows. omega arith), omega arith)

pub returns-in-Response : goal.returns-in-Response
unfolding most_by
returns-in-Response c = rw c.in-Response.is ((λ rows. omega arith), omega arith)

pub returns-in-Init : goal.returns-in-Init
unfolding most_by width
returns-in-Init c = rw c.in-Init.is
    ((λ rows. omega arith), omega arith)

pub returns-in-Data : goal.returns-in-Data
unfolding most_by
returns-in-Data c = rw c.in-Data.is ((λ rows. omega arith), omega arith)

pub returns-in-Feedback : goal.returns-in-Feedback
unfolding most_by
returns-in-Feedback c = rw c.in-Feedback.is ((λ rows. omega arith), omega arith)

pub returns-in-Close : goal.returns-in-Close
unfolding most_by
returns-in-Close c = rw c.in-Close.is ((λ rows. omega arith), omega arith)
