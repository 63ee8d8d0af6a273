-- The definition; of the rows, their number.
use mathlib.Core.Bool.{and-true, and_assoc}
use Rattle.decoder.proofs.RowLaws.{length_rows_in}
use Rattle.writer_checks.specs.Grounds.{all_zero}
use Rattle.writer_checks.proofs.fields.request_meta_zero.Goals as goal

pub returns : goal.returns
unfolding all_zero
returns c l = simp (length_rows_in, and_assoc, and-true)
