-- What `check::same` says of the two parts is the test of the definition.
use mathlib.Core.Path.{sym, ◌∙◌}
use Rattle.decoder.proofs.RowLaws.{same_test}
use Rattle.decoder.proofs.same_key.Goals as goal

pub returns : goal.returns
returns c =
    let first = c.named.ensures in
    let second = c.named-2.ensures in
    same_test _ _ _ (λ t. sym first ∙ c.same.ensures.0 t ∙ second) (λ q. c.same.ensures.1 (first ∙ q ∙ sym second))
