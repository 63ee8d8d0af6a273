-- `Begun::after` meets its contract: a first byte, or the next of a character that is begun. Assumes nothing.
use mathlib.Core.Path.{sym, ◌∙◌}
use mathlib.Core.Logic.{⊎_elim}
use Rattle.utf8.proofs.Goes.{leads}
use Rattle.utf8.proofs.Steps.{low, high, next}
use Rattle.utf8.proofs.Begun.after.Goals as goal

pub returns-in_err-follows : goal.returns-in_err-follows
returns-in_err-follows c s =
    rw c.from_residual.ensures (leads _ s _ _ c.if-self-eq0.true (sym (c.in_err-follows.was) ∙ c.follows.ensures))

pub returns-then-self-eq0 : goal.returns-then-self-eq0
returns-then-self-eq0 c s =
    rw (c.lowest.ensures, c.highest.ensures) (leads _ s _ _ c.if-self-eq0.true (sym (c.in_ok-follows.was) ∙ c.follows.ensures))

pub returns-then-b-self : goal.returns-then-b-self
returns-then-b-self c s =
    ⊎_elim (low _ s _ _ _ c.if-self-eq0.false) (λ h. high _ s _ _ _ c.if-self-eq0.false h.0 h.1) c.then-b-self.either

pub returns : goal.returns
returns c s = next _ s _ _ _ c.if-self-eq0.false c.if-b-self.false c.if-self-b.false
