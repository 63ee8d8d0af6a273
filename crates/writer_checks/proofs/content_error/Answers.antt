-- The rows are lent and lie within the source, since the tests before say so.
use mathlib.Core.Path.{◌≡◌, refl, sym, ◌∙◌}
use mathlib.Core.Bool.{Bool, true, false, cond}
use Rattle.std.proofs.Common.{Result, Ok, Err}
use Rattle.writer_checks.proofs.GroundLaws.{rows_lent_lem}
use Rattle.writer_checks.proofs.content_error.Goals as goal

required : {E : Type 0} (holds : Bool) (e : E) (u : Unit {0}) (r : Result (Unit {0}) E) → r ≡ cond holds (Ok tt) (Err e) → r ≡ Ok u → holds ≡ true
required true e u r made ok = refl
required false e u r made ok = cc

pub rows_within-within-requires : goal.rows_within-within-requires
rows_within-within-requires c =
    let ok = required _ _ _ _ c.require.ensures c.in_ok-require.was in
    rows_lent_lem _ _ _ (sym c.rows_ok.ensures ∙ ok)

pub invariant_of-lent : goal.invariant_of-lent
invariant_of-lent c =
    let lent = required _ _ _ _ c.require.ensures c.in_ok-require.was in
    let within = required _ _ _ _ c.require-3.ensures c.in_ok-require-3.was in
    record { lie = record { lent = rows_lent_lem _ _ _ (sym c.rows_ok.ensures ∙ lent); within = sym c.rows_within-within.ensures ∙ within } }
