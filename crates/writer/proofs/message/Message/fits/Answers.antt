-- It is not measured where the bound fits, or it is.
use Prim.Native.Nat.{◌+◌}
use mathlib.Core.Path.{◌≡◌, refl, sym, ◌∙◌}
use mathlib.Core.Bool.{true, false≢true}
use Rattle.std.proofs.Common.{Result, Ok, Err}
use Rattle.std.specs.Result.{is_ok}
use Rattle.refusals.specs.Refusals.{code_of}
use Rattle.refusals.specs.declared.Refusal.{Refusal}
use Rattle.writer.specs.Straight.{fours}
use Rattle.schema.specs.Kinds.{schema_of}
use Rattle.writer.proofs.Refusals.{no_error}
use Rattle.writer.proofs.Most.{surely}
use Rattle.writer.proofs.message.Message.fits.Goals as goal

fine : {A : Type 0} (r : Result A Refusal) → is_ok r ≡ true → code_of r ≡ 0
fine (Ok a) e = refl
fine (Err r) e = absurd (false≢true e)

pub returns-then-is_ok : goal.returns-then-is_ok
returns-then-is_ok c =
    surely (fours c.args.self.now.rows.now) c.args.self.now.slots.now (schema_of c.args.self.now.kind) _ _ _ _ c.requires
    c.message_most.ensures.0
    (no_error c.args.ceiling (16 + c.message_most.result + c.args.body) c.args.room
    (sym c.size_error.ensures ∙ fine c.size_error.result (sym c.is_ok.ensures.value ∙ c.if-is_ok.true)))

pub returns : goal.returns
returns c =
    rw (← c.size.ensures.0) c.size_error-2.ensures
