-- What an answer says in the papers' numbers: a refusal has a number other than 0, by which an entry says that it did its work.
-- Assumes nothing.
use mathlib.Core.Path.{◌≡◌, refl, sym}
use mathlib.Core.Bool.{true, false, false≢true}
use native.Mathlib.Omega.{arith}
use Rattle.std.specs.Prelude.{Result, Ok, Err, is_err}
use Rattle.refusals.specs.Refusals.{number, code_of}
use Rattle.refusals.specs.declared.Refusal.{Refusal}
use Rattle.refusals.specs.declared.Refusal.TheVariants as refusals

pub number_not_0 : (r : Refusal) → number r ≡ 0 → ⊥
number_not_0 refusals.BufferShort e = omega (arith, e)
number_not_0 refusals.StateUnknown e = omega (arith, e)
number_not_0 refusals.BadMagic e = omega (arith, e)
number_not_0 refusals.BadDataType e = omega (arith, e)
number_not_0 refusals.BadStreamType e = omega (arith, e)
number_not_0 refusals.BadTotal e = omega (arith, e)
number_not_0 refusals.BadHeaderSize e = omega (arith, e)
number_not_0 refusals.WrongFrame e = omega (arith, e)
number_not_0 refusals.BadVarint e = omega (arith, e)
number_not_0 refusals.BadTag e = omega (arith, e)
number_not_0 refusals.PastEnd e = omega (arith, e)
number_not_0 refusals.TooDeep e = omega (arith, e)
number_not_0 refusals.TooManyEntries e = omega (arith, e)
number_not_0 refusals.BadBody e = omega (arith, e)
number_not_0 refusals.RowsShort e = omega (arith, e)
number_not_0 refusals.PastSource e = omega (arith, e)
number_not_0 refusals.BadRows e = omega (arith, e)
number_not_0 refusals.FrameOver e = omega (arith, e)
number_not_0 refusals.QueueFull e = omega (arith, e)
number_not_0 refusals.LateArrival e = omega (arith, e)
number_not_0 refusals.QueueEmpty e = omega (arith, e)
number_not_0 refusals.BadQueue e = omega (arith, e)
number_not_0 refusals.PairWaits e = omega (arith, e)
number_not_0 refusals.PairAbsent e = omega (arith, e)
number_not_0 refusals.OutputShort e = omega (arith, e)
number_not_0 refusals.BadCeiling e = omega (arith, e)

-- after `is_err`, or its negation
module _ {A : Type 0} where
  pub refused : (r : Result A Refusal) → is_err r ≡ true → code_of r ≡ 0 → ⊥
  refused (Ok a) e z = absurd (false≢true e)
  refused (Err r) e z = number_not_0 r z

  pub not_refused : (r : Result A Refusal) → is_err r ≡ false → code_of r ≡ 0
  not_refused (Ok a) e = refl
  not_refused (Err r) e = absurd (false≢true (sym e))
