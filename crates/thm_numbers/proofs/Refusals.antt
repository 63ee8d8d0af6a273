-- Promised: every variant of `Refusal` has a number that is in use, and no two have the same. So an answer of the code is determined by what
-- it is in numbers (`in_numbers`, `code_of`), which is what the contracts speak of.
-- Ruled out: a variant with a retired number, and two variants with one.
use Prim.Native.Nat.{ℕ}
use mathlib.Core.Path.{◌≡◌, refl, sym, ap, ◌∙◌}
use mathlib.Core.Logic.{inl, inr}
use lib.Dec.{eqb}
use Rattle.std.specs.Prelude.{cond}
use Rattle.refusals.specs.Numbers.{in_use, Among}
use Rattle.refusals.specs.Refusals.{number}
use Rattle.refusals.specs.declared.Refusal.{Refusal}
use Rattle.refusals.specs.declared.Refusal.TheVariants as refusals

pub each_in_use : (r : Refusal) → Among (number r) in_use
each_in_use refusals.BufferShort = inl refl
each_in_use refusals.StateUnknown = inr (inl refl)
each_in_use refusals.BadMagic = inr (inr (inl refl))
each_in_use refusals.BadDataType = inr (inr (inr (inl refl)))
each_in_use refusals.BadStreamType = inr (inr (inr (inr (inl refl))))
each_in_use refusals.BadTotal = inr (inr (inr (inr (inr (inl refl)))))
each_in_use refusals.BadHeaderSize = inr (inr (inr (inr (inr (inr (inl refl))))))
each_in_use refusals.WrongFrame = inr (inr (inr (inr (inr (inr (inr (inl refl)))))))
each_in_use refusals.BadVarint = inr (inr (inr (inr (inr (inr (inr (inr (inl refl))))))))
each_in_use refusals.BadTag = inr (inr (inr (inr (inr (inr (inr (inr (inr (inl refl)))))))))
each_in_use refusals.PastEnd = inr (inr (inr (inr (inr (inr (inr (inr (inr (inr (inl refl))))))))))
each_in_use refusals.TooDeep = inr (inr (inr (inr (inr (inr (inr (inr (inr (inr (inr (inl refl)))))))))))
each_in_use refusals.TooManyEntries = inr (inr (inr (inr (inr (inr (inr (inr (inr (inr (inr (inr (inl refl))))))))))))
each_in_use refusals.BadBody = inr (inr (inr (inr (inr (inr (inr (inr (inr (inr (inr (inr (inr (inl refl)))))))))))))
each_in_use refusals.RowsShort = inr (inr (inr (inr (inr (inr (inr (inr (inr (inr (inr (inr (inr (inr (inl refl))))))))))))))
each_in_use refusals.PastSource = inr (inr (inr (inr (inr (inr (inr (inr (inr (inr (inr (inr (inr (inr (inr (inl refl)))))))))))))))
each_in_use refusals.BadRows = inr (inr (inr (inr (inr (inr (inr (inr (inr (inr (inr (inr (inr (inr (inr (inr (inl refl))))))))))))))))
each_in_use refusals.FrameOver = inr (inr (inr (inr (inr (inr (inr (inr (inr (inr (inr (inr (inr (inr (inr (inr (inr (inl refl)))))))))))))))))
each_in_use refusals.QueueFull = inr (inr (inr (inr (inr (inr (inr (inr (inr (inr (inr (inr (inr (inr (inr (inr (inr (inr (inl refl))))))))))))))))))
each_in_use refusals.LateArrival = inr (inr (inr (inr (inr (inr (inr (inr (inr (inr (inr (inr (inr (inr (inr (inr (inr (inr (inr (inl refl)))))))))))))))))))
each_in_use refusals.QueueEmpty = inr (inr (inr (inr (inr (inr (inr (inr (inr (inr (inr (inr (inr (inr (inr (inr (inr (inr (inr (inr (inl refl))))))))))))))))))))
each_in_use refusals.BadQueue = inr (inr (inr (inr (inr (inr (inr (inr (inr (inr (inr (inr (inr (inr (inr (inr (inr (inr (inr (inr (inr (inl refl)))))))))))))))))))))
each_in_use refusals.PairWaits = inr (inr (inr (inr (inr (inr (inr (inr (inr (inr (inr (inr (inr (inr (inr (inr (inr (inr (inr (inr (inr (inr (inl refl))))))))))))))))))))))
each_in_use refusals.PairAbsent = inr (inr (inr (inr (inr (inr (inr (inr (inr (inr (inr (inr (inr (inr (inr (inr (inr (inr (inr (inr (inr (inr (inr (inl refl)))))))))))))))))))))))
each_in_use refusals.OutputShort = inr (inr (inr (inr (inr (inr (inr (inr (inr (inr (inr (inr (inr (inr (inr (inr (inr (inr (inr (inr (inr (inr (inr (inr (inl refl))))))))))))))))))))))))
each_in_use refusals.BadCeiling = inr (inr (inr (inr (inr (inr (inr (inr (inr (inr (inr (inr (inr (inr (inr (inr (inr (inr (inr (inr (inr (inr (inr (inr (inr (inl refl)))))))))))))))))))))))))

-- the variant of a number; the last for a number that has none
variant_of : ℕ → Refusal
variant_of n =
    cond (eqb n 1) refusals.BufferShort (
    cond (eqb n 2) refusals.StateUnknown (
    cond (eqb n 3) refusals.BadMagic (
    cond (eqb n 4) refusals.BadDataType (
    cond (eqb n 5) refusals.BadStreamType (
    cond (eqb n 6) refusals.BadTotal (
    cond (eqb n 7) refusals.BadHeaderSize (
    cond (eqb n 9) refusals.WrongFrame (
    cond (eqb n 10) refusals.BadVarint (
    cond (eqb n 11) refusals.BadTag (
    cond (eqb n 12) refusals.PastEnd (
    cond (eqb n 13) refusals.TooDeep (
    cond (eqb n 14) refusals.TooManyEntries (
    cond (eqb n 15) refusals.BadBody (
    cond (eqb n 16) refusals.RowsShort (
    cond (eqb n 17) refusals.PastSource (
    cond (eqb n 18) refusals.BadRows (
    cond (eqb n 19) refusals.FrameOver (
    cond (eqb n 21) refusals.QueueFull (
    cond (eqb n 22) refusals.LateArrival (
    cond (eqb n 23) refusals.QueueEmpty (
    cond (eqb n 24) refusals.BadQueue (
    cond (eqb n 25) refusals.PairWaits (
    cond (eqb n 26) refusals.PairAbsent (
    cond (eqb n 27) refusals.OutputShort (
    refusals.BadCeiling)))))))))))))))))))))))))

back : (r : Refusal) → variant_of (number r) ≡ r
unfolding variant_of
back refusals.BufferShort = refl
back refusals.StateUnknown = refl
back refusals.BadMagic = refl
back refusals.BadDataType = refl
back refusals.BadStreamType = refl
back refusals.BadTotal = refl
back refusals.BadHeaderSize = refl
back refusals.WrongFrame = refl
back refusals.BadVarint = refl
back refusals.BadTag = refl
back refusals.PastEnd = refl
back refusals.TooDeep = refl
back refusals.TooManyEntries = refl
back refusals.BadBody = refl
back refusals.RowsShort = refl
back refusals.PastSource = refl
back refusals.BadRows = refl
back refusals.FrameOver = refl
back refusals.QueueFull = refl
back refusals.LateArrival = refl
back refusals.QueueEmpty = refl
back refusals.BadQueue = refl
back refusals.PairWaits = refl
back refusals.PairAbsent = refl
back refusals.OutputShort = refl
back refusals.BadCeiling = refl

pub number_determines : (r s : Refusal) → number r ≡ number s → r ≡ s
number_determines r s e = sym (back r) ∙ ap variant_of e ∙ back s
