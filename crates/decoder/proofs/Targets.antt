-- What a varint field does to the slots.
use Prim.Native.Nat.{ℕ}
use mathlib.Core.Path.{◌≡◌, ap, subst, ◌∙◌}
use mathlib.Core.Logic.{◌⊎◌, inl, inr}
use Rattle.schema.specs.Targets.{Target, a_number, target_of, Fit}
use Rattle.decoder.specs.DecoderState.{with_number}
use lib.ListN.{set}
use Rattle.wire_read.specs.Varint.{low_u32}
use Rattle.decoder.specs.declared.Slots.{Slots}
use Rattle.schema.specs.declared.Target.{Target as Place}
use Rattle.schema.specs.declared.Target.TheVariants as targets

-- what `field_target` answers is in each of its cases
module _ {t : Target} {r q : Place} (is-t : (t ≡ target_of r) × Fit r) (e : r ≡ q) where
  pub target_is : t ≡ target_of q
  target_is = is-t.0 ∙ ap target_of e

  pub target_fits : Fit q
  target_fits = subst Fit e is-t.1

pub number_stored : {t : Target} (i v low : ℕ) (s : Slots) → t ≡ a_number i → low ≡ low_u32 v
    → record { values = set s.values i low; rows = s.rows; entries = s.entries } ≡ with_number t v s
unfolding with_number
number_stored i v low s e f = rw (e, f)

-- a target that is no number
pub number_kept : {t : Target} {r : Place} (v : ℕ) (s : Slots) → (t ≡ target_of r) × Fit r
    → ((i : ℕ) × (r ≡ targets.Bytes i)) ⊎ ((r ≡ targets.Entry)
    ⊎ (((i : ℕ) × (inner : ℕ) × (r ≡ targets.Message i inner)) ⊎ (r ≡ targets.Unknown))) → s ≡ with_number t v s
unfolding with_number
number_kept v s is-t (inl (i, e)) = rw (target_is is-t e)
number_kept v s is-t (inr (inl e)) = rw (target_is is-t e)
number_kept v s is-t (inr (inr (inl (i, inner, e)))) = rw (target_is is-t e)
number_kept v s is-t (inr (inr (inr e))) = rw (target_is is-t e)
