-- `set_number` meets its contract: the slot that `field_target` names is stored to, and for any other target nothing is (`Targets`).
use native.Mathlib.Omega.{arith}
use Rattle.decoder.proofs.Targets.{target_is, target_fits, number_stored, number_kept}
use Rattle.decoder.proofs.messages.set_number.Goals as goal

pub offset_bounds-next-slot : goal.offset_bounds-next-slot
offset_bounds-next-slot c =
    record { fits = omega (arith, target_fits c.field_target.ensures c.in-Number.is) }

pub bounds-next-slot : goal.bounds-next-slot
bounds-next-slot c =
    target_fits c.field_target.ensures c.in-Number.is

pub returns-in-Number : goal.returns-in-Number
returns-in-Number c =
    number_stored _ _ _ _ (target_is c.field_target.ensures c.in-Number.is) c.low_u32.ensures

pub returns-in-Bytes : goal.returns-in-Bytes
returns-in-Bytes c =
    number_kept _ _ c.field_target.ensures c.in-Bytes.is
