-- The levels left fall from one `print_nested` to the next, twice each, and one more for the fields of a level.
use Prim.Native.Nat.{◌+◌, ◌*◌, ◌-◌}
use Rattle.test_fields.proofs.fields.+print_fields_print_nested.Given as goal

abbrev pub decreases-print_fields : goal.decreases-print_fields
decreases-print_fields l = 2 * (32 - l.level) + 1

abbrev pub decreases-print_nested : goal.decreases-print_nested
decreases-print_nested l = 2 * (32 - l.level)
