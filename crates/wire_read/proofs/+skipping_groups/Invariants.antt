-- The calls of a value end because the depth falls with each group that is opened: the measure is twice the depth, and one more for a
-- group that is open already. The loop over a group's fields ends because each takes bytes of the part; what is left of the group after
-- them is what is left of the whole (`Groups`).
use Prim.Native.Nat.{◌+◌, ◌*◌, ◌-◌, min}
use lib.ListN.{length}
use Rattle.wire_read.proofs.Groups.{Walk}
use Rattle.wire_read.proofs.+skipping_groups.Given as goal

abbrev pub decreases-skip_group : goal.decreases-skip_group
decreases-skip_group l = 2 * l.depth + 1

abbrev pub decreases-skip_value : goal.decreases-skip_value
decreases-skip_value l = 2 * l.depth

abbrev pub invariant-skip_group-loop-tag : goal.invariant-skip_group-loop-tag
invariant-skip_group-loop-tag l = Walk l.s l.number l.depth l.at l.end l.i

abbrev pub decreases-skip_group-loop-tag : goal.decreases-skip_group-loop-tag
decreases-skip_group-loop-tag l = min l.end (length l.s) - l.i
