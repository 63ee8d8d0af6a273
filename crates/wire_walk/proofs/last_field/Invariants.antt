-- `last_field` meets its contract: what is found so far and the fields from the place on give what all of them give, and the bytes left
-- fall.
use Prim.Native.Nat.{◌-◌}
use mathlib.Core.Path.{◌≡◌}
use lib.ListN.{length}
use Rattle.std.specs.Prelude.{Ok}
use Rattle.wire_walk.specs.Last.{last_of, last_field}
use Rattle.wire_walk.proofs.WalkLaws.{answers_from}
use Rattle.wire_walk.proofs.last_field.Given as goal

abbrev pub invariant-loop-step : goal.invariant-loop-step
invariant-loop-step l = last_of l.tag (Ok l.found) (answers_from l.bytes l.at) ≡ last_field l.tag l.bytes

abbrev pub decreases-loop-step : goal.decreases-loop-step
decreases-loop-step l = length l.bytes - l.at
