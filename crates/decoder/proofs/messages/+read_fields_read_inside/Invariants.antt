-- A call of the other ends because a field's bytes are fewer than those of the part that holds it; the loop over a part's fields ends
-- because each takes bytes of it, and what is left to read is what is left of the whole (`Reading`).
use Rattle.std.proofs.Common.{◌+◌, ◌*◌, ◌-◌}
use Rattle.decoder.proofs.FieldLoop.{Reading}
use Rattle.decoder.proofs.messages.+read_fields_read_inside.Given as goal

-- twice the bytes of the part, and one more for a field whose bytes they are
abbrev pub decreases-read_fields : goal.decreases-read_fields
decreases-read_fields l = 2 * (l.end - l.at)

abbrev pub decreases-read_inside : goal.decreases-read_inside
decreases-read_inside l = 2 * l.size + 1

abbrev pub invariant-read_fields-loop-step : goal.invariant-read_fields-loop-step
invariant-read_fields-loop-step l = Reading l.frame l.schema l.at l.end l.initial.slots l.initial.rows l.i l.slots l.rows

abbrev pub decreases-read_fields-loop-step : goal.decreases-read_fields-loop-step
decreases-read_fields-loop-step l = l.end - l.i
