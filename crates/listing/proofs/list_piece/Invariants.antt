-- The deframer takes at least a byte of what is left of the piece, unless it refuses a header, which ends the loop. The measure is
-- what is left. Each pass adds a step to those before it.
use Rattle.std.proofs.Common.{◌≡◌, ◌-◌, ◌≤◌, length}
use Rattle.listing.specs.Steps.{ListsSteps}
use Rattle.listing.proofs.list_piece.Given as goal

abbrev pub invariant-loop-from : goal.invariant-loop-from
invariant-loop-from l =
    (length l.buffer ≡ length l.initial.buffer) × (length l.text ≡ length l.initial.text) × (l.listed.pending ≤ length l.initial.text) × (l.from ≤ length l.piece)
    × ListsSteps l.piece l.initial.listed l.initial.buffer l.initial.text l.from l.listed l.buffer l.text

abbrev pub decreases-loop-from : goal.decreases-loop-from
decreases-loop-from l = length l.piece - l.from
