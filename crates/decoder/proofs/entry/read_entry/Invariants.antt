-- `read_entry` meets its contract: what is left to read is what is left of the whole entry (`ReadingEntry`), and each field takes bytes
-- of it.
use Prim.Native.Nat.{◌-◌}
use Rattle.decoder.proofs.EntryLaws.{ReadingEntry}
use Rattle.decoder.proofs.entry.read_entry.Given as goal

abbrev pub invariant-loop-step : goal.invariant-loop-step
invariant-loop-step l = ReadingEntry l.frame l.at l.end l.i l.e

abbrev pub decreases-loop-step : goal.decreases-loop-step
decreases-loop-step l = l.end - l.i
