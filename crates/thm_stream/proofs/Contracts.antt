-- What a trace takes a call to ensure (`Answers`, `Leaves`, `Finishes`, `Reads`) is the `ensures` of that function's contract: the two are
-- the same by computation, so neither can be changed without the other.
-- Assumes nothing.
use Prim.Native.Nat.{ℕ}
use mathlib.Core.Path.{◌≡◌, refl}
use mathlib.Core.List.{List}
use lib.ListN.{length}
use seplogic.Ra.Ura.{Ura}
use base.Logic.{SProp, sep}
use base.Fml.{Lft}
use prog.Memory.{Memory}
use prog.Routine.{Routine}
use types.Logic.{Logic}
use contract.Monad.{Fun, fact}
use denote.Ref.{Bor, MutBor}
use denote.Triple.Clauses.{at_exit}
use Rattle.deframer.specs.declared.Deframer.{Deframer}
use Rattle.deframer.specs.InNumbers.{step_in_numbers, end_in_numbers}
use Rattle.deframer.specs.declared.Step.{Step}
use Rattle.deframer.specs.declared.End.{End}
use Rattle.deframer.specs.contracts.deframe as deframe
use Rattle.deframer.specs.contracts.finish as finish
use Rattle.refusals.specs.Refusals.{in_numbers}
use Rattle.message.specs.Frames.{read_frame}
use Rattle.message.specs.Spans.{spans_of}
use Rattle.schema.specs.declared.Kind.{Kind}
use Rattle.reader.specs.Places.{PartsStand}
use Rattle.reader.specs.declared.Reading.{Reading}
use Rattle.reader.specs.contracts.read as read
use Rattle.thm_stream.specs.Trace.{Answers, Leaves, Finishes, Reads}

-- what is lent, and what is in it afterwards
module _ {M : Type 1} {𝓤 : Ura M} (𝓛 : Logic 𝓤) (mem : Memory → SProp 𝓤) (run : Routine → Fun 𝓤) (κ ι : Lft) where
  pub deframe_ensures : (state : Deframer) (buffer : MutBor (List ℕ)) (ceiling : ℕ) (piece : Bor (List ℕ)) (step : Step) (after : List ℕ)
      → (deframe.clauses 𝓛 mem run (κ, (ι, tt)) (state, (buffer, (ceiling, (piece, tt))))).ensures tt step
      (at_exit deframe.ended (κ, (ι, tt)) (state, (buffer, (ceiling, (piece, tt)))) (tt, (after, (tt, (tt, tt)))))
      ≡ sep 𝓤 (fact 𝓤 (Answers ceiling state buffer.now piece.now (record { step = step_in_numbers step; buffer = after })))
      (fact 𝓤 (Leaves ceiling state buffer.now piece.now (record { step = step_in_numbers step; buffer = after })))
  deframe_ensures state buffer ceiling piece step after = refl

  pub finish_ensures : (state : Deframer) (buffer : Bor (List ℕ)) (ceiling : ℕ) (end : End)
      → (finish.clauses 𝓛 mem run (κ, tt) (state, (buffer, (ceiling, tt)))).ensures tt end
      (at_exit finish.ended (κ, tt) (state, (buffer, (ceiling, tt))) (tt, (tt, (tt, tt))))
      ≡ fact 𝓤 (Finishes ceiling state buffer.now (end_in_numbers end))
  finish_ensures state buffer ceiling end = refl

  pub read_ensures : (kind : Kind) (frame : Bor (List ℕ)) (ceiling : ℕ) (rows : MutBor (List ℕ)) (r : Reading) (after : List ℕ)
      → (read.clauses 𝓛 mem run (κ, (ι, tt)) (kind, (frame, (ceiling, (rows, tt))))).ensures tt r
      (at_exit read.ended (κ, (ι, tt)) (kind, (frame, (ceiling, (rows, tt)))) (tt, (tt, (tt, (after, tt)))))
      ≡ fact 𝓤 (Reads ceiling kind frame.now rows.now
      (record { answer = in_numbers r.answer; header = r.header.now; body = r.body.now; attachment = r.attachment.now; rows = after })
      × PartsStand frame.ref_ptr (spans_of (read_frame ceiling kind frame.now rows.now) (length frame.now)) r.header.ref_ptr
      r.body.ref_ptr r.attachment.ref_ptr)
  read_ensures kind frame ceiling rows r after = refl
