-- What a caller in C sees of a list of calls of `trpc_deframe`, `trpc_finish` and the six readers, where each gives what its contract
-- ensures.
-- The numbers are read as include/bekurapi.h says.
use Rattle.std.specs.Prelude.{ℕ, suc, ◌≡◌, ◌⊎◌, cond, List, [], ◌∷◌, map, eqb}
use Rattle.deframer.specs.Deframe.{Out, ended}
use Rattle.deframer.specs.Stream.{uncut}
use Rattle.thm_stream.specs.Calls.{Event, pushed, finished, pushed_wrong, finished_wrong, taken_of, RefusedBy, Faithful}
use Rattle.deframer.specs.Progress.{Progress}
use Rattle.deframer.specs.Progress.{Frame, NeedMore, Refused}
use Rattle.deframer.specs.End.{End}
use Rattle.deframer.specs.End as end
use Rattle.thm_stream.specs.Readings.{Naming}
use Rattle.bekurapi.specs.Answers.{deframer_of, DeframedAs, end_error, end_short}
use Rattle.thm_c.specs.Readings.{CRead, CReads, CReadOf}

-- ---- what C has after a call: the number returned, and what is in all that was lent

pub record CDeframed : Type 0 where
  pub code : ℕ
  pub held : ℕ
  pub error : ℕ
  pub buffer : List ℕ
  pub taken : ℕ
  pub size : ℕ

pub record CFinished : Type 0 where
  pub code : ℕ
  pub short_by : ℕ

-- ---- the `ensures` of each function, of what a call of it gave

abbrev pub CDeframes : (c : ℕ) → (held error : ℕ) → (buffer piece : List ℕ) → CDeframed → Type 0
CDeframes c held error buffer piece d = DeframedAs c held error buffer piece d.code d.held d.error d.buffer d.taken d.size

abbrev pub CFinishes : (c : ℕ) → (held error : ℕ) → (buffer : List ℕ) → CFinished → Type 0
CFinishes c held error buffer f =
    (f.code ≡ end_error (ended c (deframer_of held error) buffer)) × (f.short_by ≡ end_short (ended c (deframer_of held error) buffer))

-- ---- the calls of the deframer and of the end of a stream

-- the two last are made under any ceiling, with any state and any buffer, of which a call is refused with 41, 1 or 2
pub data CEvent : Type 0 where
  deframe : (piece : List ℕ) → CDeframed → CEvent
  finish : CFinished → CEvent
  deframe_wrong : (ceiling held error : ℕ) → (buffer piece : List ℕ) → CDeframed → CEvent
  finish_wrong : (ceiling held error : ℕ) → (buffer : List ℕ) → CFinished → CEvent

-- each call of the others was made under the ceiling c, and found state and buffer as the one before it left them
abbrev pub CTrace : (c : ℕ) → (held error : ℕ) → (buffer : List ℕ) → List CEvent → Type 0
CTrace c held error buffer [] = Unit {0}
CTrace c held error buffer (deframe piece d ∷ events) =
    CDeframes c held error buffer piece d × CTrace c d.held d.error d.buffer events
CTrace c held error buffer (finish f ∷ events) = CFinishes c held error buffer f × CTrace c held error buffer events
CTrace c held error buffer (deframe_wrong k h e b piece d ∷ events) = CDeframes k h e b piece d × CTrace c held error buffer events
CTrace c held error buffer (finish_wrong k h e b f ∷ events) = CFinishes k h e b f × CTrace c held error buffer events

-- ---- what the numbers say

-- the error code, or the size of a whole frame; "0 and *size 0: the piece is used up and more is needed."
abbrev pub progress_of : (code size : ℕ) → Progress
progress_of code size = cond (eqb code 0) (cond (eqb size 0) NeedMore (Frame size)) (Refused code)

-- the error code, or "how many bytes of an unfinished frame are held: 0 is a clean end"
abbrev pub end_of : (code short_by : ℕ) → End
end_of code short_by = cond (eqb code 0) (cond (eqb short_by 0) end.Clean (end.Short short_by)) (end.Refused code)

-- the same call as `deframer` has it
abbrev pub out_of : CDeframed → Out
out_of d =
    record {
      step = record { progress = progress_of d.code d.size; next = deframer_of d.held d.error; taken = d.taken };
      buffer = d.buffer;
    }

abbrev pub c_event_of : CEvent → Event
c_event_of (deframe piece d) = pushed piece (out_of d)
c_event_of (finish f) = finished (end_of f.code f.short_by)
c_event_of (deframe_wrong k h e b piece d) = pushed_wrong k (deframer_of h e) b (out_of d)
c_event_of (finish_wrong k h e b f) = finished_wrong k (deframer_of h e) b (end_of f.code f.short_by)

-- ---- the readings: a call of the reader of the kind that is named for the frame, with the row numbers lent for it

abbrev pub CReadsNamed : (c : ℕ) → Naming → ℕ → (frame : List ℕ) → CRead → Type 0
CReadsNamed c named n frame x = CReads c (named n).kind frame (named n).lent x

abbrev pub CReadOfNamed : (c : ℕ) → Naming → ℕ → (frame : List ℕ) → CRead → Type 0
CReadOfNamed c named n frame x = CReadOf c (named n).kind frame (named n).lent x

-- P of each frame and of what was read of it, by the frame's number; `n` frames came before
abbrev pub OfEach : (P : ℕ → (frame : List ℕ) → CRead → Type 0) → ℕ → (frames : List (List ℕ)) → List CRead → Type 0
OfEach P n [] xs = xs ≡ []
OfEach P n (frame ∷ frames) [] = ⊥
OfEach P n (frame ∷ frames) (x ∷ xs) = P n frame x × OfEach P (suc n) frames xs

-- ---- the statement: what holds of the calls and their readings under the ceiling c, where the pieces come from `bytes`
pub record CFaithful (c : ℕ) (named : Naming) (bytes : List ℕ) (events : List CEvent) (readings : List CRead) : Type 0 where
  -- frames, what each call answered and took, that the frames tile the bytes taken, the verdict and its finality
  pub stream : Faithful c bytes (map c_event_of events)
  -- "frames, parts, records, rows .. are those of the uncut reading of the bytes taken"
  pub readings_are : OfEach (CReadOfNamed c named) 0 (uncut c (taken_of (map c_event_of events))).frames readings
  -- "and of all bytes once all are taken or a header is refused"
  pub all : (taken_of (map c_event_of events) ≡ bytes) ⊎ ((code : ℕ) × RefusedBy code (map c_event_of events))
      → OfEach (CReadOfNamed c named) 0 (uncut c bytes).frames readings
