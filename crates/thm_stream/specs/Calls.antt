-- Demand 3: a list of calls of the deframer and of the end of a stream, and what is to hold of what they gave.
-- A call gives what the contracts of `deframe` and `finish` say, `deframed` and `ended`. Document 02, P11: "the same ceiling within that
-- range throughout, for the uncut reading too; state each once over the ceiling": c
use Rattle.std.specs.Prelude.{ℕ, ◌+◌, ◌<◌, ◌≤◌, ◌≡◌, ◌⊎◌, Bool, false, cond, List, [], ◌∷◌, ◌++◌, ltb, length, take, drop}
use Rattle.fixed_header.specs.Header.{ceiling_ok, header_error}
use Rattle.deframer.specs.Deframe.{Out, known_of, deframed, ended, unmoved, is_refused}
use Rattle.deframer.specs.Stream.{Uncut, uncut, laid, Start}
use Rattle.deframer.specs.declared.Deframer.{Deframer}
use Rattle.deframer.specs.Progress.{Progress}
use Rattle.deframer.specs.Progress.{Frame, NeedMore, Refused}
use Rattle.deframer.specs.End.{End}
use Rattle.deframer.specs.End as end

-- ---- the calls, and what they gave

-- `push` and `finish` are made under the ceiling of the connection, with the state that the last `push` returned and with the buffer; the
-- two others under any ceiling, with any state and any buffer, these too, of which a call is refused with 41, 1 or 2
pub data Call : Type 0 where
  push : (piece : List ℕ) → Call
  finish : Call
  push_wrong : (ceiling : ℕ) → Deframer → (buffer piece : List ℕ) → Call
  finish_wrong : (ceiling : ℕ) → Deframer → (buffer : List ℕ) → Call

-- what a call was given and gave
pub data Event : Type 0 where
  pushed : (piece : List ℕ) → Out → Event
  finished : End → Event
  pushed_wrong : (ceiling : ℕ) → Deframer → (buffer : List ℕ) → Out → Event
  finished_wrong : (ceiling : ℕ) → Deframer → (buffer : List ℕ) → End → Event

unfoldable pub run : (c : ℕ) → Deframer → List ℕ → List Call → List Event
run c state buffer [] = []
run c state buffer (push piece ∷ calls) =
    let o = deframed c state buffer piece in
    pushed piece o ∷ run c o.step.next o.buffer calls
run c state buffer (finish ∷ calls) = finished (ended c state buffer) ∷ run c state buffer calls
run c state buffer (push_wrong k s b piece ∷ calls) = pushed_wrong k s b (deframed k s b piece) ∷ run c state buffer calls
run c state buffer (finish_wrong k s b ∷ calls) = finished_wrong k s b (ended k s b) ∷ run c state buffer calls

-- ---- how the calls are made

-- a call with such a ceiling, state and buffer is refused with 41, 1 or 2
abbrev pub Wrong : (ceiling : ℕ) → Deframer → List ℕ → Type 0
Wrong k s b = (ceiling_ok k ≡ false) ⊎ ((length b < k) ⊎ (known_of k s b ≡ false))

-- "each cutter call offered any start of the untaken bytes, even none, and after a refused header any bytes"
abbrev pub Offered : (refused : Bool) → (untaken : List ℕ) → List Event → Type 0
Offered refused untaken [] = Unit {0}
Offered refused untaken (pushed piece o ∷ events) =
    (refused ≡ false → Start piece untaken) × Offered (is_refused o.step.progress) (drop o.step.taken untaken) events
Offered refused untaken (finished e ∷ events) = Offered refused untaken events
Offered refused untaken (pushed_wrong k s b o ∷ events) = Wrong k s b × Offered refused untaken events
Offered refused untaken (finished_wrong k s b e ∷ events) = Wrong k s b × Offered refused untaken events

-- ---- what they gave, together

-- the bytes taken
abbrev pub taken_of : List Event → List ℕ
taken_of [] = []
taken_of (pushed piece o ∷ events) = take o.step.taken piece ++ taken_of events
taken_of (finished e ∷ events) = taken_of events
taken_of (pushed_wrong k s b o ∷ events) = taken_of events
taken_of (finished_wrong k s b e ∷ events) = taken_of events

-- "the frame stands at the start of the buffer until the next call"
abbrev pub frame_in : Progress → List ℕ → List (List ℕ)
frame_in (Frame size) buffer = take size buffer ∷ []
frame_in NeedMore buffer = []
frame_in (Refused code) buffer = []

abbrev pub frames_of : List Event → List (List ℕ)
frames_of [] = []
frames_of (pushed piece o ∷ events) = frame_in o.step.progress o.buffer ++ frames_of events
frames_of (finished e ∷ events) = frames_of events
frames_of (pushed_wrong k s b o ∷ events) = frames_of events
frames_of (finished_wrong k s b e ∷ events) = frames_of events

-- ---- what each call gave, by the uncut reading of the bytes taken before it and with it

abbrev pub Unrefused : End → Type 0
Unrefused end.Clean = Unit {0}
Unrefused (end.Short count) = Unit {0}
Unrefused (end.Refused code) = ⊥

-- "each cutter call takes up to the end of the next frame, of the refused header or of its piece, whichever comes first": u is the uncut
-- reading of the bytes taken before the call, v that of `taken`, those with the call's own, `took`
abbrev pub Gave : Progress → (u v : Uncut) → (taken piece took buffer : List ℕ) → Type 0
Gave (Frame size) u v taken piece took buffer =
    (v.frames ≡ u.frames ++ (take size buffer ∷ [])) × (length (take size buffer) ≡ size) × (v.end ≡ end.Clean)
Gave NeedMore u v taken piece took buffer = (v.frames ≡ u.frames) × (took ≡ piece) × Unrefused v.end
Gave (Refused code) u v taken piece took buffer =
    (v.frames ≡ u.frames) × (v.end ≡ end.Refused code) × (length (laid v.frames) + 16 ≡ length taken)

-- "41 ceiling outside the range, before all others"; 1 before 2
abbrev pub wrong_code : (ceiling : ℕ) → List ℕ → ℕ
wrong_code k b = cond (ceiling_ok k) (cond (ltb (length b) k) 1 2) 41

-- of each call; `seen` was taken before the first
abbrev pub Explained : (c : ℕ) → (seen : List ℕ) → List Event → Type 0
Explained c seen [] = Unit {0}
Explained c seen (pushed piece o ∷ events) =
    (o.step.taken ≤ length piece)
    × Gave o.step.progress (uncut c seen) (uncut c (seen ++ take o.step.taken piece)) (seen ++ take o.step.taken piece) piece
    (take o.step.taken piece) o.buffer
    × Explained c (seen ++ take o.step.taken piece) events
Explained c seen (finished e ∷ events) = (e ≡ (uncut c seen).end) × Explained c seen events
Explained c seen (pushed_wrong k s b o ∷ events) = (Wrong k s b → o ≡ unmoved (wrong_code k b) s b) × Explained c seen events
Explained c seen (finished_wrong k s b e ∷ events) = (Wrong k s b → e ≡ end.Refused (wrong_code k b)) × Explained c seen events

-- "later calls repeat the number and take nothing"
abbrev pub Repeats : (code : ℕ) → List Event → Type 0
Repeats code [] = Unit {0}
Repeats code (pushed piece o ∷ events) = (o.step.progress ≡ Refused code) × (o.step.taken ≡ 0) × Repeats code events
Repeats code (finished e ∷ events) = (e ≡ end.Refused code) × Repeats code events
Repeats code (pushed_wrong k s b o ∷ events) = Repeats code events
Repeats code (finished_wrong k s b e ∷ events) = Repeats code events

-- once a header is refused
abbrev pub Final : List Event → Type 0
Final [] = Unit {0}
Final (pushed piece o ∷ events) = ((code : ℕ) → o.step.progress ≡ Refused code → Repeats code events) × Final events
Final (finished e ∷ events) = Final events
Final (pushed_wrong k s b o ∷ events) = Final events
Final (finished_wrong k s b e ∷ events) = Final events

-- some call refused a header
abbrev pub RefusedBy : (code : ℕ) → List Event → Type 0
RefusedBy code [] = ⊥
RefusedBy code (pushed piece o ∷ events) = (o.step.progress ≡ Refused code) ⊎ RefusedBy code events
RefusedBy code (finished e ∷ events) = RefusedBy code events
RefusedBy code (pushed_wrong k s b o ∷ events) = RefusedBy code events
RefusedBy code (finished_wrong k s b e ∷ events) = RefusedBy code events

-- the last call is an end call, and that is its answer
abbrev pub EndedBy : End → List Event → Type 0
EndedBy e events = (earlier : List Event) × (events ≡ earlier ++ (finished e ∷ []))

-- what is left of the stream after the frames: nothing, as many bytes as it is short, or the refused header
abbrev pub Rest : (c : ℕ) → End → List ℕ → Type 0
Rest c end.Clean rest = rest ≡ []
Rest c (end.Short count) rest = length rest ≡ count
Rest c (end.Refused code) rest = (length rest ≡ 16) × (header_error c rest ≡ code)

-- ---- the statement: what holds of the events of any list of calls under the ceiling c, where the pieces come from `bytes`
pub record Faithful (c : ℕ) (bytes : List ℕ) (events : List Event) : Type 0 where
  -- "what it answered and took", call by call
  pub calls : Explained c [] events
  -- the frames are those of the uncut reading of the bytes taken
  pub frames : frames_of events ≡ (uncut c (taken_of events)).frames
  -- laid end to end they are the start of the bytes taken, up to the refused header or the unfinished rest
  pub tiled : (rest : List ℕ) × (laid (frames_of events) ++ rest ≡ taken_of events) × Rest c (uncut c (taken_of events)).end rest
  -- "the verdict, where the last call is an end call, is the uncut reading's"
  pub verdict : (e : End) → EndedBy e events → e ≡ (uncut c (taken_of events)).end
  -- the bytes taken are a start of all bytes
  pub start : Start (taken_of events) bytes
  -- "and of all bytes once all are taken or a header is refused"
  pub all : (taken_of events ≡ bytes) ⊎ ((code : ℕ) × RefusedBy code events) → uncut c (taken_of events) ≡ uncut c bytes
  -- "nothing after a refused header changes an answer"
  pub final : Final events
