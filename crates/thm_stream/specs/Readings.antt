-- Demand 3 whole: the uncut reading with what each frame's message says, and what is to hold of the readings that a caller makes of the
-- frames of any list of calls. Frames, tiling and the end of the stream are in Calls (`Faithful`)
use Rattle.std.specs.Prelude.{ℕ, suc, ◌≡◌, ◌⊎◌, List, [], ◌∷◌, take}
use Rattle.deframer.specs.Stream.{uncut}
use Rattle.thm_stream.specs.Calls.{Event, pushed, finished, pushed_wrong, finished_wrong, taken_of, RefusedBy, EndedBy, Faithful}
use Rattle.deframer.specs.Progress.{Progress}
use Rattle.deframer.specs.Progress.{Frame, NeedMore, Refused}
use Rattle.deframer.specs.End.{End}
use Rattle.message.specs.Frames.{Reading, read_frame}
use Rattle.schema.specs.declared.Kind.{Kind}

-- "for each frame, the named kind and the row numbers lent"
pub record Named : Type 0 where
  pub kind : Kind
  pub lent : List ℕ

-- by the frame's number, the first being 0
abbrev pub Naming : Type 0
Naming = ℕ → Named

-- ---- the uncut reading

-- "read by demand 2 as its kind with its row numbers": the frames, of which the first has number n, each under the ceiling c
abbrev pub read_each : (c : ℕ) → Naming → ℕ → List (List ℕ) → List Reading
read_each c named n [] = []
read_each c named n (frame ∷ frames) = read_frame c (named n).kind frame (named n).lent ∷ read_each c named (suc n) frames

pub record UncutReading : Type 0 where
  pub readings : List Reading
  pub end : End

-- "the uncut reading, is fed bytes and, for each frame, the named kind and the row numbers lent; nothing from state or buffer"; document
-- 02, P11: "the same ceiling within that range throughout, for the uncut reading too"
abbrev pub uncut_reading : (c : ℕ) → Naming → List ℕ → UncutReading
uncut_reading c named bytes = record { readings = read_each c named 0 (uncut c bytes).frames; end = (uncut c bytes).end }

-- ---- the readings that are made

-- what `read` gives of a whole frame as it is at the start of the buffer (`read_frame`, by the contract of `read`), and then those of the
-- later frames; `n` frames came before
abbrev pub read_one : (c : ℕ) → Naming → ℕ → Progress → (buffer : List ℕ) → (later : ℕ → List Reading) → List Reading
read_one c named n (Frame size) buffer later = read_frame c (named n).kind (take size buffer) (named n).lent ∷ later (suc n)
read_one c named n NeedMore buffer later = later n
read_one c named n (Refused code) buffer later = later n

-- of each whole frame, before the next call of the deframer
abbrev pub readings_of : (c : ℕ) → Naming → ℕ → List Event → List Reading
readings_of c named n [] = []
readings_of c named n (pushed piece o ∷ events) = read_one c named n o.step.progress o.buffer (λ m. readings_of c named m events)
readings_of c named n (finished e ∷ events) = readings_of c named n events
readings_of c named n (pushed_wrong k s b o ∷ events) = readings_of c named n events
readings_of c named n (finished_wrong k s b e ∷ events) = readings_of c named n events

-- ---- the statement: what holds of the events of any list of calls under the ceiling c, where the pieces come from `bytes`
pub record ReadFaithfully (c : ℕ) (named : Naming) (bytes : List ℕ) (events : List Event) : Type 0 where
  -- each call's answer, the frames, that they tile the bytes taken, the verdict and its finality
  pub stream : Faithful c bytes events
  -- record or error code, header, body, attachment and row numbers of each frame, in order
  pub readings : readings_of c named 0 events ≡ (uncut_reading c named (taken_of events)).readings
  -- "the verdict, where the last call is an end call, is the uncut reading's"
  pub verdict : (e : End) → EndedBy e events → e ≡ (uncut_reading c named (taken_of events)).end
  -- "and of all bytes once all are taken or a header is refused"
  pub all : (taken_of events ≡ bytes) ⊎ ((code : ℕ) × RefusedBy code events)
      → uncut_reading c named (taken_of events) ≡ uncut_reading c named bytes
