-- A trace: what a caller sees of a list of calls of `deframe`, `finish` and `read`, where each call gives what its contract ensures.
use Rattle.std.specs.Prelude.{ℕ, suc, ◌≡◌, List, [], ◌∷◌, take}
use Rattle.deframer.specs.Deframe.{Out, deframed, ended}
use Rattle.thm_stream.specs.Calls.{Event, pushed, finished, pushed_wrong, finished_wrong, taken_of}
use Rattle.deframer.specs.declared.Deframer.{Deframer}
use Rattle.deframer.specs.Progress.{Progress}
use Rattle.deframer.specs.Progress.{Frame, NeedMore, Refused}
use Rattle.deframer.specs.End.{End}
use Rattle.message.specs.Frames.{Reading, read_frame}
use Rattle.schema.specs.declared.Kind.{Kind}
use Rattle.thm_stream.specs.Readings.{Naming, uncut_reading, ReadFaithfully}

-- ---- the `ensures` of each function, of what a call of it gave

-- `deframe` has two: its answer, and the buffer afterwards
abbrev pub Answers : (c : ℕ) → Deframer → (buffer piece : List ℕ) → Out → Type 0
Answers c state buffer piece o = o.step ≡ (deframed c state buffer piece).step

abbrev pub Leaves : (c : ℕ) → Deframer → (buffer piece : List ℕ) → Out → Type 0
Leaves c state buffer piece o = o.buffer ≡ (deframed c state buffer piece).buffer

abbrev pub Deframes : (c : ℕ) → Deframer → (buffer piece : List ℕ) → Out → Type 0
Deframes c state buffer piece o = Answers c state buffer piece o × Leaves c state buffer piece o

abbrev pub Finishes : (c : ℕ) → Deframer → (buffer : List ℕ) → End → Type 0
Finishes c state buffer e = e ≡ ended c state buffer

abbrev pub Reads : (c : ℕ) → Kind → (frame lent : List ℕ) → Reading → Type 0
Reads c kind frame lent x =
    (x.answer ≡ (read_frame c kind frame lent).answer)
    × (x.header ≡ (read_frame c kind frame lent).header)
    × (x.body ≡ (read_frame c kind frame lent).body)
    × (x.attachment ≡ (read_frame c kind frame lent).attachment)
    × (x.rows ≡ (read_frame c kind frame lent).rows)

-- ---- the calls of the deframer and of the end of a stream
-- Each call was made under the ceiling c, and found the state and the buffer as the one before it left them; a call under another ceiling,
-- with another state or another buffer may be anywhere.
abbrev pub Trace : (c : ℕ) → Deframer → (buffer : List ℕ) → List Event → Type 0
Trace c state buffer [] = Unit {0}
Trace c state buffer (pushed piece o ∷ events) = Deframes c state buffer piece o × Trace c o.step.next o.buffer events
Trace c state buffer (finished e ∷ events) = Finishes c state buffer e × Trace c state buffer events
Trace c state buffer (pushed_wrong k s b o ∷ events) = ((piece : List ℕ) × Deframes k s b piece o) × Trace c state buffer events
Trace c state buffer (finished_wrong k s b e ∷ events) = Finishes k s b e × Trace c state buffer events

-- ---- what is made of each whole frame
-- One thing x of each, with P, as the frame was in the buffer, by the frame's number; `n` frames came before.
abbrev pub NextFrame : {R : Type 0} → (P : ℕ → (frame : List ℕ) → R → Type 0) → ℕ → Progress → (buffer : List ℕ)
    → (later : ℕ → List R → Type 0) → List R → Type 0
NextFrame P n (Frame size) buffer later [] = ⊥
NextFrame P n (Frame size) buffer later (x ∷ xs) = P n (take size buffer) x × later (suc n) xs
NextFrame P n NeedMore buffer later xs = later n xs
NextFrame P n (Refused code) buffer later xs = later n xs

-- of all frames, of each before the next call of the deframer
abbrev pub EachFrame : {R : Type 0} → (P : ℕ → (frame : List ℕ) → R → Type 0) → ℕ → List Event → List R → Type 0
EachFrame P n [] xs = xs ≡ []
EachFrame P n (pushed piece o ∷ events) xs = NextFrame P n o.step.progress o.buffer (λ m ys. EachFrame P m events ys) xs
EachFrame P n (finished e ∷ events) xs = EachFrame P n events xs
EachFrame P n (pushed_wrong k s b o ∷ events) xs = EachFrame P n events xs
EachFrame P n (finished_wrong k s b e ∷ events) xs = EachFrame P n events xs

-- the same of a list of frames, of which the first has number n
abbrev pub of_each : {R : Type 0} → (f : ℕ → (frame : List ℕ) → R) → ℕ → List (List ℕ) → List R
of_each f n [] = []
of_each f n (frame ∷ frames) = f n frame ∷ of_each f (suc n) frames

-- a reading: a call of `read` under the ceiling c, with the kind and the row numbers named for the frame
abbrev pub ReadAsNamed : (c : ℕ) → Naming → ℕ → (frame : List ℕ) → Reading → Type 0
ReadAsNamed c named n frame x = Reads c (named n).kind frame (named n).lent x

-- ---- the statement: what holds of a trace and its readings under the ceiling c, where the pieces come from `bytes`
pub record TracedFaithfully (c : ℕ) (named : Naming) (bytes : List ℕ) (events : List Event) (readings : List Reading) : Type 0 where
  -- frames, what each call answered and took, that the frames tile the bytes taken, the verdict, and all bytes once all are taken
  pub stream : ReadFaithfully c named bytes events
  -- "frames, parts, records, rows .. are those of the uncut reading of the bytes taken"
  pub readings_are : readings ≡ (uncut_reading c named (taken_of events)).readings
