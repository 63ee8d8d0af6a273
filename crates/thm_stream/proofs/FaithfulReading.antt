-- Demand 3 whole: a stream that is cut into pieces is read as the uncut stream is.
--
-- Promised, of any ceiling from 16 to 65,536, of any list of calls of `deframe` and `finish` under it from the fresh state, over a buffer
-- of at least as many bytes of any content, and of any kind and any row numbers named for each frame: the readings made by `read`, under
-- the same ceiling, of each whole frame as it is in the buffer are those of the uncut reading of the bytes taken (record or error code,
-- header, body and attachment as bytes, and the row numbers afterwards), with frames, tiling, verdict and finality as in `Faithful`; and
-- they are those of all bytes once all are taken or a header is refused. The terms are those of the functions' contracts: `deframed`,
-- `ended` and `read_frame`.
-- Not promised: that a caller reads each frame, nor that it does so before the next call of `deframe`, which overwrites the buffer: it
-- speaks of the readings that are made so. Nor does it choose a kind or clear row numbers for the caller.
-- Ruled out: a reader that saw another frame's bytes, kind or row numbers (`readings`), one whose record depends on how the stream was cut
-- (`readings`), and a deframer that works on its first call and then only pretends (`stream`).
use Prim.Native.Nat.{ℕ, suc, ◌≤◌}
use mathlib.Core.Path.{◌≡◌, refl, ap, ◌∙◌}
use mathlib.Core.Bool.{false}
use mathlib.Core.List.{List, [], ◌∷◌, ◌++◌}
use lib.ListN.{length, take}
use Rattle.fixed_header.specs.Header.{CeilingOk}
use Rattle.deframer.specs.Deframe.{fresh}
use Rattle.deframer.specs.Stream.{Uncut}
use Rattle.thm_stream.specs.Calls.{Call, Event, pushed, finished, pushed_wrong, finished_wrong, run, Offered, frames_of, frame_in}
use Rattle.deframer.specs.Progress.{Progress}
use Rattle.deframer.specs.Progress.{Frame, NeedMore, Refused}
use Rattle.thm_stream.proofs.Faithful.{faithful}
use Rattle.message.specs.Frames.{Reading, read_frame}
use Rattle.thm_stream.specs.Readings.{Naming, read_each, read_one, readings_of, ReadFaithfully}

module _ (c : ℕ) where
  -- the readings made are those of the frames in the buffer, by number
  each_one : (named : Naming) (n : ℕ) (progress : Progress) (buffer : List ℕ) (frames : List (List ℕ)) (later : ℕ → List Reading)
      → ((m : ℕ) → later m ≡ read_each c named m frames)
      → read_one c named n progress buffer later ≡ read_each c named n (frame_in progress buffer ++ frames)
  each_one named n (Frame size) buffer frames later e =
      ap (λ (x : List Reading). read_frame c (named n).kind (take size buffer) (named n).lent ∷ x) (e (suc n))
  each_one named n NeedMore buffer frames later e = e n
  each_one named n (Refused code) buffer frames later e = e n

  each : (named : Naming) (events : List Event) (n : ℕ) → readings_of c named n events ≡ read_each c named n (frames_of events)
  each named [] n = refl
  each named (pushed piece o ∷ events) n =
      each_one named n o.step.progress o.buffer (frames_of events) (λ m. readings_of c named m events) (each named events)
  each named (finished e ∷ events) n = each named events n
  each named (pushed_wrong k s b o ∷ events) n = each named events n
  each named (finished_wrong k s b e ∷ events) n = each named events n

  pub read_faithfully : CeilingOk c → (named : Naming) (calls : List Call) (bytes buffer : List ℕ) → c ≤ length buffer
      → Offered false bytes (run c fresh buffer calls) → ReadFaithfully c named bytes (run c fresh buffer calls)
  read_faithfully in_range named calls bytes buffer big offered =
      let events = run c fresh buffer calls in
      let stream = faithful c in_range calls bytes buffer big offered in
      record {
        stream = stream;
        readings = each named events 0 ∙ ap (read_each c named 0) stream.frames;
        verdict = stream.verdict;
        all = λ taken. ap (λ (u : Uncut). record { readings = read_each c named 0 u.frames; end = u.end }) (stream.all taken);
      }
