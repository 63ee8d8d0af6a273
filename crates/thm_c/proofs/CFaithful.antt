-- For a user in C: demand 3.
--
-- Promised, of any ceiling from 16 to 65,536, of any list of calls of `trpc_deframe` and `trpc_finish` under it from held 0 and error 0,
-- over a buffer of at least as many bytes as the ceiling, of any content, with calls among them that have another ceiling, state or buffer
-- and so are refused with 41, 1 or 2, and of a call of a reader under the same ceiling for each whole frame before the next call of
-- `trpc_deframe`, with any kind and any row numbers: whatever the calls gave, if each gave what its contract ensures, then frames, what
-- each call answered and took, and the end are those of the uncut reading under that ceiling of the bytes taken; the numbers of the
-- readings say its records, header, body and attachment as bytes, rows and error codes; and both are those of all bytes once all are taken
-- or a header is refused. Nothing else is known of a call (`proofs/Contracts`).
-- Not promised: anything of a buffer, a count or a code that the caller changes between two calls, or of a frame that is read after the
-- next call; of a stream under two ceilings; nor of the declarations in include/bekurapi.h, which the tests compare.
-- Ruled out: an answer whose numbers could mean two things, as a frame of size 0; a deframer that gives another caller's count; and a
-- record whose parts are another frame's.
use Prim.Native.Nat.{ℕ, suc, ◌≤◌}
use mathlib.Core.Path.{◌≡◌, refl, ap, sym, subst, ◌∙◌}
use mathlib.Core.Bool.{false}
use mathlib.Core.List.{List, [], ◌∷◌, map}
use lib.ListN.{length}
use Rattle.fixed_header.specs.Header.{CeilingOk}
use Rattle.deframer.specs.Deframe.{Out, fresh, ended}
use Rattle.deframer.specs.Stream.{Uncut, uncut}
use Rattle.thm_stream.specs.Calls.{Event, taken_of, frames_of, Offered, Faithful}
use Rattle.deframer.specs.Progress.{Progress}
use Rattle.deframer.specs.declared.Deframer.{Deframer}
use Rattle.thm_stream.proofs.Faithful.{faithful}
use Rattle.message.specs.Frames.{read_frame}
use Rattle.bekurapi.specs.Answers.{deframer_of, deframed_from, progress_error, end_error}
use Rattle.thm_stream.specs.Readings.{Naming}
use Rattle.thm_stream.specs.Trace.{Deframes, Trace, EachFrame, of_each}
use Rattle.thm_stream.proofs.Traced.{traced, each_frame}
use Rattle.thm_c.specs.Readings.{CRead}
use Rattle.thm_c.specs.Calls.{CDeframed, CFinished, CDeframes, CFinishes, CEvent, deframe, finish, deframe_wrong, finish_wrong, CTrace}
use Rattle.thm_c.specs.Calls.{progress_of, end_of, out_of, c_event_of, CReadsNamed, CReadOfNamed, OfEach, CFaithful}
use Rattle.thm_c.proofs.Told.{progress_back, end_back}
use Rattle.thm_c.proofs.CReading.{read_of}
use Rattle.thm_c.specs.Entries.{read_C}
use Rattle.thm_c.proofs.Given.{all_read}

-- the numbers of each part of an answer, put together, are the answer
module _ (c held error : ℕ) (buffer piece : List ℕ) (d : CDeframed) (e : CDeframes c held error buffer piece d) where
  abbrev gives : Out
  gives = deframed_from c held error buffer piece

  progress_is : progress_of d.code d.size ≡ gives.step.progress
  progress_is =
      ap (λ (code : ℕ). progress_of code d.size) e.code_is
      ∙ ap (λ (n : ℕ). progress_of (progress_error gives.step.progress) n) e.size_is
      ∙ progress_back c (deframer_of held error) buffer piece

  deframes_is : Deframes c (deframer_of held error) buffer piece (out_of d)
  deframes_is = (
    ap (λ (p : Progress). record { progress = p; next = deframer_of d.held d.error; taken = d.taken }) progress_is
        ∙ ap (λ (st : Deframer). record { progress = gives.step.progress; next = st; taken = d.taken }) e.state_is
        ∙ ap (λ (n : ℕ). record { progress = gives.step.progress; next = gives.step.next; taken = n }) e.taken_is,
    e.buffer_is,
  )

end_is : (c held error : ℕ) (buffer : List ℕ) (f : CFinished) → CFinishes c held error buffer f
    → end_of f.code f.short_by ≡ ended c (deframer_of held error) buffer
end_is c held error buffer f e =
    ap (λ (code : ℕ). end_of code f.short_by) e.0
    ∙ ap (λ (n : ℕ). end_of (end_error (ended c (deframer_of held error) buffer)) n) e.1
    ∙ end_back c (deframer_of held error) buffer

module _ (c : ℕ) where
  -- so the calls as `deframer` has them are a trace of its functions
  as_traced : (held error : ℕ) (buffer : List ℕ) (events : List CEvent) → CTrace c held error buffer events
      → Trace c (deframer_of held error) buffer (map c_event_of events)
  as_traced held error buffer [] t = tt
  as_traced held error buffer (deframe piece d ∷ events) t =
      (deframes_is c held error buffer piece d t.0, as_traced d.held d.error d.buffer events t.1)
  as_traced held error buffer (finish f ∷ events) t = (end_is c held error buffer f t.0, as_traced held error buffer events t.1)
  as_traced held error buffer (deframe_wrong k h e b piece d ∷ events) t =
      ((piece, deframes_is k h e b piece d t.0), as_traced held error buffer events t.1)
  as_traced held error buffer (finish_wrong k h e b f ∷ events) t = (end_is k h e b f t.0, as_traced held error buffer events t.1)

  -- ---- the readings
  module _ (named : Naming) where
    -- what a reader gives of a frame
    abbrev gives_of : ℕ → (frame : List ℕ) → CRead
    gives_of n frame = read_C frame (read_frame c (named n).kind frame (named n).lent)

    each_read : (n : ℕ) (frames : List (List ℕ)) → OfEach (CReadOfNamed c named) n frames (of_each gives_of n frames)
    each_read n [] = refl
    each_read n (frame ∷ frames) = (
      read_of c (named n).kind frame (named n).lent (gives_of n frame)
          (record { code_is = refl; rows_are = refl; numbers_are = refl }),
      each_read (suc n) frames,
    )

    -- of the frames as they were in the buffer, so of those frames
    of_frames : (events : List Event) (readings : List CRead) (frames : List (List ℕ)) → EachFrame (CReadsNamed c named) 0 events readings
        → frames_of events ≡ frames
        → OfEach (CReadOfNamed c named) 0 frames readings
    of_frames events readings frames reads e =
        let is =
        each_frame (CReadsNamed c named) gives_of (λ n frame. all_read c (named n).kind frame (named n).lent) events 0 readings reads
        ∙ ap (of_each gives_of 0) e in
        subst (OfEach (CReadOfNamed c named) 0 frames) (sym is) (each_read 0 frames)

pub c_faithful : (c : ℕ) → CeilingOk c → (named : Naming) (bytes buffer : List ℕ) (events : List CEvent) (readings : List CRead)
    → c ≤ length buffer → CTrace c 0 0 buffer events → Offered false bytes (map c_event_of events)
    → EachFrame (CReadsNamed c named) 0 (map c_event_of events) readings
    → CFaithful c named bytes events readings
c_faithful c in_range named bytes buffer events readings big trace offered reads =
    let es = map c_event_of events in
    let made = traced c fresh buffer es (as_traced c 0 0 buffer events trace) in
    let offered_run = subst (λ (l : List Event). Offered false bytes l) made.1 offered in
    let stream = subst (λ (l : List Event). Faithful c bytes l) (sym made.1)
    (faithful c in_range made.0 bytes buffer big offered_run) in
    record {
      stream = stream;
      readings_are = of_frames c named es readings (uncut c (taken_of es)).frames reads stream.frames;
      all = λ taken. of_frames c named es readings (uncut c bytes).frames reads (stream.frames ∙ ap (λ (u : Uncut). u.frames)
          (stream.all taken));
    }
