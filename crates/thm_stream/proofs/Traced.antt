-- For a user: demand 3, of the functions themselves.
--
-- Promised, of any ceiling from 16 to 65,536, of any list of calls of `deframe` and `finish` under it from the fresh state, over a buffer
-- of at least as many bytes of any content, and of a call of `read` under it for each whole frame before the next call of `deframe`, with
-- any kind and any row numbers: if each call gave what its contract ensures, then the frames, the records or error codes, the parts, the
-- row numbers and the verdict are those of the uncut reading, under the same ceiling, of the bytes taken, and of all bytes once all are
-- taken or a header is refused. Nothing else is known of a call: `proofs/Contracts` says that what is taken here for a function's `ensures`
-- is just that. Calls that are refused with 41, 1 or 2, each under any ceiling of its own, may be anywhere between.
-- Not promised: anything of a ceiling, a buffer or a state that the caller changes between two calls, or of a frame that is read after the
-- next call.
-- Ruled out: a contract too weak for demand 3, as one that leaves open what `deframe` keeps in the buffer, or what `read` leaves in the row
-- numbers.
use Prim.Native.Nat.{ℕ, suc, ◌≤◌}
use mathlib.Core.Path.{◌≡◌, refl, ap, sym, subst, ◌∙◌}
use mathlib.Core.Bool.{false}
use mathlib.Core.List.{List, [], ◌∷◌, ◌++◌}
use lib.ListN.{length, take}
use Rattle.fixed_header.specs.Header.{CeilingOk}
use Rattle.deframer.specs.Deframe.{Out, fresh, deframed}
use Rattle.thm_stream.specs.Calls.{Call, push, finish, push_wrong, finish_wrong, Event, pushed}
use Rattle.thm_stream.specs.Calls.{finished, pushed_wrong, finished_wrong, run, Offered, frame_in, frames_of}
use Rattle.deframer.specs.declared.Deframer.{Deframer}
use Rattle.deframer.specs.Step.{Step}
use Rattle.deframer.specs.Progress.{Progress}
use Rattle.deframer.specs.Progress.{Frame, NeedMore, Refused}
use Rattle.deframer.specs.End.{End}
use Rattle.message.specs.Frames.{Reading, read_frame}
use Rattle.schema.specs.declared.Kind.{Kind}
use Rattle.message.specs.Frames.{Answer}
use Rattle.thm_stream.specs.Readings.{Naming, read_each, ReadFaithfully}
use Rattle.thm_stream.proofs.FaithfulReading.{read_faithfully}
use Rattle.thm_stream.specs.Trace.{Deframes, Reads, Trace, NextFrame, EachFrame, of_each, ReadAsNamed, TracedFaithfully}

-- a contract that gives each part of an answer gives all of it
all_deframed : (c : ℕ) (state : Deframer) (buffer piece : List ℕ) (o : Out) → Deframes c state buffer piece o
    → o ≡ deframed c state buffer piece
all_deframed c state buffer piece o d =
    ap (λ (x : Step). record { step = x; buffer = o.buffer }) d.0
    ∙ ap (λ (x : List ℕ). record { step = (deframed c state buffer piece).step; buffer = x }) d.1

pub all_read : (c : ℕ) (kind : Kind) (frame lent : List ℕ) (x : Reading) → Reads c kind frame lent x → x ≡ read_frame c kind frame lent
all_read c kind frame lent x e =
    let y = read_frame c kind frame lent in
    ap (λ (z : Answer). record { answer = z; header = x.header; body = x.body; attachment = x.attachment; rows = x.rows }) e.0
    ∙ ap (λ (z : List ℕ). record { answer = y.answer; header = z; body = x.body; attachment = x.attachment; rows = x.rows }) e.1
    ∙ ap (λ (z : List ℕ). record { answer = y.answer; header = y.header; body = z; attachment = x.attachment; rows = x.rows }) e.2
    ∙ ap (λ (z : List ℕ). record { answer = y.answer; header = y.header; body = y.body; attachment = z; rows = x.rows }) e.3
    ∙ ap (λ (z : List ℕ). record { answer = y.answer; header = y.header; body = y.body; attachment = y.attachment; rows = z }) e.4

-- what is made of each frame as it stood in the buffer is what is made of the frames
module _ {R : Type 0} (P : ℕ → (frame : List ℕ) → R → Type 0) (f : ℕ → (frame : List ℕ) → R) (only : (n : ℕ) (frame : List ℕ) (x : R)
    → P n frame x → x ≡ f n frame) where
  next_frame_lem : (n : ℕ) (progress : Progress) (buffer : List ℕ) (frames : List (List ℕ)) (Later : ℕ → List R → Type 0)
      → ((m : ℕ) (ys : List R) → Later m ys → ys ≡ of_each f m frames)
      → (xs : List R) → NextFrame P n progress buffer Later xs → xs ≡ of_each f n (frame_in progress buffer ++ frames)
  next_frame_lem n (Frame size) buffer frames Later h [] e = absurd e
  next_frame_lem n (Frame size) buffer frames Later h (x ∷ xs) e =
      ap (λ (y : R). y ∷ xs) (only n (take size buffer) x e.0) ∙ ap (λ (ys : List R). f n (take size buffer) ∷ ys) (h (suc n) xs e.1)
  next_frame_lem n NeedMore buffer frames Later h xs e = h n xs e
  next_frame_lem n (Refused code) buffer frames Later h xs e = h n xs e

  pub each_frame : (events : List Event) (n : ℕ) (xs : List R) → EachFrame P n events xs → xs ≡ of_each f n (frames_of events)
  each_frame [] n xs e = e
  each_frame (pushed piece o ∷ events) n xs e =
      next_frame_lem n o.step.progress o.buffer (frames_of events) (λ m ys. EachFrame P m events ys) (each_frame events) xs e
  each_frame (finished g ∷ events) n xs e = each_frame events n xs e
  each_frame (pushed_wrong k s b o ∷ events) n xs e = each_frame events n xs e
  each_frame (finished_wrong k s b g ∷ events) n xs e = each_frame events n xs e

module _ (c : ℕ) where
  -- a trace is the run of its calls
  pub traced : (state : Deframer) (buffer : List ℕ) (events : List Event) → Trace c state buffer events → (calls : List Call)
      × (events ≡ run c state buffer calls)
  unfolding run
  traced state buffer [] t = ([], refl)
  traced state buffer (pushed piece o ∷ events) t =
      let later = traced o.step.next o.buffer events t.1 in (
        push piece ∷ later.0,
        ap (λ (es : List Event). pushed piece o ∷ es) later.1
            ∙ ap (λ (x : Out). pushed piece x ∷ run c x.step.next x.buffer later.0) (all_deframed c state buffer piece o t.0),
      )
  traced state buffer (finished e ∷ events) t =
      let later = traced state buffer events t.1 in (
        finish ∷ later.0,
        ap (λ (es : List Event). finished e ∷ es) later.1 ∙ ap (λ (x : End). finished x ∷ run c state buffer later.0) t.0,
      )
  traced state buffer (pushed_wrong k s b o ∷ events) t =
      let later = traced state buffer events t.1 in (
        push_wrong k s b t.0.0 ∷ later.0,
        ap (λ (es : List Event). pushed_wrong k s b o ∷ es) later.1
            ∙ ap (λ (x : Out). pushed_wrong k s b x ∷ run c state buffer later.0) (all_deframed k s b t.0.0 o t.0.1),
      )
  traced state buffer (finished_wrong k s b e ∷ events) t =
      let later = traced state buffer events t.1 in (
        finish_wrong k s b ∷ later.0,
        ap (λ (es : List Event). finished_wrong k s b e ∷ es) later.1
            ∙ ap (λ (x : End). finished_wrong k s b x ∷ run c state buffer later.0) t.0,
      )

  -- the uncut reading makes a reading of each frame
  abbrev reading_as_named : Naming → ℕ → (frame : List ℕ) → Reading
  reading_as_named named n frame = read_frame c (named n).kind frame (named n).lent

  read_each_lem : (named : Naming) (n : ℕ) (frames : List (List ℕ)) → of_each (reading_as_named named) n frames ≡ read_each c named n frames
  read_each_lem named n [] = refl
  read_each_lem named n (frame ∷ frames) = ap (λ (xs : List Reading). reading_as_named named n frame ∷ xs) (read_each_lem named (suc n) frames)

  pub traced_faithfully : CeilingOk c → (named : Naming) (bytes buffer : List ℕ) (events : List Event) (readings : List Reading)
      → c ≤ length buffer → Trace c fresh buffer events → Offered false bytes events → EachFrame (ReadAsNamed c named) 0 events readings
      → TracedFaithfully c named bytes events readings
  traced_faithfully in_range named bytes buffer events readings big trace offered reads =
      let made = traced fresh buffer events trace in
      let offered_run = subst (λ (es : List Event). Offered false bytes es) made.1 offered in
      let stream = subst (λ (es : List Event). ReadFaithfully c named bytes es) (sym made.1)
      (read_faithfully c in_range named made.0 bytes buffer big offered_run) in
      let made_of = each_frame (ReadAsNamed c named) (reading_as_named named)
      (λ n frame x e. all_read c (named n).kind frame (named n).lent x e) events 0 readings reads in
      record {
        stream = stream;
        readings_are = made_of ∙ read_each_lem named 0 (frames_of events) ∙ ap (read_each c named 0) stream.stream.frames;
      }
