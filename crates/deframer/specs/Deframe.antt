-- Document 01, "Cutting": the deframer (document 01: cutter) and the end of a stream (document 01: end verdict).
-- The bytes held and then the piece are the stream since the end of the last frame: all is said of that one list
use Rattle.std.specs.Prelude.{ℕ, ◌-◌, List, ◌++◌, Bool, true, false, not, cond, ◌&&◌, eqb, ltb, leb, length, take, drop}
use Rattle.fixed_header.specs.Header.{ceiling_ok, header_error, total_of}
use Rattle.deframer.specs.declared.Deframer.{Deframer}
use Rattle.deframer.specs.Step.{Step}
use Rattle.deframer.specs.Progress.{Progress}
use Rattle.deframer.specs.Progress.{Frame, NeedMore, Refused}
use Rattle.deframer.specs.End.{End}
use Rattle.deframer.specs.End as end

-- "Fresh means 0 and 0."
abbrev pub fresh : Deframer
fresh = record { held = 0; error = 0 }

-- "A state is known if it holds under 16 bytes with number 0; or holds 16 or more with number 0, its first 16 judge good and their
-- total exceeds the count; or holds exactly 16 that judge to its number, from 3 to 8", of which document 02 takes out 8: "a state that
-- holds 8 is not known". Judged under the ceiling of the call that asks: a state has none
unfoldable pub known_of : (c : ℕ) → Deframer → List ℕ → Bool
known_of c state buffer =
    cond (eqb state.error 0)
    (cond (ltb state.held 16) true
    (eqb (header_error c (take 16 buffer)) 0 && ltb state.held (total_of (take 16 buffer))))
    (eqb state.held 16 && (eqb (header_error c (take 16 buffer)) state.error && (leb 3 state.error && leb state.error 7)))

-- "behind those held": the stream that a call sees
abbrev pub stream : ℕ → List ℕ → List ℕ → List ℕ
stream held buffer piece = take held buffer ++ piece

-- a stream that begins with a frame of `total` bytes: they are all there, or more is needed
abbrev pub whole_or_more : (total : ℕ) → List ℕ → Progress
whole_or_more total s = cond (leb total (length s)) (Frame total) NeedMore

-- "The answer is one of three: a whole frame with its size, more is needed, or a refusal"; "The header is judged when its 16th byte
-- arrives, never sooner."
unfoldable pub next_frame : (c : ℕ) → List ℕ → Progress
next_frame c s =
    cond (ltb (length s) 16) NeedMore
    (cond (eqb (header_error c (take 16 s)) 0)
    (whole_or_more (total_of (take 16 s)) s)
    (Refused (header_error c (take 16 s))))

-- "It takes bytes .. until a frame is whole, a header is refused or the piece ends": how much of the stream is in the buffer then
abbrev pub reach : Progress → List ℕ → ℕ
reach (Frame size) s = size
reach NeedMore s = length s
reach (Refused code) s = 16

-- "After a whole frame nothing is held"; "A refused header stays in the buffer with 16 held"
abbrev pub next_state : Progress → List ℕ → Deframer
next_state (Frame size) s = fresh
next_state NeedMore s = record { held = length s; error = 0 }
next_state (Refused code) s = record { held = 16; error = code }

-- the call was refused: its state or buffer, or a header, by this call or before it
abbrev pub is_refused : Progress → Bool
is_refused (Frame size) = false
is_refused NeedMore = false
is_refused (Refused code) = true

-- a call's answer, and the buffer after it
pub record Out : Type 0 where
  pub step : Step
  pub buffer : List ℕ

-- `held` bytes of the stream s were in the buffer. "Bytes of the buffer that received nothing are unchanged."
-- A known state holds no more than the call reaches (`held_reached`), so the subtraction does not stop at 0.
abbrev pub moved : Progress → ℕ → List ℕ → List ℕ → Out
moved progress held buffer s =
    record {
      step = record { progress = progress; next = next_state progress s; taken = reach progress s - held };
      buffer = take (reach progress s) s ++ drop (reach progress s) buffer;
    }

abbrev pub advance : (c : ℕ) → ℕ → List ℕ → List ℕ → Out
advance c held buffer s = moved (next_frame c s) held buffer s

-- "later calls repeat the number and take nothing"; "1 and 2 return the state as given and take nothing"; document 02, P11: "41 ceiling
-- outside the range, before all others, with the state as given and nothing taken"
abbrev pub refuse : ℕ → Deframer → Step
refuse code state = record { progress = Refused code; next = state; taken = 0 }

abbrev pub unmoved : ℕ → Deframer → List ℕ → Out
unmoved code state buffer = record { step = refuse code state; buffer = buffer }

-- "Cutter 1, 2, a held refusal, then 3 to 8 rising", without 8 and after 41. "A buffer need only be as long as the ceiling."
unfoldable pub deframed : (c : ℕ) → Deframer → List ℕ → List ℕ → Out
deframed c state buffer piece =
    cond (not (ceiling_ok c)) (unmoved 41 state buffer)
    (cond (ltb (length buffer) c) (unmoved 1 state buffer)
    (cond (not (known_of c state buffer)) (unmoved 2 state buffer)
    (cond (not (eqb state.error 0)) (unmoved state.error state buffer)
    (advance c state.held buffer (stream state.held buffer piece)))))

-- The codes in the same order. "The end verdict, asked with state and buffer, is clean (nothing held), short with the count held, or the
-- refusal."
unfoldable pub ended : (c : ℕ) → Deframer → List ℕ → End
ended c state buffer =
    cond (not (ceiling_ok c)) (end.Refused 41)
    (cond (ltb (length buffer) c) (end.Refused 1)
    (cond (not (known_of c state buffer)) (end.Refused 2)
    (cond (not (eqb state.error 0)) (end.Refused state.error)
    (cond (eqb state.held 0) end.Clean
    (end.Short state.held)))))
