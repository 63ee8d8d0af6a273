-- The slice is what is left of the piece. How much of it the deframer takes are the laws of `deframer`.
use Rattle.std.proofs.Common.{◌≡◌, ℕ, ◌+◌, ◌-◌, ◌<◌, ◌≤◌, false, List, length, take, drop, ap, ◌∙◌, arith, length-drop, take_all}
use Rattle.fixed_header.specs.Header.{max_frame}
use Rattle.deframer.specs.Deframe.{deframed, is_refused}
use Rattle.deframer.specs.declared.Deframer.{Deframer}
use Rattle.deframer.specs.InNumbers.{step_in_numbers}
use Rattle.deframer.specs.Step.{Step}
use Rattle.deframer.proofs.Taken.{taken_within, taken_some}
use Rattle.listing.proofs.deframe_rest.Goals as goal

whole : (piece : List ℕ) (from : ℕ) → take (length piece - from) (drop from piece) ≡ drop from piece
whole piece from = take_all (length piece - from) (drop from piece) (omega (arith, length-drop from piece))

taken : (st : Deframer) (buffer piece : List ℕ) (from : ℕ) (step : Step) → from < length piece
    → step ≡ (deframed max_frame st buffer (drop from piece)).step
    → (from + step.taken ≤ length piece) × (is_refused step.progress ≡ false → 0 < step.taken)
taken st buffer piece from step h e =
    let rest = drop from piece in
    let l : length rest ≡ length piece - from = length-drop from piece in
    rw e (omega (arith, taken_within max_frame st buffer rest), λ n. taken_some max_frame st buffer rest (omega arith) n)

pub returns-clause-taken_in_bounds : goal.returns-clause-taken_in_bounds
returns-clause-taken_in_bounds c =
    let st = c.args.deframer in
    let buffer = c.args.buffer.now in
    let piece = c.args.piece.now in
    let from = c.args.from in
    let answer = c.deframe.ensures.value ∙ ap (λ (r : List ℕ). (deframed max_frame st buffer r).step) (whole piece from) in
    taken st buffer piece from (step_in_numbers c.deframe.result) (omega arith) answer
