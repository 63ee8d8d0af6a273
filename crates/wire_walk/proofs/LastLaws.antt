-- The loop of `last_field`: what is found so far and the answers still to come give what all of them give.
use Prim.Native.Nat.{ℕ, ◌-◌, ◌<◌}
use mathlib.Core.Path.{◌≡◌, refl, sym, ap, ◌∙◌}
use mathlib.Core.Bool.{Bool, true, false, cond}
use mathlib.Core.List.{List, [], ◌∷◌}
use lib.ListN.{length, drop}
use native.Mathlib.Omega.{arith}
use Rattle.std.specs.Prelude.{Option, Some, None, Ok, Err}
use Rattle.wire_read.specs.Fields.{next_field}
use Rattle.wire_read.specs.Placed.{FieldAnswer}
use Rattle.wire_read.specs.declared.Field.{Field}
use Rattle.wire_walk.specs.Reader.{used_by, place_behind, step_at}
use Rattle.wire_walk.specs.Last.{replaces, last_of}
use Rattle.wire_walk.specs.declared.Step.{Step}
use Rattle.wire_walk.proofs.StepLaws.{place_within, step_end, step_error, step_some, used_none, used_error, used_some}
use Rattle.wire_walk.proofs.WalkLaws.{answers_from, answers_last, answers_more}

module _ (s : List ℕ) (at tag : ℕ) (found : Option Field) {whole : FieldAnswer}
    (rest : last_of tag (Ok found) (answers_from s at) ≡ whole) where
  pub none_left : Ok None ≡ step_at s at → Ok found ≡ whole
  unfolding last_of
  none_left e =
      let h = step_end s at e in
      let last = answers_last s at (used_none at (next_field (drop at s)) h) in
      ap (last_of tag (Ok found)) (ap (λ (x : FieldAnswer). x ∷ []) (sym h) ∙ sym last) ∙ rest

  pub refusal : {code : ℕ} → Err code ≡ step_at s at → Err code ≡ whole
  unfolding last_of
  refusal e =
      let h = step_error s at e in
      let last = answers_last s at (used_error at (next_field (drop at s)) h) in
      ap (last_of tag (Ok found)) (ap (λ (x : FieldAnswer). x ∷ []) (sym h) ∙ sym last) ∙ rest

  module _ {step : Step} (e : Ok (Some step) ≡ step_at s at) where
    some : 0 < used_by (next_field (drop at s))
    some = used_some (drop at s) at (step_some s at e).0

    moves : at < place_behind s at
    unfolding place_behind
    moves = omega (arith, some)

    -- a step leaves fewer bytes
    pub less_left : length s - step.at < length s - at
    less_left = omega (arith, (step_some s at e).1, moves, place_within s at moves)

    pub goes_on : {next : Option Field} → next ≡ cond (replaces tag (Ok (Some step.field))) (Some step.field) found
        → last_of tag (Ok next) (answers_from s step.at) ≡ whole
    unfolding last_of
    goes_on {next = next} is-next =
        let h = step_some s at e in
        let more : answers_from s at ≡ Ok (Some step.field) ∷ answers_from s step.at = answers_more s at some ∙ rw (h.0, h.1) in
        let chosen : Ok next ≡ cond (replaces tag (Ok (Some step.field))) (Ok (Some step.field)) (Ok found) =
        ap Ok is-next ∙ by (replaces tag (Ok (Some step.field))) in
        ap (λ (x : FieldAnswer). last_of tag x (answers_from s step.at)) chosen ∙ ap (last_of tag (Ok found)) (sym more) ∙ rest
      where
        by : (b : Bool) → ◌≡◌ {A = FieldAnswer} (Ok (cond b (Some step.field) found)) (cond b (Ok (Some step.field)) (Ok found))
        by true = refl
        by false = refl
