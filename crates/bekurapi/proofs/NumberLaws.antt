-- The numbers of a record, number by number
use Prim.Native.Nat.{ℕ}
use mathlib.Core.Path.{◌≡◌, refl}
use mathlib.Core.List.{List, [], ◌∷◌, ◌++◌}
use Rattle.message.specs.Spans.{Spans}
use Rattle.bekurapi.specs.Numbers.{answer_id, answer_version, answer_rows, answer_slots, numbers_of}

pub to_numbers : (l : Spans) {id version rows : ℕ} {fields : List ℕ} → id ≡ answer_id l.answer → version ≡ answer_version l.answer
    → rows ≡ answer_rows l.answer → fields ≡ answer_slots l.answer
    → id ∷ rows ∷ l.header.start ∷ l.header.len ∷ l.body.start ∷ l.body.len ∷ l.attachment.start ∷ l.attachment.len
    ∷ fields ++ version ∷ []
    ≡ numbers_of l
to_numbers l e v f g = rw (e, v, f, g) refl
