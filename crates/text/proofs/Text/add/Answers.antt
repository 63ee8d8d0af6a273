-- The word is copied to its place, unless it ends past the buffer.
use Rattle.std.proofs.Common.{ℕ, ◌+◌, ◌≡◌, ◌≤◌, length, Option, IfSome, IsNone}
use mathlib.Core.Path.{refl, subst}
use Rattle.text.specs.Added.{place_of}
use Rattle.text.proofs.Adding.{adds_nothing, adds_word, length_added, new_length, no_length}
use Rattle.text.proofs.Text.add.Goals as goal

pub returns-in-None : goal.returns-in-None
returns-in-None c =
    let none : IsNone c.place_after.result = rw c.in-None.is refl in
    record {
      text = adds_nothing c.args.word.now c.args.self.now.bytes.now (place_of c.args.self.now.len) (c.place_after.ensures.no_room none);
      len_is = no_length c.args.word.now c.args.self.now.bytes.now (place_of c.args.self.now.len) (c.place_after.ensures.no_room none);
      same_length = refl;
      same_buffer = refl;
    }

pub returns-in-Some : goal.returns-in-Some
returns-in-Some c =
    let word = c.args.word.now in
    let text = c.args.self.now.bytes.now in
    let at = place_of c.args.self.now.len in
    let fits = subst (λ (o : Option ℕ). IfSome o (λ (end : ℕ). (end ≡ at + length word) × (end ≤ length text))) c.in-Some.is c.place_after.ensures.fits in
    let line = adds_word text word _ at c.in-Some.end fits c.copy_from_slice.ensures.after in
    record {
      text = line;
      len_is = new_length word text at _ fits;
      same_length = length_added word text at _ _ line;
      same_buffer = refl;
    }
