-- What the writer gives of the record that the numbers are.
use Prim.Native.Nat.{ℕ}
use mathlib.Core.Path.{◌≡◌, refl, ap, ap₂, ◌∙◌}
use mathlib.Core.List.{List}
use lib.ListN.{get_or}
use Rattle.std.specs.Prelude.{Result, Ok, Err}
use Rattle.refusals.specs.Refusals.{in_numbers, code_of}
use Rattle.refusals.specs.declared.Refusal.{Refusal}
use Rattle.records.specs.Records.{record_of}
use Rattle.writer.specs.Writing.{Writing, written, error_of, count_of}
use Rattle.bekurapi.proofs.kinds.write_as.Goals as goal

coded : (a : Result ℕ Refusal) → code_of a ≡ error_of (in_numbers a)
unfolding error_of
coded (Ok size) = refl
coded (Err refusal) = refl

pub returns : goal.returns
returns c =
    let numbers = c.args.«record».now in
    let same = ap₂ (λ (v : ℕ) (x : List ℕ). written c.args.ceiling (record_of c.args.kind (get_or numbers 0 0) v x (get_or numbers 1 0)) c.args.source.now
    c.args.rows.now c.args.body.now c.args.out.now) c.version_of.ensures c.fields_of-fields.ensures in
    let wrote = c.write_slots-encoded.ensures in
    let answer = wrote.0 ∙ ap (λ (x : Writing). x.answer) same in
    record {
      code_is = c.error_of.ensures ∙ coded c.write_slots-encoded.result ∙ ap error_of answer;
      size_is = c.encoded_size.ensures ∙ ap count_of answer;
      output_is = wrote.1 ∙ ap (λ (x : Writing). x.output) same;
    }
