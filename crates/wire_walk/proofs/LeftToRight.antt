-- The walk with a reader.
--
-- It promises, of any reader, whatever its bytes and its place, that calls of `next`, each on the reader that the one before answered,
-- give the fields of the bytes from its place on, from left to right, each with its place, then the end or the refusal; and that from
-- there on the reader stays and every call gives the same (`Walks`, in specs/Walk.antt). The terms are those of the contract of `next`,
-- `next_of`.
--
-- It does not say what a field means to a message.
--
-- It rules out a reader that leaves out a field or gives one twice (`fields`), and one that moves on after the end or a refusal (`stays`).
use Prim.Native.Nat.{ℕ, zero, suc, pred, ◌+◌, ◌≤◌}
use mathlib.Core.Path.{◌≡◌, refl, sym, ap, ap₂, subst, ◌∙◌}
use mathlib.Core.List.{List, [], ◌∷◌}
use lib.ListN.{length, drop, length-drop}
use lib.Seq.{drop-drop}
use native.Mathlib.Omega.{arith}
use denote.Ref.{Bor}
use Rattle.wire_read.specs.Fields.{FieldResult, next_field}
use Rattle.std.specs.Prelude.{Some, None, Ok, Err}
use Rattle.wire_read.specs.Placed.{FieldAnswer, field_at}
use Rattle.wire_walk.specs.Reader.{used_by, place_behind, stepped, step_at, reader_of, next_of, found_by, reader_after}
use Rattle.wire_walk.specs.Reader.{moved as moved_to}
use Rattle.wire_walk.specs.Walk.{walk, placed, bytes_taken, answers_of, after, Walks}
use Rattle.wire_walk.specs.declared.FieldReader.{FieldReader}
use Rattle.wire_walk.proofs.StepLaws.{used_in, used_none, used_error}
use Rattle.wire_walk.proofs.WalkLaws.{walk_last, walk_more, walk_some}

-- the reader at another place of its bytes
abbrev moved : FieldReader → ℕ → FieldReader
moved r at = record { bytes = r.bytes; at = at }

module _ (r : FieldReader) where
  -- what is left of its bytes, and the field there
  abbrev left : List ℕ
  left = drop r.at r.bytes.now

  abbrev found : FieldResult
  found = next_field left

  next_field_lem : found_by (next_of r) ≡ field_at r.at found
  unfolding step_at
  next_field_lem = by (field_at r.at found)
    where
      by : (x : FieldAnswer) → found_by (moved_to r.bytes (stepped (place_behind r.bytes.now r.at) x)) ≡ x
      by (Ok None) = refl
      by (Ok (Some f)) = refl
      by (Err code) = refl

  next_reader : reader_after r (next_of r) ≡ moved r (r.at + used_by found)
  unfolding step_at place_behind
  next_reader = by (field_at r.at found) refl
    where
      by : (x : FieldAnswer) → field_at r.at found ≡ x
          → reader_after r (moved_to r.bytes (stepped (r.at + used_by found) x)) ≡ moved r (r.at + used_by found)
      by (Ok None) q = let none = used_none r.at found q in ap (moved r) (omega arith)
      by (Ok (Some f)) q = refl
      by (Err code) q = let none = used_error r.at found q in ap (moved r) (omega arith)

  -- at the end and at a refusal it stays, however often it is asked
  at_rest : used_by found ≡ 0 → (n : ℕ) → after n r ≡ r
  unfolding after
  at_rest e zero = refl
  at_rest e (suc n) =
      let same : reader_after r (next_of r) ≡ r = next_reader ∙ ap (moved r) (omega arith) in
      ap (after n) same ∙ at_rest e n

  walks_last : used_by found ≡ 0 → Walks r (found ∷ [])
  unfolding answers_of placed bytes_taken
  walks_last e =
      record {
        fields = ap (λ (x : FieldAnswer). x ∷ []) next_field_lem;
        stays = λ n. let none : 0 + n ≡ n = omega arith in ap (λ (k : ℕ). after k r) none ∙ at_rest e n ∙ ap (moved r) (omega arith);
      }

  walks_more : (w : List FieldResult) → length w ≡ suc (pred (length w)) → Walks (moved r (r.at + used_by found)) w → Walks r (found ∷ w)
  unfolding answers_of after placed bytes_taken step_at place_behind
  walks_more w some h =
      record {
        fields = ap₂ (λ (x : FieldAnswer) (xs : List FieldAnswer). x ∷ xs) next_field_lem (ap (answers_of (length w)) next_reader ∙ h.fields);
        stays =
            λ n. let one : length w + n ≡ suc (pred (length w) + n) = omega arith in ap (λ (k : ℕ). after k r) one
            ∙ ap (after (pred (length w) + n)) next_reader ∙ h.stays n ∙ ap (moved r) (omega arith);
      }

  -- `more` is the walk after a field that was found
  walks_by : (n : ℕ) → used_by found ≡ n → ((m : ℕ) → n ≡ suc m → Walks (moved r (r.at + used_by found)) (walk (drop (suc m) left)))
      → Walks r (walk left)
  walks_by zero e more = subst (Walks r) (sym (walk_last left e)) (walks_last e)
  walks_by (suc m) e more =
      let rest = drop (suc m) left in
      subst (Walks r) (sym (walk_more left m e)) (walks_more (walk rest) (walk_some rest) (more m refl))

-- each field takes some of the bytes left, of which there are at most `k`
walks_in : (k : ℕ) (r : FieldReader) → length (left r) ≤ k → Walks r (walk (left r))
walks_in zero r h = walks_by r (used_by (found r)) refl (λ m e. let z : ⊥ = omega (arith, used_in (left r)) in absurd z)
walks_in (suc k) r h =
    let used = used_by (found r) in
    let s = r.bytes.now in
    walks_by r used refl
    (λ m e.
    let rest : drop (r.at + used) s ≡ drop (suc m) (left r) = sym (drop-drop used r.at s) ∙ ap (λ (n : ℕ). drop n (left r)) e in
    let fewer : length (drop (r.at + used) s) ≤ k = rw rest (omega (arith, length-drop (suc m) (left r))) in
    subst (λ (l : List ℕ). Walks (moved r (r.at + used)) (walk l)) rest (walks_in k (moved r (r.at + used)) fewer))

-- from any reader
pub left_to_right : (r : FieldReader) → Walks r (walk (drop r.at r.bytes.now))
left_to_right r = walks_in (length (left r)) r (omega arith)

-- from a new one: all fields of the bytes
pub from_the_first : (s : Bor (List ℕ)) → Walks (reader_of s) (walk s.now)
from_the_first s = left_to_right (reader_of s)
