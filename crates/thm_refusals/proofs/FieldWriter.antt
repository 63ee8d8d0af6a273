-- For a user: when the writers of a field give which number.
--
-- Promised, for any output, place and value: `write_varint` and `write_raw` give 27, `write_tag` and `write_bytes` give 11 and then 27,
-- each exactly when its ground holds and none before it does. A refusal leaves the output untouched. With no ground the bytes are written,
-- and nothing else of the output changes.
-- Not promised: that what is written reads back, which `wire_write` says (proofs/ReadBack).
-- Ruled out: a writer that gives 27 for a tag of field 0, one that refuses an output with exactly enough room, and one that stores what
-- it refuses.
-- Assumes nothing.
use Prim.Native.Nat.{ℕ, ◌+◌, ◌*◌, ◌^◌, ◌<◌}
use mathlib.Core.Path.{◌≡◌, refl, sym, ap₂, subst, ◌∙◌}
use mathlib.Core.Bool.{Bool, true, false, cond}
use mathlib.Core.List.{List, ◌++◌}
use lib.ListN.{length, take, drop}
use seplogic.Ra.Ura.{Ura}
use base.Logic.{SProp}
use base.Fml.{Lft}
use prog.Memory.{Memory}
use prog.Routine.{Routine}
use types.Logic.{Logic}
use contract.Monad.{Fun, fact}
use denote.Ref.{Bor, MutBor}
use denote.Triple.Clauses.{at_exit}
use Rattle.std.specs.Prelude.{Result}
use Rattle.refusals.specs.Refusals.{in_numbers}
use Rattle.refusals.specs.declared.Refusal.{Refusal}
use Rattle.copying.specs.Stored.{fits, stored}
use Rattle.wire_write.specs.Writing.{put_varint, put_tag, put_bytes, good_tag, first_ground, answer}
use Rattle.wire_write.specs.Writing.{written_at, tag_stored, tag_written}
use Rattle.wire_write.specs.contracts.write_varint as write_varint
use Rattle.wire_write.specs.contracts.write_tag as write_tag
use Rattle.wire_write.specs.contracts.write_raw as write_raw
use Rattle.wire_write.specs.contracts.write_bytes as write_bytes
use Rattle.refusals.specs.Grounds.{Exactly}
use Rattle.refusals.proofs.Tests.{Finds, each, unlike, below, at_most}
use Rattle.refusals.proofs.Order.{Outcome, end, unless, exactly}
use Rattle.thm_refusals.specs.FieldWriter.{FieldWriting, untouched_output, whole_written, raw_entry, tag_entry, Raw, Tagged}

both_are : (r : FieldWriting) {a : Result ℕ ℕ} {o : List ℕ} → r.answer ≡ a → r.output ≡ o
    → r ≡ record { answer = a; output = o }
both_are r e f = ap₂ (λ (a : Result ℕ ℕ) (o : List ℕ). record { answer = a; output = o }) e f

good_tag_lem : (n w : ℕ) → Finds (good_tag n w) ((n * 8 + w < 2 ^ 32) × ((0 < n) × (w < 6)))
unfolding good_tag
good_tag_lem n w = each (below (n * 8 + w) (2 ^ 32)) (each (below 0 n) (below w 6))

module _ (out : List ℕ) (at : ℕ) (x : List ℕ) where
  -- the answer and the output go by the same tests
  together : (good room : Bool)
      → record {
        answer = answer (first_ground good room) (at + length x);
        output = cond good (cond room (take at out ++ x ++ drop (at + length x) out) out) out;
      }
      ≡ cond good (cond room (whole_written out at x) (untouched_output out 27)) (untouched_output out 11)
  together true true = refl
  together true false = refl
  together false room = refl

  pub raw_exactly : (r : FieldWriting) → Raw out at x r → Exactly (raw_entry out at x) r
  unfolding written_at stored
  raw_exactly r e =
      exactly (raw_entry out at x) r (λ none. refl) (λ n first. refl)
      (subst (Outcome (raw_entry out at x).grounds (untouched_output out) (whole_written out at x))
      (sym (both_are r e.0 e.1 ∙ together true (fits out at x)))
      (unless (at_most (at + length x) (length out)) end))

  pub tagged_exactly : (n w : ℕ) (r : FieldWriting) → Tagged n w out at x r → Exactly (tag_entry n w out at x) r
  unfolding tag_written tag_stored stored
  tagged_exactly n w r e =
      exactly (tag_entry n w out at x) r (λ none. refl) (λ n first. refl)
      (subst (Outcome (tag_entry n w out at x).grounds (untouched_output out) (whole_written out at x))
      (sym (both_are r e.0 e.1 ∙ together (good_tag n w) (fits out at x)))
      (unless (unlike (good_tag_lem n w)) (unless (at_most (at + length x) (length out)) end)))

-- ---- and that this is what the contracts say, by computation
module _ {M : Type 1} {𝓤 : Ura M} (𝓛 : Logic 𝓤) (mem : Memory → SProp 𝓤)
    (run : Routine → Fun 𝓤) (κ ι : Lft) (at : ℕ) (out : MutBor (List ℕ)) (r : Result ℕ Refusal) (after : List ℕ) where
  pub write_varint_ensures : (v : ℕ)
      → (write_varint.clauses 𝓛 mem run (κ, tt) (v, (out, (at, tt)))).ensures tt r
      (at_exit write_varint.ended (κ, tt) (v, (out, (at, tt))) (tt, (after, (tt, tt))))
      ≡ fact 𝓤 (Raw out.now at (put_varint v) (record { answer = in_numbers r; output = after }))
  write_varint_ensures v = refl

  pub write_tag_ensures : (n w : ℕ)
      → (write_tag.clauses 𝓛 mem run (κ, tt) (n, (w, (out, (at, tt))))).ensures tt r
      (at_exit write_tag.ended (κ, tt) (n, (w, (out, (at, tt)))) (tt, (tt, (after, (tt, tt)))))
      ≡ fact 𝓤 (Tagged n w out.now at (put_tag n w) (record { answer = in_numbers r; output = after }))
  write_tag_ensures n w = refl

  pub write_raw_ensures : (content : Bor (List ℕ))
      → (write_raw.clauses 𝓛 mem run (κ, (ι, tt)) (content, (out, (at, tt)))).ensures tt r
      (at_exit write_raw.ended (κ, (ι, tt)) (content, (out, (at, tt))) (tt, (after, (tt, tt))))
      ≡ fact 𝓤 (Raw out.now at content.now (record { answer = in_numbers r; output = after }))
  write_raw_ensures content = refl

  pub write_bytes_ensures : (n : ℕ) (content : Bor (List ℕ))
      → (write_bytes.clauses 𝓛 mem run (κ, (ι, tt)) (n, (content, (out, (at, tt))))).ensures tt r
      (at_exit write_bytes.ended (κ, (ι, tt)) (n, (content, (out, (at, tt)))) (tt, (tt, (after, (tt, tt)))))
      ≡ fact 𝓤 (Tagged n 2 out.now at (put_bytes n content.now) (record { answer = in_numbers r; output = after }))
  write_bytes_ensures n content = refl
