-- The refusals in three steps, 41, those that need no size, and then 19 and 27, are those that `written` says of a record.
use Prim.Native.Nat.{ℕ, ◌+◌, ◌≤◌}
use mathlib.Core.Path.{◌≡◌, refl, sym, ◌∙◌}
use mathlib.Core.Bool.{Bool, true, false, not, cond}
use mathlib.Core.List.{List, ◌++◌}
use lib.ListN.{length, length-append}
use lib.Seq.{sets-eq}
use lib.Dec.{leb, eqb}
use native.Mathlib.Omega.{arith}
use borrow.Author.Tests.{leb-true, ne_eqb}
use Rattle.laws.proofs.Booleans.{kept}
use Rattle.laws.proofs.Tests.{fails, holds}
use Rattle.fixed_header.specs.Header.{ceiling_ok}
use Rattle.fixed_header.specs.Put.{fixed_header}
use Rattle.fixed_header.proofs.RoundTrip.{sixteen_bytes}
use Rattle.schema.specs.declared.Kind.{Kind}
use Rattle.records.specs.declared.Record.{Record}
use Rattle.records.specs.Content.{kind_of, record_id, record_version, row_count, slots_of}
use Rattle.writer_checks.specs.Grounds.{content_error}
use Rattle.writer.specs.Writing.{header_for, frame_of, size_error, write_error, Writing, refused_with, written}
use Rattle.writer.specs.Straight.{Did, message_in, frame_with, written_with, written_of}
use Rattle.std.proofs.Common.{Ok, Err}

frame_length : (kind : Kind) (id version : ℕ) (m body : List ℕ) → length (frame_with kind id version m body) ≡ 16 + length m + length body
frame_length kind id version m body =
    let h = header_for kind id version m body in
    length-append (fixed_header h ++ m) body ∙ rw (length-append (fixed_header h) m, sixteen_bytes h)

-- a number that is not 0 decides
chained : (in_range : Bool) (e size : ℕ) (good : Writing) (output : List ℕ)
    → cond (not in_range) (refused_with 41 output)
    (cond (eqb e 0) (cond (eqb size 0) good (refused_with size output)) (refused_with e output))
    ≡ cond (eqb (cond in_range (cond (eqb e 0) size e) 41) 0) good (refused_with (cond in_range (cond (eqb e 0) size e) 41) output)
chained false e size good output = refl
chained true e size good output = by (eqb e 0) refl
  where
    by : (b : Bool) → eqb e 0 ≡ b
        → cond b (cond (eqb size 0) good (refused_with size output)) (refused_with e output)
        ≡ cond (eqb (cond b size e) 0) good (refused_with (cond b size e) output)
    by true h = refl
    by false h = rw h

module _ (c : ℕ) where
  -- what is written of a record
  of_record : (r : Record) (source numbers body output : List ℕ)
      → written_of c (kind_of r) (record_id r) (record_version r) (slots_of r) (row_count r) source numbers body output
      ≡ written c r source numbers body output
  unfolding frame_of write_error
  of_record r source numbers body output =
      let m = message_in (kind_of r) (slots_of r) (row_count r) source numbers in
      rw (frame_length (kind_of r) (record_id r) (record_version r) m body)
      (chained (ceiling_ok c) (content_error (kind_of r) (slots_of r) (row_count r) source numbers (length body)) _ _ output)

  pub as_record : (r : Record) {kind : Kind} {id version : ℕ} {slots : List ℕ} {count : ℕ}
      → kind ≡ kind_of r → id ≡ record_id r → version ≡ record_version r → slots ≡ slots_of r → count ≡ row_count r
      → (source numbers body output : List ℕ)
      → written_of c kind id version slots count source numbers body output ≡ written c r source numbers body output
  as_record r e f v g h source numbers body output = rw (e, f, v, g, h) (of_record r source numbers body output)

  -- ---- what is answered

  -- no size is refused
  pub no_error : (total room : ℕ) → size_error c total room ≡ 0 → (total ≤ c) × (total ≤ room)
  unfolding size_error
  no_error total room e =
      let a = kept (leb total c) 19 _ (omega arith) e in
      let b = kept (leb total room) 27 0 (omega arith) a.1 in
      (leb-true _ _ a.0, leb-true _ _ b.0)

  module _ (kind : Kind) (id version : ℕ) (m body output : List ℕ) (e : ℕ)
      (is_e : e ≡ size_error c (16 + length m + length body) (length output)) where
    pub refused_size : (e ≡ 0 → ⊥)
        → (Err e ≡ (written_with c kind id version m body output).answer) × (output ≡ (written_with c kind id version m body output).output)
    refused_size h = (rw (← is_e, ne_eqb e 0 h), rw (← is_e, ne_eqb e 0 h))

    pub framed : e ≡ 0 → {r : ℕ} {after : List ℕ} → Did (frame_with kind id version m body) output 0 r after
        → (Ok r ≡ (written_with c kind id version m body output).answer) × (after ≡ (written_with c kind id version m body output).output)
    framed h {r} {after} p =
        let none : size_error c (16 + length m + length body) (length output) ≡ 0 = sym is_e ∙ h in
        let fits = no_error (16 + length m + length body) (length output) none in
        let from_start : 0 + length (frame_with kind id version m body) ≡ length (frame_with kind id version m body) = omega arith in
        let stored = sets-eq (frame_with kind id version m body) output 0 (omega (arith, frame_length kind id version m body)) in
        (rw (none, p.place, from_start), rw none (p.bytes ∙ stored ∙ rw from_start))

  module _ (kind : Kind) (id version : ℕ) (slots : List ℕ) (count : ℕ) (source numbers body output : List ℕ)
      {ok : Bool} (is_ok : ok ≡ ceiling_ok c) where
    pub refused_ceiling : not ok ≡ true
        → (Err 41 ≡ (written_of c kind id version slots count source numbers body output).answer)
        × (output ≡ (written_of c kind id version slots count source numbers body output).output)
    refused_ceiling h = (rw (fails is_ok h), rw (fails is_ok h))

    module _ (left : not ok ≡ false) (e : ℕ) (is_e : e ≡ content_error kind slots count source numbers (length body)) where
      pub refused_content : (e ≡ 0 → ⊥)
          → (Err e ≡ (written_of c kind id version slots count source numbers body output).answer)
          × (output ≡ (written_of c kind id version slots count source numbers body output).output)
      refused_content h = (rw (holds is_ok left, ← is_e, ne_eqb e 0 h), rw (holds is_ok left, ← is_e, ne_eqb e 0 h))

      pub accepted_content : e ≡ 0
          → written_with c kind id version (message_in kind slots count source numbers) body output
          ≡ written_of c kind id version slots count source numbers body output
      accepted_content h = rw (holds is_ok left, ← is_e, h)
