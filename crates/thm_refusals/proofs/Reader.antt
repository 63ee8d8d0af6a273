-- For a user: when `read` gives which number. `read_gives` is of any call, by its contract only.
--
-- Promised, for any ceiling, kind, frame and row numbers: 41; 16; 9; 3 to 7; 9; the grounds of the fields from left to right, 10 to 14
-- (`Fields`); 15; each exactly when its ground holds and none before it in the order does. Where none holds, the record and its parts are
-- handed over. All that is left, the row numbers too, is said for each case.
-- Not promised: what a record's fields are, which the definition of reading (crates `decoder`, `message`) and the round trip say.
-- Ruled out: a reader that gives 9 for a frame of the wrong kind whose header is bad, one that leaves row numbers after 10, one that
-- clears them after 9 or 41, and one that reads a frame longer than the ceiling.
-- Assumes nothing.
use Prim.Native.Nat.{ℕ, ◌<◌, ◌≤◌}
use mathlib.Core.Path.{◌≡◌, refl, sym, subst}
use mathlib.Core.Logic.{◌⊎◌, inl, inr}
use mathlib.Core.Bool.{Bool, true, false, cond, ◌&&◌}
use mathlib.Core.List.{List, [], ◌∷◌, ◌++◌}
use native.Mathlib.Omega.{arith}
use borrow.Author.Tests.{eq-eqb, le-leb, lt-leb}
use lib.Dec.{eqb, leb}
use lib.ListN.{length, take, get_or}
use Rattle.laws.proofs.Booleans.{clash}
use Rattle.fixed_header.specs.Header.{WrongCeiling, fault_of, total_of}
use Rattle.fixed_header.proofs.Codes.{first_sixteen, Code, fault_code}
use Rattle.decoder.specs.Rows.{row_numbers}
use Rattle.decoder.specs.Fields.{Result, ok, refused}
use Rattle.decoder.proofs.Results.{Sound, message_sound}
use Rattle.schema.specs.Kinds.{schema_of}
use Rattle.records.specs.Records.{attachment_size_of}
use Rattle.message.specs.Frames.{Reading, header_of, body_of, kind_fits, refused_untouched, refused_cleared, with_attachment, answered, read_frame}
use Rattle.schema.specs.declared.Kind.{Kind}
use Rattle.schema.specs.declared.Kind.TheVariants as kinds
use Rattle.thm_stream.specs.Trace.{Reads}
use Rattle.thm_stream.proofs.Traced.{all_read}
use Rattle.fixed_header.proofs.Ceilings.{ceiling_found, right_ceiling}
use Rattle.refusals.specs.Grounds.{Ground, ground_of, First, works, refuses, Exactly}
use Rattle.refusals.specs.Numbers.{in_use, Among}
use Rattle.refusals.proofs.Tests.{Finds, each, unlike, equal, below, at_most}
use Rattle.refusals.proofs.Order.{Outcome, end, when, when_not, unless, unless_two, unless_error, followed, exactly, first_split, decided}
use Rattle.refusals.proofs.Numbers.{in_range, first_in_use}
use Rattle.thm_refusals.specs.Header.{byte, faults}
use Rattle.thm_refusals.specs.Reader.{OfKind, field_grounds, fields_read, state_read, AttachmentLarger}
use Rattle.thm_refusals.specs.Reader.{answer_says, read_refusal, read_work, read_grounds, read_entry}
use Rattle.thm_refusals.specs.Fields.{result_says}
use Rattle.thm_refusals.proofs.Header.{faults_outcome, faults_numbered}
use Rattle.thm_refusals.proofs.Fields.{message_decides}

pub of_kind : (kind : Kind) (f : List ℕ) → Finds (kind_fits kind (get_or f 2 0) (get_or f 3 0)) (OfKind kind f)
unfolding kind_fits
of_kind kinds.Request f = equal (byte f 3) 0
of_kind kinds.Response f = equal (byte f 3) 0
of_kind kinds.Init f = each (equal (byte f 3) 1) (equal (byte f 4) 1)
of_kind kinds.Data f = each (equal (byte f 3) 1) (equal (byte f 4) 2)
of_kind kinds.Feedback f = each (equal (byte f 3) 1) (equal (byte f 4) 3)
of_kind kinds.Close f = each (equal (byte f 3) 1) (equal (byte f 4) 4)

module _ (kind : Kind) (f lent : List ℕ) where
  -- ---- the fields, and 15
  attachment_outcome : (x : Result) → result_says x ≡ works
      → Outcome (ground_of 15 (AttachmentLarger kind f x) ∷ []) (read_refusal lent) (read_work kind f lent (state_read x))
      (answered kind f lent x)
  unfolding answered with_attachment
  attachment_outcome (ok st) e = unless (at_most (attachment_size_of kind st.slots) (length (body_of kind f))) end
  attachment_outcome (refused code) e = clash cc

  fields_refused : (x : Result) → Sound x → (n : ℕ) → result_says x ≡ refuses n → answered kind f lent x ≡ read_refusal lent n
  unfolding answered
  fields_refused (ok st) s n e = clash cc
  fields_refused (refused code) s n e =
      let same : code ≡ n = cc in
      rw (← same, le-leb 10 code s.0, le-leb code 15 (omega (arith, s.1)))

  pub fields_outcome : Outcome (field_grounds kind f ++ ground_of 15 (AttachmentLarger kind f (fields_read kind f)) ∷ []) (read_refusal lent)
      (read_work kind f lent (state_read (fields_read kind f))) (answered kind f lent (fields_read kind f))
  fields_outcome =
      followed (field_grounds kind f) (message_decides f (schema_of kind) 16 (header_of kind f)) (attachment_outcome (fields_read kind f))
      (fields_refused (fields_read kind f) (message_sound f (schema_of kind) 16 (header_of kind f)))

  -- ---- a number of the header leaves the row numbers as they were
  header_number : (e : ℕ) → Code e → (later : Reading)
      → cond (eqb e 0) later (read_refusal lent e) ≡ cond (eqb e 0) later (refused_untouched e lent)
  header_number e (inl z) later = rw (eq-eqb e 0 z)
  header_number e (inr r) later = rw (lt-leb 10 e (omega arith))

  pub refusal_says : (n : ℕ) → answer_says (read_refusal lent n).answer ≡ refuses n
  refusal_says n = by (leb 10 n && leb n 15)
    where
      by : (b : Bool) → answer_says (cond b (refused_cleared n lent) (refused_untouched n lent)).answer ≡ refuses n
      by true = refl
      by false = refl

  -- ---- each number of the fields is in use, and 15
  by_fields : (x : Result) → Sound x → (n : ℕ) → result_says x ≡ refuses n → Among n in_use
  by_fields (ok st) s n e = clash cc
  by_fields (refused code) s n e = let same : code ≡ n = cc in rw (← same) (in_range 10 5 code refl s.0 (omega (arith, s.1)))

  fields_in_use : (n : ℕ) → First (field_grounds kind f) n → Among n in_use
  fields_in_use n first =
      by_fields (fields_read kind f) (message_sound f (schema_of kind) 16 (header_of kind f)) n
      (decided (field_grounds kind f) (message_decides f (schema_of kind) 16 (header_of kind f)) n first)

  abbrev attachment : List Ground
  attachment = ground_of 15 (AttachmentLarger kind f (fields_read kind f)) ∷ []

  last : (n : ℕ) → First (field_grounds kind f) n ⊎ First attachment n → Among n in_use
  last n (inl first) = fields_in_use n first
  last n (inr first) = first_in_use attachment refl n first

module _ (c : ℕ) (kind : Kind) (f lent : List ℕ) where
  -- ---- the header
  pub header_outcome : {hs : List Ground} {work later : Reading} (e : ℕ) → Code e → Outcome (faults c (take 16 f)) (λ n. n) 0 e
      → Outcome hs (read_refusal lent) work later
      → Outcome (faults c (take 16 f) ++ hs) (read_refusal lent) work (cond (eqb e 0) later (refused_untouched e lent))
  header_outcome {hs} {work} {later} e code o l =
      subst (Outcome (faults c (take 16 f) ++ hs) (read_refusal lent) work) (header_number kind f lent e code later)
      (unless_error (faults c (take 16 f)) e (faults_numbered c (take 16 f)) o l)

  -- ---- all
  read_outcome : Outcome (read_entry c kind f lent).grounds (read_refusal lent) (read_entry c kind f lent).work (read_frame c kind f lent)
  unfolding read_frame
  read_outcome =
      when_not (ceiling_found c)
      (λ right. when (below (length lent) row_numbers)
      (when_not (below (length f) 16)
      (λ (short : length f < 16 → ⊥). let long : 16 ≤ length f = omega arith in
      rw (first_sixteen c (right_ceiling c right) f long)
      (header_outcome (fault_of c (take 16 f)) (fault_code c (take 16 f)) (faults_outcome c (take 16 f))
      (unless_two (unlike (equal (length f) (total_of f))) (unlike (of_kind kind f))
      (fields_outcome kind f lent))))))

  pub read_exactly : Exactly (read_entry c kind f lent) (read_frame c kind f lent)
  read_exactly =
      exactly (read_entry c kind f lent) (read_frame c kind f lent)
      (λ none. refl)
      (λ n first. refusal_says kind f lent n) read_outcome

  -- of the function itself, by its contract
  pub read_gives : (x : Reading) → Reads c kind f lent x → Exactly (read_entry c kind f lent) x
  read_gives x is = subst (Exactly (read_entry c kind f lent)) (sym (all_read c kind f lent x is)) read_exactly

  -- ---- each number is in use
  abbrev before_fields : List Ground
  before_fields =
      ground_of 41 (WrongCeiling c)
      ∷ ground_of 16 (length lent < row_numbers)
      ∷ ground_of 9 (length f < 16)
      ∷ (faults c (take 16 f) ++ ground_of 9 (length f ≡ total_of f → ⊥) ∷ ground_of 9 (OfKind kind f → ⊥) ∷ [])

  pub read_in_use : (n : ℕ) → First (read_grounds c kind f lent) n → Among n in_use
  read_in_use n first = by (first_split before_fields (field_grounds kind f ++ attachment kind f lent) n first)
    where
      by : First before_fields n ⊎ First (field_grounds kind f ++ attachment kind f lent) n → Among n in_use
      by (inl before) = first_in_use before_fields refl n before
      by (inr later) = last kind f lent n (first_split (field_grounds kind f) (attachment kind f lent) n later)
