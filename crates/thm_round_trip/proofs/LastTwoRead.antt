-- For a user: a reader accepts all versions and ignores byte 16 (document 02, P2), on the definition that the contracts of `read` and
-- `read_spans` name, and of calls of `read`.
--
-- Promised, for every ceiling and kind and any row numbers lent, of two frames of one length that agree on their first 14 bytes and on all
-- bytes after the 16th: they are read alike but for the version (`only_the_version`). Both are refused with the same number, or both are
-- read, and then every number, start, length and present mark of the records, the row numbers, and the bytes of header, body and attachment
-- are the same; the version is that of the frame's own byte 15. If they agree on byte 15, too, then all of it is the same
-- (`byte_16_ignored`). Two calls of `read` under one ceiling that gave what its contract ensures gave just that
-- (`called_only_the_version`, `called_byte_16_ignored`).
-- Not promised: what the frames' other bytes are read as, which the round trip says.
-- Ruled out: a reader that refuses a version or reads the fields of one version in another way, one that looks at byte 16, and one that
-- takes a key, or any other part of a message, from the 16 bytes before it.
-- Assumes nothing.
use Prim.Native.Nat.{ℕ, ◌+◌}
use mathlib.Core.Path.{◌≡◌, refl, sym, ap, ap₂, subst, ◌∙◌}
use mathlib.Core.Bool.{Bool, true, false, not, cond, ◌&&◌}
use mathlib.Core.List.{List, []}
use native.Mathlib.Omega.{arith}
use lib.Dec.{eqb, ltb, leb}
use lib.ListN.{length, take, drop, get_or}
use lib.Seq.{drop-drop}
use Rattle.fixed_header.specs.Header.{ceiling_ok, header_error, total_of, header_size_of, id_of, version_of}
use Rattle.fixed_header.proofs.LastTwo.{same_byte, same_total, same_header_size, same_id, first_error, same_14, same_version}
use Rattle.decoder.specs.Rows.{row_numbers, laid_out}
use Rattle.decoder.specs.Fields.{State, Result, ok, refused, read_message}
use Rattle.decoder.proofs.BytesSeen.{message_same}
use Rattle.schema.specs.Kinds.{schema_of}
use Rattle.schema.specs.declared.Kind.{Kind}
use Rattle.schema.specs.declared.Kind.TheVariants as kinds
use Rattle.records.specs.Records.{record_of, attachment_size_of}
use Rattle.message.specs.Frames.{Reading, header_of, body_of, kind_fits, refused_untouched, with_attachment, answered, read_frame}
use Rattle.thm_stream.specs.Trace.{Reads}
use Rattle.thm_stream.proofs.Traced.{all_read}
use Rattle.thm_round_trip.specs.Versions.{versioned, reading_versioned}

-- a record is made with one version as with another
record_versioned : (kind : Kind) (id v w : ℕ) (slots : List ℕ) (count : ℕ)
    → record_of kind id w slots count ≡ versioned w (record_of kind id v slots count)
unfolding record_of versioned
record_versioned kinds.Request id v w slots count = refl
record_versioned kinds.Response id v w slots count = refl
record_versioned kinds.Init id v w slots count = refl
record_versioned kinds.Data id v w slots count = refl
record_versioned kinds.Feedback id v w slots count = refl
record_versioned kinds.Close id v w slots count = refl

-- y is the reading x with the version w
record Versioned (w : ℕ) (x y : Reading) : Type 0 where
  is : y ≡ reading_versioned w x

-- both readings take the same case of a test
same_case : (w : ℕ) (b c : Bool) {x y x' y' : Reading} → b ≡ c → Versioned w x x' → Versioned w y y'
    → Versioned w (cond b x y) (cond c x' y')
same_case w true c e p q = rw (← e) p
same_case w false c e p q = rw (← e) q

refused_alike : (w code : ℕ) (lent : List ℕ) → Versioned w (refused_untouched code lent) (refused_untouched code lent)
refused_alike w code lent = record { is = refl }

module _ (f g : List ℕ) (long : length f ≡ length g) (front : take 14 f ≡ take 14 g) (tail : drop 16 f ≡ drop 16 g) where
  same_error : (c : ℕ) → header_error c (take 16 f) ≡ header_error c (take 16 g)
  same_error = first_error f g long front

  same_header : (kind : Kind) → header_of kind f ≡ header_of kind g
  unfolding header_of
  same_header kinds.Request = ap₂ take (same_header_size f g front) tail
  same_header kinds.Response = ap₂ take (same_header_size f g front) tail
  same_header kinds.Init = tail
  same_header kinds.Data = refl
  same_header kinds.Feedback = tail
  same_header kinds.Close = tail

  after_header : drop (16 + header_size_of f) f ≡ drop (16 + header_size_of g) g
  after_header =
      sym (drop-drop (header_size_of f) 16 f) ∙ ap₂ drop (same_header_size f g front) tail ∙ drop-drop (header_size_of g) 16 g

  same_body : (kind : Kind) → body_of kind f ≡ body_of kind g
  unfolding body_of
  same_body kinds.Request = after_header
  same_body kinds.Response = after_header
  same_body kinds.Init = refl
  same_body kinds.Data = tail
  same_body kinds.Feedback = refl
  same_body kinds.Close = refl

  module _ (kind : Kind) (lent : List ℕ) where
    abbrev Same : (x y : Reading) → Type 0
    Same x y = Versioned (version_of g) x y

    same_read : (st : State) → Same (with_attachment kind f lent st) (with_attachment kind g lent st)
    unfolding with_attachment
    same_read st =
        let slots = st.slots in
        let size = attachment_size_of kind slots in
        let count = length st.rows in
        let made = record_versioned kind (id_of g) (version_of f) (version_of g) slots count in
        same_case (version_of g) _ _ (ap (λ (l : List ℕ). leb size (length l)) (same_body kind))
        (record { is = rw (same_id f g front, same_header kind, same_body kind, made) refl })
        (refused_alike (version_of g) 15 (laid_out [] lent))

    same_answer : (o : Result) → Same (answered kind f lent o) (answered kind g lent o)
    unfolding answered
    same_answer (ok st) = same_read st
    same_answer (refused code) = refused_alike (version_of g) code (laid_out [] lent)

    same_message : read_message f (schema_of kind) 16 (header_of kind f) ≡ read_message g (schema_of kind) 16 (header_of kind g)
    same_message =
        message_same 16 f g tail (schema_of kind) 16 (header_of kind f) (omega arith)
        ∙ ap (read_message g (schema_of kind) 16) (same_header kind)

    same_fit : eqb (length f) (total_of f) && kind_fits kind (get_or f 2 0) (get_or f 3 0)
        ≡ eqb (length g) (total_of g) && kind_fits kind (get_or g 2 0) (get_or g 3 0)
    same_fit = rw (long, same_total f g front, same_byte f g front 2 (omega arith), same_byte f g front 3 (omega arith)) refl

    same_frame : (c : ℕ) → Same (read_frame c kind f lent) (read_frame c kind g lent)
    unfolding read_frame
    same_frame c =
        let w = version_of g in
        let o = read_message f (schema_of kind) 16 (header_of kind f) in
        let bad = not (ceiling_ok c) in
        let few = ltb (length lent) row_numbers in
        same_case w bad bad refl (refused_alike w 41 lent)
        (same_case w few few refl (refused_alike w 16 lent)
        (same_case w _ _ (ap (λ (n : ℕ). ltb n 16) long) (refused_alike w 9 lent)
        (same_case w _ _ (ap (λ (n : ℕ). eqb n 0) (same_error c))
        (same_case w _ _ same_fit
        (subst (λ (p : Result). Same (answered kind f lent o) (answered kind g lent p)) same_message (same_answer o))
        (refused_alike w 9 lent))
        (subst (λ (code : ℕ). Same (refused_untouched (header_error c (take 16 f)) lent) (refused_untouched code lent)) (same_error c)
        (refused_alike w (header_error c (take 16 f)) lent)))))

pub only_the_version : (c : ℕ) (kind : Kind) (f g lent : List ℕ) → length f ≡ length g → take 14 f ≡ take 14 g → drop 16 f ≡ drop 16 g
    → read_frame c kind g lent ≡ reading_versioned (version_of g) (read_frame c kind f lent)
only_the_version c kind f g lent long front tail = (same_frame f g long front tail kind lent c).is

pub byte_16_ignored : (c : ℕ) (kind : Kind) (f g lent : List ℕ) → length f ≡ length g → take 15 f ≡ take 15 g → drop 16 f ≡ drop 16 g
    → read_frame c kind g lent ≡ read_frame c kind f lent
byte_16_ignored c kind f g lent long front tail =
    only_the_version c kind f g lent long (same_14 f g front) tail
    ∙ ap (λ (v : ℕ). reading_versioned v (read_frame c kind f lent)) (sym (same_version f g front))
    ∙ sym (only_the_version c kind f f lent refl refl refl)

-- ---- calls of `read` under one ceiling: x is what the call on f gave, y what the call on g gave
pub called_only_the_version : (c : ℕ) (kind : Kind) (f g lent : List ℕ) (x y : Reading)
    → length f ≡ length g → take 14 f ≡ take 14 g → drop 16 f ≡ drop 16 g → Reads c kind f lent x → Reads c kind g lent y
    → y ≡ reading_versioned (version_of g) x
called_only_the_version c kind f g lent x y long front tail reads_f reads_g =
    all_read c kind g lent y reads_g
    ∙ only_the_version c kind f g lent long front tail
    ∙ ap (reading_versioned (version_of g)) (sym (all_read c kind f lent x reads_f))

pub called_byte_16_ignored : (c : ℕ) (kind : Kind) (f g lent : List ℕ) (x y : Reading)
    → length f ≡ length g → take 15 f ≡ take 15 g → drop 16 f ≡ drop 16 g → Reads c kind f lent x → Reads c kind g lent y
    → y ≡ x
called_byte_16_ignored c kind f g lent x y long front tail reads_f reads_g =
    all_read c kind g lent y reads_g ∙ byte_16_ignored c kind f g lent long front tail ∙ sym (all_read c kind f lent x reads_f)
