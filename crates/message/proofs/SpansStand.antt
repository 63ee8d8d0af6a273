-- The bytes of the frame at a part's start and length are the part: `spans_stand`, for every ceiling, frame, kind and lent row numbers,
-- refused ones too. It rules out a span of the right length at another place, and one that reaches past the frame.
use Prim.Native.Nat.{ℕ, ◌+◌, ◌-◌}
use mathlib.Core.Path.{◌≡◌, refl, sym, ap, ◌∙◌}
use mathlib.Core.Bool.{Bool, true, false, not, cond, ◌&&◌}
use mathlib.Core.List.{List, [], ◌∷◌}
use native.Mathlib.Omega.{arith}
use borrow.Author.Tests.{eqb-true, ltb-true, ltb-false}
use lib.Dec.{eqb, ltb, leb}
use lib.ListN.{length, take, drop, get_or, length-drop, drop_of_length-le}
use lib.Seq.{length-take-le, take_all, drop-drop, drop-length}
use Rattle.fixed_header.specs.Header.{ceiling_ok, header_error, total_of, header_size_of, id_of, version_of}
use Rattle.decoder.specs.Rows.{row_numbers, laid_out}
use Rattle.decoder.specs.Fields.{Result, ok, refused, read_message}
use Rattle.schema.specs.Kinds.{schema_of}
use Rattle.records.specs.Records.{record_of, attachment_size_of}
use Rattle.message.specs.Frames.{Reading, header_of, body_of, last_bytes, kind_fits}
use Rattle.message.specs.Frames.{refused_untouched, with_attachment, answered, read_frame}
use Rattle.message.specs.Spans.{span_from, bytes_at, spans_of}
use Rattle.std.specs.Prelude.{Ok}
use Rattle.schema.specs.declared.Kind.{Kind}
use Rattle.schema.specs.declared.Kind.TheVariants as kinds

pub record Stands (f : List ℕ) (x : Reading) : Type 0 where
  pub header_stands : bytes_at f (spans_of x (length f)).header ≡ x.header
  pub body_stands : bytes_at f (spans_of x (length f)).body ≡ x.body
  pub attachment_stands : bytes_at f (spans_of x (length f)).attachment ≡ x.attachment

-- ---- a part after the 16 bytes, and parts that end with the frame
taken : (n : ℕ) (l : List ℕ) → take (length (take n l)) l ≡ take n l
taken n l = by (ltb n (length l)) refl
  where
    by : (b : Bool) → ltb n (length l) ≡ b → take (length (take n l)) l ≡ take n l
    by true e = ap (λ (m : ℕ). take m l) (length-take-le n l (omega (arith, ltb-true n (length l) e)))
    by false e = let all = take_all n l (ltb-false n (length l) e) in rw (all, take_all (length l) l (omega arith)) refl

none : (l : List ℕ) → length l ≡ 0 → [] ≡ l
none [] e = refl
none (x ∷ l) e = absurd (omega (arith, e))

-- the span of a part that starts at `start` is that of the bytes there
span_there : (f l : List ℕ) (start : ℕ) → take (length l) (drop start f) ≡ l → bytes_at f (span_from start (length l)) ≡ l
span_there f l start e = by (eqb (length l) 0) refl
  where
    by : (b : Bool) → eqb (length l) 0 ≡ b → bytes_at f (record { start = cond b 0 start; len = length l }) ≡ l
    by true h =
        let empty = eqb-true (length l) 0 h in
        rw empty (none l empty)
    by false h =
        let g : start + length l - start ≡ length l = omega arith in
        rw g e

header_there : (f l : List ℕ) (n : ℕ) → l ≡ take n (drop 16 f) → bytes_at f (span_from 16 (length l)) ≡ l
header_there f l n e = span_there f l 16 (rw e (taken n (drop 16 f)))

end_there : (f l : List ℕ) (n : ℕ) → l ≡ drop n f → bytes_at f (span_from (length f - length l) (length l)) ≡ l
end_there f l n e = span_there f l (length f - length l) (rw e (by (ltb n (length f)) refl))
  where
    by : (b : Bool) → ltb n (length f) ≡ b → take (length (drop n f)) (drop (length f - length (drop n f)) f) ≡ drop n f
    by true h =
        let g : length f - length (drop n f) ≡ n = omega (arith, length-drop n f, ltb-true n (length f) h) in
        rw g (take_all (length (drop n f)) (drop n f) (omega arith))
    by false h = rw (drop_of_length-le f {i = n} (ltb-false n (length f) h)) refl

-- ---- a reading's parts
module _ (f : List ℕ) where
  there : (x : Reading) (n m k : ℕ) → x.header ≡ take n (drop 16 f) → x.body ≡ drop m f → x.attachment ≡ drop k f → Stands f x
  there x n m k h b a =
      record {
        header_stands = header_there f x.header n h;
        body_stands = end_there f x.body m b;
        attachment_stands = end_there f x.attachment k a;
      }

  no_parts_lem : (code : ℕ) (lent : List ℕ) → Stands f (refused_untouched code lent)
  no_parts_lem code lent = there (refused_untouched code lent) 0 (length f) (length f) refl (sym (drop-length f)) (sym (drop-length f))

  header_from_lem : (kind : Kind) → (n : ℕ) × (header_of kind f ≡ take n (drop 16 f))
  unfolding header_of
  header_from_lem kinds.Request = (header_size_of f, refl)
  header_from_lem kinds.Response = (header_size_of f, refl)
  header_from_lem kinds.Init = (length (drop 16 f), sym (take_all (length (drop 16 f)) (drop 16 f) (omega arith)))
  header_from_lem kinds.Data = (0, refl)
  header_from_lem kinds.Feedback = (length (drop 16 f), sym (take_all (length (drop 16 f)) (drop 16 f) (omega arith)))
  header_from_lem kinds.Close = (length (drop 16 f), sym (take_all (length (drop 16 f)) (drop 16 f) (omega arith)))

  body_from : (kind : Kind) → (n : ℕ) × (body_of kind f ≡ drop n f)
  unfolding body_of
  body_from kinds.Request = (16 + header_size_of f, refl)
  body_from kinds.Response = (16 + header_size_of f, refl)
  body_from kinds.Init = (length f, sym (drop-length f))
  body_from kinds.Data = (16, refl)
  body_from kinds.Feedback = (length f, sym (drop-length f))
  body_from kinds.Close = (length f, sym (drop-length f))

  last_from : (n : ℕ) (body : List ℕ) (m : ℕ) → body ≡ drop m f → last_bytes n body ≡ drop (m + (length body - n)) f
  last_from n body m e = ap (drop (length body - n)) e ∙ drop-drop (length body - n) m f

  either : (b : Bool) {x y : Reading} → Stands f x → Stands f y → Stands f (cond b x y)
  either true p q = p
  either false p q = q

  module _ (kind : Kind) (lent : List ℕ) where
    of_result : (x : Result) → Stands f (answered kind f lent x)
    unfolding answered with_attachment
    of_result (ok st) =
        let (n, h) = header_from_lem kind in
        let (m, b) = body_from kind in
        let size = attachment_size_of kind st.slots in
        either
        (leb size (length (body_of kind f)))
        (there (record {
          answer = Ok (record_of kind (id_of f) (version_of f) st.slots (length st.rows));
          header = header_of kind f;
          body = body_of kind f;
          attachment = last_bytes size (body_of kind f);
          rows = laid_out st.rows lent;
        }) n m (m + (length (body_of kind f) - size)) h b (last_from size (body_of kind f) m b))
        (no_parts_lem 15 (laid_out [] lent))
    of_result (refused code) = no_parts_lem code (laid_out [] lent)

pub spans_stand : (c : ℕ) (f : List ℕ) (kind : Kind) (lent : List ℕ) → Stands f (read_frame c kind f lent)
unfolding read_frame
spans_stand c f kind lent =
    either f (not (ceiling_ok c)) (no_parts_lem f 41 lent)
    (either f (ltb (length lent) row_numbers) (no_parts_lem f 16 lent)
    (either f (ltb (length f) 16) (no_parts_lem f 9 lent)
    (either f (eqb (header_error c (take 16 f)) 0)
    (either f (eqb (length f) (total_of f) && kind_fits kind (get_or f 2 0) (get_or f 3 0))
    (of_result f kind lent (read_message f (schema_of kind) 16 (header_of kind f)))
    (no_parts_lem f 9 lent))
    (no_parts_lem f (header_error c (take 16 f)) lent))))
