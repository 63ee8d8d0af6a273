-- From what `parse_header` answers to what the reading of a frame says
use Prim.Native.Nat.{ℕ, ◌≤◌}
use mathlib.Core.Path.{◌≡◌, sym, ap, subst, ◌∙◌}
use mathlib.Core.Bool.{true, false}
use mathlib.Core.List.{List}
use lib.ListN.{length, take, get_or}
use Rattle.fixed_header.specs.Header.{max_frame, header_error, parsed}
use Rattle.fixed_header.specs.declared.FixedHeader.{FixedHeader}
use Rattle.std.specs.Prelude.{Result, Ok, Err}
use Rattle.refusals.specs.declared.Refusal.{Refusal}
use Rattle.fixed_header.proofs.Ceilings.{parsed_under, good_largest}
use Rattle.fixed_header.proofs.Codes.{good_ceiling, good_total}
use Rattle.message.specs.Frames.{Reading, kind_fits, refused_untouched, read_frame}
use Rattle.decoder.specs.Rows.{row_numbers}
use Rattle.message.specs.Parts.{PartsOf, Whole}
use Rattle.schema.specs.declared.Kind.{Kind}
use Rattle.message.specs.declared.frames.Parts.{Parts}
use Rattle.message.proofs.Headers.{good_whole, parsed_good, parsed_refused}
use Rattle.message.proofs.Readings.{bad_header, not_whole, other_kind}
use Rattle.message.proofs.Under.{read_under}

module _ (c : ℕ) (kind : Kind) (f lent : List ℕ) (rows : row_numbers ≤ length lent) (long : 16 ≤ length f) where
  pub header_refused : (code : ℕ) → Err code ≡ parsed c (take 16 f) → read_frame c kind f lent ≡ refused_untouched code lent
  header_refused code e =
      let (bad, code_is) = parsed_refused c f code e in
      bad_header c kind f lent rows long bad ∙ ap (λ (n : ℕ). refused_untouched n lent) (sym code_is)

  module _ (x : FixedHeader) (good : Ok x ≡ parsed c (take 16 f)) where
    pub size_refused : (length f ≡ x.total → ⊥) → read_frame c kind f lent ≡ refused_untouched 9 lent
    size_refused n =
        let s = parsed_good c f x good in
        not_whole c kind f lent rows s.good (λ e. n (e ∙ sym s.total_is))

    pub kind_refused : length f ≡ x.total → kind_fits kind (get_or f 2 0) (get_or f 3 0) ≡ false
        → read_frame c kind f lent ≡ refused_untouched 9 lent
    kind_refused e k =
        let s = parsed_good c f x good in
        other_kind c kind f lent rows s.good (e ∙ s.total_is) k

    pub whole_frame : length f ≡ x.total → kind_fits kind (get_or f 2 0) (get_or f 3 0) ≡ true
        → Whole kind f x.header_size x.id x.version
    whole_frame e k =
        let s = parsed_good c f x good in
        record {
          good = good_largest c (take 16 f) s.good;
          total_is = e ∙ s.total_is;
          fits = k;
          size_is = s.size_is;
          id_is = s.id_is;
          version_is = s.version_is;
        }

-- ---- after a good fixed header the ceiling says nothing more
module _ (c : ℕ) (f : List ℕ) (x : FixedHeader) (good : Ok x ≡ parsed c (take 16 f)) where
  good_header : header_error c (take 16 f) ≡ 0
  good_header = (parsed_good c f x good).good

  pub good_at_largest : Ok x ≡ parsed max_frame (take 16 f)
  good_at_largest =
      good ∙ parsed_under c (good_ceiling c (take 16 f) good_header) (take 16 f) (good_total c (take 16 f) good_header).1

  pub read_at_largest : (kind : Kind) (lent numbers : List ℕ) (p : Result Parts Refusal)
      → PartsOf (read_frame max_frame kind f lent) (length f) p numbers → PartsOf (read_frame c kind f lent) (length f) p numbers
  read_at_largest kind lent numbers p =
      subst (λ (y : Reading). PartsOf y (length f) p numbers)
      (sym (read_under c (good_ceiling c (take 16 f) good_header) kind f lent (good_whole c f good_header).1))
