-- For a user (document 02, P11): what a connection's ceiling decides when a frame is read.
--
-- Promised: a frame whose total is no more than a ceiling in range is read as under 65,536, refused or not (`read_under`), and so is each
-- frame that is read (`read_largest`): same record, parts and row numbers. 65,536 is document 01's reader. A frame that is read has at most
-- as many bytes as the ceiling, and the ceiling is in range (`read_fits`).
-- Not promised: the number of a frame whose total is over the ceiling, which is 6 where nothing before it is wrong (`Exactly` of
-- `thm_refusals`).
-- Ruled out: a reader that hands out a frame longer than its connection's ceiling, or goes by the ceiling after the fixed header.
-- Assumes nothing.
use Prim.Native.Nat.{ℕ, ◌≤◌}
use mathlib.Core.Path.{◌≡◌}
use mathlib.Core.Bool.{not, ◌&&◌}
use mathlib.Core.List.{List}
use native.Mathlib.Omega.{arith}
use borrow.Author.Tests.{eqb-true}
use lib.Dec.{eqb, ltb}
use lib.ListN.{length, take, get_or}
use Rattle.laws.proofs.Booleans.{clash, both, choose}
use Rattle.fixed_header.specs.Header.{max_frame, ceiling_ok, CeilingOk, total_of, header_error}
use Rattle.fixed_header.proofs.Codes.{ceiling_ok_lem, largest, good_ceiling}
use Rattle.fixed_header.proofs.Ceilings.{same_under}
use Rattle.decoder.specs.Rows.{row_numbers}
use Rattle.schema.specs.declared.Kind.{Kind}
use Rattle.records.specs.declared.Record.{Record}
use Rattle.std.specs.Prelude.{Ok}
use Rattle.message.specs.Frames.{Reading, kind_fits, refused_untouched, read_frame}
use Rattle.message.proofs.Headers.{total_take, good_whole}

pub read_under : (c : ℕ) → CeilingOk c → (kind : Kind) (f lent : List ℕ) → total_of f ≤ c
    → read_frame c kind f lent ≡ read_frame max_frame kind f lent
unfolding read_frame
read_under c in_range kind f lent within =
    rw (ceiling_ok_lem c in_range, ceiling_ok_lem max_frame largest, same_under c in_range (take 16 f) (rw (total_take f) within))

-- ---- a frame that is read
module _ (c : ℕ) (f : List ℕ) (r : Record) where
  -- its fixed header is good, and it is as long as that says
  abbrev Judged : Reading → Type 0
  Judged x = x.answer ≡ Ok r → (header_error c (take 16 f) ≡ 0) × (length f ≡ total_of f)

  none : (code : ℕ) (lent : List ℕ) → Judged (refused_untouched code lent)
  none code lent e = clash cc

  judged : (kind : Kind) (lent : List ℕ) → Judged (read_frame c kind f lent)
  unfolding read_frame
  judged kind lent =
      choose Judged (not (ceiling_ok c)) _ _ (λ e. none 41 lent)
      (λ e. choose Judged (ltb (length lent) row_numbers) _ _ (λ e. none 16 lent)
      (λ e. choose Judged (ltb (length f) 16) _ _ (λ e. none 9 lent)
      (λ e. choose Judged (eqb (header_error c (take 16 f)) 0) _ _
      (λ good. choose Judged (eqb (length f) (total_of f) && kind_fits kind (get_or f 2 0) (get_or f 3 0)) _ _
      (λ fits read. (eqb-true _ _ good, eqb-true _ _ (both (eqb (length f) (total_of f)) _ fits).0))
      (λ e. none 9 lent))
      (λ e. none (header_error c (take 16 f)) lent))))

module _ (c : ℕ) (kind : Kind) (f lent : List ℕ) (r : Record) (read : (read_frame c kind f lent).answer ≡ Ok r) where
  pub read_fits : (length f ≤ c) × CeilingOk c
  read_fits =
      let (good, size) = judged c f r kind lent read in
      (omega (arith, size, good_whole c f good), good_ceiling c (take 16 f) good)

  pub read_largest : read_frame c kind f lent ≡ read_frame max_frame kind f lent
  read_largest =
      let (good, size) = judged c f r kind lent read in
      read_under c (good_ceiling c (take 16 f) good) kind f lent (good_whole c f good).1
