-- What `read_frame` gives on each ground, in the papers' order: document 02's 41, then document 01's
use Prim.Native.Nat.{ℕ, ◌≤◌, ◌<◌}
use mathlib.Core.Path.{◌≡◌, sym, ap}
use mathlib.Core.Bool.{true, false, not}
use mathlib.Core.List.{List}
use borrow.Author.Tests.{lt-ltb, le-ltb, eq-eqb, ne_eqb, not-true}
use native.Mathlib.Omega.{arith}
use lib.ListN.{length, take, get_or, length-take}
use Rattle.laws.proofs.Booleans.{choose}
use Rattle.fixed_header.specs.Header.{ceiling_ok, CeilingOk, header_error, total_of}
use Rattle.fixed_header.proofs.Codes as codes
use Rattle.fixed_header.proofs.Codes.{ceiling_ok_lem, good_ceiling, good_length}
use Rattle.decoder.specs.Rows.{row_numbers}
use Rattle.message.specs.Frames.{Reading, kind_fits, refused_untouched, read_whole, read_frame}
use Rattle.schema.specs.declared.Kind.{Kind}

pub bad_ceiling_lem : (c : ℕ) (kind : Kind) (f lent : List ℕ) → ceiling_ok c ≡ false → read_frame c kind f lent ≡ refused_untouched 41 lent
unfolding read_frame
bad_ceiling_lem c kind f lent e = rw e

pub few_rows : (c : ℕ) → CeilingOk c → (kind : Kind) (f lent : List ℕ) → length lent < row_numbers
    → read_frame c kind f lent ≡ refused_untouched 16 lent
unfolding read_frame
few_rows c in_range kind f lent h = rw (ceiling_ok_lem c in_range, lt-ltb (length lent) row_numbers h)

module _ (c : ℕ) (kind : Kind) (f lent : List ℕ) (rows : row_numbers ≤ length lent) where
  pub short : CeilingOk c → length f < 16 → read_frame c kind f lent ≡ refused_untouched 9 lent
  unfolding read_frame
  short in_range h = rw (ceiling_ok_lem c in_range, le-ltb (length lent) row_numbers rows, lt-ltb (length f) 16 h)

  -- a ceiling out of range is a number of the header too, 41: so none is asked for
  pub bad_header : 16 ≤ length f → (header_error c (take 16 f) ≡ 0 → ⊥)
      → read_frame c kind f lent ≡ refused_untouched (header_error c (take 16 f)) lent
  unfolding read_frame
  bad_header long n =
      choose (λ (x : Reading). x ≡ refused_untouched (header_error c (take 16 f)) lent) (not (ceiling_ok c)) _ _
      (λ e. ap (λ (code : ℕ). refused_untouched code lent) (sym (codes.bad_ceiling_lem c (take 16 f) (not-true (ceiling_ok c) e))))
      (λ e. rw (le-ltb (length lent) row_numbers rows, le-ltb (length f) 16 long, ne_eqb (header_error c (take 16 f)) 0 n))

  -- a good header's ceiling is in range, and it has its 16 bytes
  module _ (good : header_error c (take 16 f) ≡ 0) where
    long : 16 ≤ length f
    long = omega (arith, good_length c (take 16 f) good, length-take 16 f)

    pub not_whole : (length f ≡ total_of f → ⊥) → read_frame c kind f lent ≡ refused_untouched 9 lent
    unfolding read_frame
    not_whole n =
        rw (
          ceiling_ok_lem c (good_ceiling c (take 16 f) good),
          le-ltb (length lent) row_numbers rows,
          le-ltb (length f) 16 long,
          eq-eqb (header_error c (take 16 f)) 0 good,
          ne_eqb (length f) (total_of f) n,
        )

    pub other_kind : length f ≡ total_of f → kind_fits kind (get_or f 2 0) (get_or f 3 0) ≡ false
        → read_frame c kind f lent ≡ refused_untouched 9 lent
    unfolding read_frame
    other_kind e k =
        rw (
          ceiling_ok_lem c (good_ceiling c (take 16 f) good),
          le-ltb (length lent) row_numbers rows,
          le-ltb (length f) 16 long,
          eq-eqb (header_error c (take 16 f)) 0 good,
          eq-eqb (length f) (total_of f) e,
          k,
        )

    pub its_message : length f ≡ total_of f → kind_fits kind (get_or f 2 0) (get_or f 3 0) ≡ true
        → read_frame c kind f lent ≡ read_whole kind f lent
    unfolding read_frame
    its_message e k =
        rw (
          ceiling_ok_lem c (good_ceiling c (take 16 f) good),
          le-ltb (length lent) row_numbers rows,
          le-ltb (length f) 16 long,
          eq-eqb (header_error c (take 16 f)) 0 good,
          eq-eqb (length f) (total_of f) e,
          k,
        )
