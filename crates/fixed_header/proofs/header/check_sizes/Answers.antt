-- At each return the rules before it were kept and its own was broken, by what the tests' contracts say. Where the total's rule is kept,
-- nothing wrapped.
use Prim.Native.Nat.{ℕ, ◌+◌, ◌%◌, ◌^◌, ◌<◌, ◌≤◌}
use mathlib.Core.Path.{◌≡◌, sym, ap, ◌∙◌}
use mathlib.Core.Bool.{Bool, true, false, cond}
use native.Mathlib.Omega.{arith}
use borrow.Author.Tests.{leb-true, not-true, not-false}
use lib.Dec.{leb}
use Rattle.laws.proofs.Booleans.{both}
use Rattle.fixed_header.specs.Header.{total_ok, header_size_ok, size_fault}
use Rattle.fixed_header.proofs.header.check_sizes.Goals as goal

module _ (c data_type total size content : ℕ) (small : content < 2 ^ 32) (wraps : (content + 16) % 2 ^ 32 ≡ total)
    {ok : Bool} (total_is : ok ≡ total_ok c ((content + 16) % 2 ^ 32)) where
  bad-total : ok ≡ false → 6 ≡ size_fault c data_type total size
  bad-total e = let t : total_ok c total ≡ false = ap (total_ok c) (sym wraps) ∙ sym total_is ∙ e in rw t

  module _ (kept : ok ≡ true) where
    good : total_ok c total ≡ true
    good = ap (total_ok c) (sym wraps) ∙ sym total_is ∙ kept

    same : content + 16 ≡ total
    unfolding total_ok
    same = let low : 16 ≤ total = leb-true _ _ (both (leb 16 total) (leb total c) good).0 in omega (arith, wraps)

    module _ {fits : Bool} (fits-is : fits ≡ header_size_ok data_type (content + 16) size) where
      size_is : header_size_ok data_type total size ≡ fits
      size_is = ap (λ (n : ℕ). header_size_ok data_type n size) (sym same) ∙ sym fits-is

      by_size : (b : Bool) → fits ≡ b → cond b 0 7 ≡ size_fault c data_type total size
      by_size b e = rw (good, size_is, e)

pub returns-then-not-total_ok : goal.returns-then-not-total_ok
returns-then-not-total_ok c =
    bad-total _ _ _ _ _ c.content_size-content.ensures.0 c.content_size-content.ensures.1 c.total_ok.ensures (not-true _ c.if-not-total_ok.true-raw)

pub returns-then-not-header_size_ok : goal.returns-then-not-header_size_ok
returns-then-not-header_size_ok c =
    by_size _ _ _ _ _ c.content_size-content.ensures.0 c.content_size-content.ensures.1 c.total_ok.ensures (not-false _ c.if-not-total_ok.false-raw)
    c.header_size_ok.ensures false (not-true _ c.if-not-header_size_ok.true-raw)

pub returns : goal.returns
returns c =
    by_size _ _ _ _ _ c.content_size-content.ensures.0 c.content_size-content.ensures.1 c.total_ok.ensures (not-false _ c.if-not-total_ok.false-raw)
    c.header_size_ok.ensures true (not-false _ c.if-not-header_size_ok.false-raw)

pub total_ok-requires : goal.total_ok-requires
total_ok-requires c =
    (c.requires, c.content_size-content.ensures.0)
