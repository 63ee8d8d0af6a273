-- Of a stream frame, at most 0 is 0.
use Prim.Native.Nat.{ℕ, ◌+◌, ◌-◌}
use mathlib.Core.Path.{◌≡◌, sym, ◌∙◌}
use native.Mathlib.Omega.{arith}
use native.Mathlib.Decide.{ℕ_discrete}
use borrow.Author.Tests.{le-leb, lt-leb, eq-eqb, ne_eqb}
use lib.Dec.{eqb, leb}
use Rattle.fixed_header.specs.Header.{header_size_ok}
use Rattle.fixed_header.proofs.header.header_size_ok.Goals as goal
use Rattle.fixed_header.proofs.header.header_size_ok.Goals.{then-data_type-eq0, else-data_type-eq0}

module _ (data_type content size most : ℕ) where
  unary : data_type ≡ 0 → most ≡ content → leb size most ≡ header_size_ok data_type (content + 16) size
  unfolding header_size_ok
  unary d e =
      let same : content + 16 - 16 ≡ content = omega arith in
      rw (eq-eqb data_type 0 d, e, same)

  stream : (data_type ≡ 0 → ⊥) → most ≡ 0 → leb size most ≡ header_size_ok data_type (content + 16) size
  unfolding header_size_ok
  stream d e = rw (ne_eqb data_type 0 d, e) (by (ℕ_discrete size 0))
    where
      by : Dec (size ≡ 0) → leb size 0 ≡ eqb size 0
      by (yes z) = le-leb size 0 (omega arith) ∙ sym (eq-eqb size 0 z)
      by (no n) = lt-leb size 0 (omega arith) ∙ sym (ne_eqb size 0 n)

pub returns : goal.returns
returns c = elim c.if-data_type-eq0.branch [
  | then-data_type-eq0 w ↦ unary _ _ _ _ w.if-data_type-eq0.true w.most-is
  | else-data_type-eq0 w ↦ stream _ _ _ _ w.if-data_type-eq0.false w.most-is
]
