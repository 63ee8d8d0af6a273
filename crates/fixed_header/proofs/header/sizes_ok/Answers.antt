-- A total over the ceiling breaks its rule. One that does not hold the 16 bytes and the header message breaks its own, or that of the header
-- size. Else only a stream frame's header size is left to look at.
use Prim.Native.Nat.{ℕ, ◌+◌, ◌-◌, ◌<◌, ◌≤◌}
use mathlib.Core.Path.{◌≡◌, refl}
use mathlib.Core.Bool.{Bool, true, false, ◌&&◌}
use native.Mathlib.Omega.{arith}
use native.Mathlib.Decide.{dec_lt, ℕ_discrete}
use borrow.Author.Tests.{le-leb, lt-leb, eq-eqb, ne_eqb}
use lib.Dec.{eqb, leb}
use Rattle.fixed_header.specs.Header.{total_ok, header_size_ok}
use Rattle.fixed_header.proofs.header.sizes_ok.Goals as goal

never : (b c : Bool) → false ≡ (b && false) && c
never true c = refl
never false c = refl

later : (b : Bool) → false ≡ b && false
later true = refl
later false = refl

module _ (c data_type total size : ℕ) where
  over : c < total → false ≡ total_ok c total && header_size_ok data_type total size
  unfolding total_ok
  over h = rw (lt-leb total c h) (never (leb 16 total) (header_size_ok data_type total size))

  lacking : total < 16 + size → false ≡ total_ok c total && header_size_ok data_type total size
  unfolding total_ok header_size_ok
  lacking h = by (dec_lt total 16) (ℕ_discrete data_type 0)
    where
      by : Dec (total < 16) → Dec (data_type ≡ 0) → false ≡ total_ok c total && header_size_ok data_type total size
      by (yes p) d = rw (lt-leb 16 total p)
      by (no p) (yes d) = rw (eq-eqb data_type 0 d, lt-leb size (total - 16) (omega arith)) (later (leb 16 total && leb total c))
      by (no p) (no d) = rw (ne_eqb data_type 0 d, ne_eqb size 0 (λ e. omega arith)) (later (leb 16 total && leb total c))

  module _ (fits : total ≤ c) (holds : 16 + size ≤ total) where
    unary : data_type ≡ 0 → true ≡ total_ok c total && header_size_ok data_type total size
    unfolding total_ok header_size_ok
    unary d = rw (le-leb 16 total (omega arith), le-leb total c fits, eq-eqb data_type 0 d, le-leb size (total - 16) (omega arith))

    stream : (data_type ≡ 0 → ⊥) → eqb size 0 ≡ total_ok c total && header_size_ok data_type total size
    unfolding total_ok header_size_ok
    stream d = rw (le-leb 16 total (omega arith), le-leb total c fits, ne_eqb data_type 0 d)

pub returns-then-ceiling-total : goal.returns-then-ceiling-total
returns-then-ceiling-total c = over _ _ _ _ c.if-ceiling-total.true

pub returns-then-total-size : goal.returns-then-total-size
returns-then-total-size c = lacking _ _ _ _ c.if-total-size.true

pub returns-then-data_type-eq0 : goal.returns-then-data_type-eq0
returns-then-data_type-eq0 c = unary _ _ _ _ (omega (arith, c.if-ceiling-total.false)) (omega (arith, c.if-total-size.false)) c.if-data_type-eq0.true

pub returns : goal.returns
returns c = stream _ _ _ _ (omega (arith, c.if-ceiling-total.false)) (omega (arith, c.if-total-size.false)) c.if-data_type-eq0.false
