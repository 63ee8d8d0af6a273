-- No rule is broken exactly if the types break none and the sizes break none.
use Prim.Native.Nat.{ℕ}
use mathlib.Core.Path.{◌≡◌, refl, sym, ap, ◌∙◌}
use mathlib.Core.Bool.{Bool, true, false, ◌&&◌, cond}
use mathlib.Core.List.{List}
use borrow.Author.Tests.{ne_eqb}
use lib.Dec.{eqb}
use lib.ListN.{get_or}
use Rattle.refusals.proofs.Answers.{refused, not_refused}
use Rattle.fixed_header.specs.Header.{total_of, header_size_of, total_ok, header_size_ok, type_fault, size_fault, fault_of}
use Rattle.fixed_header.proofs.Codes.{types_pass}
use Rattle.fixed_header.proofs.header.good.Goals as goal

two-rules : (a b : Bool) → a && b ≡ eqb (cond a (cond b 0 7) 6) 0
two-rules true true = refl
two-rules true false = refl
two-rules false b = refl

module _ (c : ℕ) (h : List ℕ) (types : ℕ) (is-types : types ≡ type_fault (get_or h 0 0) (get_or h 1 0) (get_or h 2 0) (get_or h 3 0) 0) where
  bad : (types ≡ 0 → ⊥) → false ≡ eqb (fault_of c h) 0
  unfolding fault_of
  bad n =
      let first : (type_fault (get_or h 0 0) (get_or h 1 0) (get_or h 2 0) (get_or h 3 0) 0 ≡ 0 → ⊥) = λ e. n (is-types ∙ e) in
      let is = (types_pass _ _ _ _ (size_fault c (get_or h 2 0) (total_of h) (header_size_of h))).1 first in
      sym (ap (λ (n : ℕ). eqb n 0) is ∙ ne_eqb _ 0 first)

  by-sizes : types ≡ 0 → (total size : ℕ) {ok : Bool} → total ≡ total_of h → size ≡ header_size_of h
      → ok ≡ total_ok c total && header_size_ok (get_or h 2 0) total size
      → ok ≡ eqb (fault_of c h) 0
  unfolding fault_of
  by-sizes none total size is_total is_size is =
      let rest = (types_pass _ _ _ _ (size_fault c (get_or h 2 0) (total_of h) (header_size_of h))).0 (sym is-types ∙ none) in
      is ∙ rw (is_total, is_size) (two-rules (total_ok c (total_of h)) (header_size_ok (get_or h 2 0) (total_of h) (header_size_of h)))
      ∙ sym (ap (λ (n : ℕ). eqb n 0) rest)

pub returns-then-is_err : goal.returns-then-is_err
returns-then-is_err c = bad _ _ _ c.check_types.ensures (refused _ (sym c.is_err.ensures.value ∙ c.if-is_err.true))

pub returns : goal.returns
returns c =
    by-sizes _ _ _ c.check_types.ensures (not_refused _ (sym c.is_err.ensures.value ∙ c.if-is_err.false)) _ _ c.total.ensures
    c.header_size.ensures.0 c.sizes_ok.ensures

pub sizes_ok-requires : goal.sizes_ok-requires
sizes_ok-requires c =
    c.header_size.ensures.1
