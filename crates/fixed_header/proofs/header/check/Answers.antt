-- The number of the types, or, where they have none, that of the rest of the chain.
use Prim.Native.Nat.{ℕ}
use mathlib.Core.Path.{◌≡◌, refl, sym, ◌∙◌}
use mathlib.Core.List.{List}
use lib.ListN.{get_or}
use Rattle.std.proofs.lemmas.Result.{err_from_is_err_and}
use Rattle.refusals.proofs.Answers.{number_not_0}
use Rattle.fixed_header.specs.Header.{be32_of, total_of, header_size_of, type_fault, size_fault, fault_of}
use Rattle.fixed_header.proofs.Codes.{types_pass}
use Rattle.fixed_header.proofs.header.check.Goals as goal

module _ (c : ℕ) (h : List ℕ) {types : ℕ} (is-types : types ≡ type_fault (get_or h 0 0) (get_or h 1 0) (get_or h 2 0) (get_or h 3 0) 0) where
  of_types : (types ≡ 0 → ⊥) → types ≡ fault_of c h
  unfolding fault_of
  of_types n = is-types ∙ sym ((types_pass _ _ _ _ _).1 (λ e. n (is-types ∙ e)))

  of-rest : types ≡ 0 → (total size rest : ℕ) → total ≡ be32_of h 4 → size ≡ header_size_of h → rest ≡ size_fault c (get_or h 2 0) total size
      → rest ≡ fault_of c h
  unfolding fault_of total_of
  of-rest none total size rest is_total is_size is =
      is ∙ rw (is_total, is_size) (sym ((types_pass _ _ _ _ _).0 (sym is-types ∙ none)))

pub returns-in_err-check_types : goal.returns-in_err-check_types
returns-in_err-check_types c =
    let p = err_from_is_err_and c.from_residual.result c.from_residual.ensures.1 in
    rw (p.1, p.2) (of_types _ _ c.in_err-check_types.ensures (number_not_0 _))

pub returns : goal.returns
returns c =
    of-rest _ _ c.in_ok-check_types.ensures refl _ _ _ c.be32.ensures c.header_size.ensures.0 c.check_sizes.ensures
