-- For a user: when `check_header` gives which number. `header_check_exactly` is of any call, by its contract only.
--
-- Promised, for any ceiling and bytes: 41, then 9, then 3 to 7, each exactly when its ground holds and none before it in the order does; 0
-- exactly when none holds.
-- Not promised: the values of a good header, which the contract of `parse_header` says.
-- Ruled out: a check that gives 6 where the magic is wrong, too, one that refuses a total as large as the ceiling, one that gives 9 under a
-- ceiling of 15, and one that always gives 0.
-- Assumes nothing.
use Prim.Native.Nat.{ℕ, ◌-◌, ◌≤◌}
use mathlib.Core.Path.{◌≡◌, refl, sym, subst}
use mathlib.Core.Logic.{◌⊎◌, inl, inr, ⊎_elim}
use mathlib.Core.Bool.{Bool, true, false}
use mathlib.Core.List.{List}
use native.Mathlib.Omega.{arith}
use lib.Dec.{eqb}
use lib.ListN.{length}
use Rattle.fixed_header.specs.Header.{magic_ok, data_type_ok, stream_type_ok, total_ok, header_size_ok}
use Rattle.fixed_header.specs.Header.{total_of, header_size_of, fault_of, header_error}
use Rattle.fixed_header.proofs.Ceilings.{ceiling_tested}
use Rattle.refusals.specs.Grounds.{Exactly}
use Rattle.refusals.proofs.Tests.{Told, Finds, each, either_found, unlike, reworded, equal, up_to}
use Rattle.refusals.proofs.Tests.{found_by_choice}
use Rattle.refusals.proofs.Order.{Outcome, Numbered, end, unless, exactly, first_says}
use Rattle.thm_refusals.specs.Header.{byte, Unary, faults, header_grounds, header_check}

module _ (h : List ℕ) where
  data_type : Finds (data_type_ok (byte h 3)) ((byte h 3 ≡ 0) ⊎ (byte h 3 ≡ 1))
  unfolding data_type_ok
  data_type = reworded one_of (⊎_elim (λ (e : byte h 3 ≡ 0). omega arith) (λ (e : byte h 3 ≡ 1). omega arith)) (up_to (byte h 3) 1)
    where
      one_of : byte h 3 ≤ 1 → (byte h 3 ≡ 0) ⊎ (byte h 3 ≡ 1)
      one_of l = by (eqb (byte h 3) 0) (equal (byte h 3) 0).told
        where
          by : (b : Bool) → Told b (byte h 3 ≡ 0) → (byte h 3 ≡ 0) ⊎ (byte h 3 ≡ 1)
          by true e = inl e
          by false n = inr (omega arith)

  header_size_lem : Finds (header_size_ok (byte h 3) (total_of h) (header_size_of h))
      ((Unary h × (header_size_of h ≤ total_of h - 16)) ⊎ ((Unary h → ⊥) × (header_size_of h ≡ 0)))
  unfolding header_size_ok
  header_size_lem =
      found_by_choice (equal (byte h 3) 0)
      (λ u. reworded (λ l. inl (u, l)) (⊎_elim (λ x. x.1) (λ x. absurd (x.0 u))) (up_to (header_size_of h) (total_of h - 16)))
      (λ n. reworded (λ z. inr (n, z)) (⊎_elim (λ x. absurd (n x.0)) (λ x. x.1)) (equal (header_size_of h) 0))

-- ---- all
module _ (c : ℕ) (h : List ℕ) where
  pub faults_outcome : Outcome (faults c h) (λ n. n) 0 (fault_of c h)
  unfolding fault_of magic_ok stream_type_ok total_ok
  faults_outcome =
      unless (unlike (each (equal (byte h 1) 0x09) (equal (byte h 2) 0x30)))
      (unless (unlike (data_type h))
      (unless (unlike (either_found (equal (byte h 3) 0) (each (up_to 1 (byte h 4)) (up_to (byte h 4) 4))))
      (unless (unlike (each (up_to 16 (total_of h)) (up_to (total_of h) c)))
      (unless (unlike (header_size_lem h))
      end))))

  pub faults_numbered : Numbered (faults c h)
  faults_numbered = search arith depth 20

  pub header_numbered : Numbered (header_grounds c h)
  header_numbered = (λ g. omega arith, (λ g. omega arith, faults_numbered))

  pub header_exactly : Exactly (header_check c h) (header_error c h)
  unfolding header_error
  header_exactly =
      exactly (header_check c h) (header_error c h) (λ none. refl) (first_says (header_grounds c h) header_numbered)
      (unless (ceiling_tested c) (unless (unlike (equal (length h) 16)) faults_outcome))

  -- of the function itself: its contract ensures r ≡ header_error c h of the number r in its answer
  pub header_check_exactly : (r : ℕ) → r ≡ header_error c h → Exactly (header_check c h) r
  header_check_exactly r e = subst (Exactly (header_check c h)) (sym e) header_exactly
