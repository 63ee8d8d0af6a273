-- Which states are known under the ceiling c of the call that asks, and what a known state tells
use Prim.Native.Nat.{ℕ, ◌≤◌, ◌<◌}
use mathlib.Core.Path.{◌≡◌, refl, sym, ap, ◌∙◌}
use mathlib.Core.Logic.{inl, inr}
use mathlib.Core.Bool.{Bool, true, false, ◌&&◌}
use mathlib.Core.List.{List}
use native.Mathlib.Omega.{arith}
use native.Mathlib.Decide.{dec_lt, ℕ_discrete}
use borrow.Author.Tests.{lt-ltb, le-ltb, le-leb, lt-leb, eq-eqb, ne_eqb, eqb-true, ltb-true}
use lib.Dec.{eqb, ltb, leb}
use lib.ListN.{length, take}
use Rattle.fixed_header.specs.Header.{CeilingOk, header_error, total_of, fault_of}
use Rattle.deframer.specs.Deframe.{known_of}
use Rattle.deframer.specs.declared.Deframer.{Deframer}
use Rattle.laws.proofs.Booleans.{both}
use Rattle.fixed_header.proofs.Codes.{first_sixteen, good_total, Code, fault_code}

never : (b : Bool) → b && false ≡ false
never true = refl
never false = refl

module _ (c : ℕ) where
  module _ (st : Deframer) (d : List ℕ) where
    -- ---- with no error code
    module _ (none : st.error ≡ 0) where
      pub known_short : st.held < 16 → known_of c st d ≡ true
      unfolding known_of
      known_short h = simp (eq-eqb _ _ none, lt-ltb _ _ h)

      -- what it holds decides
      pub known_by : {b : Bool} → known_of c (record { held = st.held; error = 0 }) d ≡ b → known_of c st d ≡ b
      known_by e = ap (λ (n : ℕ). known_of c (record { held = st.held; error = n }) d) none ∙ e

      pub known_total : 16 ≤ st.held → header_error c (take 16 d) ≡ 0 → known_of c st d ≡ ltb st.held (total_of (take 16 d))
      unfolding known_of
      known_total h e = simp (eq-eqb _ _ none, le-ltb _ _ h, eq-eqb _ _ e)

      pub unknown_header : 16 ≤ st.held → (header_error c (take 16 d) ≡ 0 → ⊥) → known_of c st d ≡ false
      unfolding known_of
      unknown_header h e = simp (eq-eqb _ _ none, le-ltb _ _ h, ne_eqb _ _ e)

      pub known_good : known_of c st d ≡ true → 16 ≤ st.held → (header_error c (take 16 d) ≡ 0) × (st.held < total_of (take 16 d))
      unfolding known_of
      known_good k h =
          let by_header = simp (eq-eqb _ _ none, le-ltb _ _ h) at k in
          let a = both (eqb (header_error c (take 16 d)) 0) (ltb st.held (total_of (take 16 d))) by_header in
          (eqb-true _ _ a.0, ltb-true _ _ a.1)

    -- ---- with one
    module _ (some : st.error ≡ 0 → ⊥) where
      pub unknown_held : (st.held ≡ 16 → ⊥) → known_of c st d ≡ false
      unfolding known_of
      unknown_held h = simp (ne_eqb _ _ some, ne_eqb _ _ h)

      -- "a state that holds 8 is not known" (document 02, P2): 8 is no number from 3 to 7
      pub unknown_past : 7 < st.error → known_of c st d ≡ false
      unfolding known_of
      unknown_past h = simp (ne_eqb _ _ some, lt-leb _ _ h, never)

      -- the 16 bytes have another number under this ceiling
      pub unknown_code : (header_error c (take 16 d) ≡ st.error → ⊥) → known_of c st d ≡ false
      unfolding known_of
      unknown_code h = simp (ne_eqb _ _ some, ne_eqb _ _ h, never)

      pub known_bad : known_of c st d ≡ true → (st.held ≡ 16) × (header_error c (take 16 d) ≡ st.error)
      unfolding known_of
      known_bad k =
          let a = both (eqb st.held 16) _ (simp (ne_eqb _ _ some) at k) in
          let b = both (eqb (header_error c (take 16 d)) st.error) _ a.1 in
          (eqb-true _ _ a.0, eqb-true _ _ b.0)

      -- that the number is from 3 to 7 follows, since the 16 bytes give it
      pub known_code : CeilingOk c → 16 ≤ length d → st.held ≡ 16 → known_of c st d ≡ eqb (header_error c (take 16 d)) st.error
      unfolding known_of
      known_code in_range l h = simp (ne_eqb _ _ some, eq-eqb _ _ h) (by (eqb (header_error c (take 16 d)) st.error) refl)
        where
          range : header_error c (take 16 d) ≡ st.error → Code (fault_of c (take 16 d)) → (3 ≤ st.error) × (st.error ≤ 7)
          range e (inl z) = absurd (some (sym e ∙ first_sixteen c in_range d l ∙ z))
          range e (inr r) =
              let f : fault_of c (take 16 d) ≡ st.error = sym (first_sixteen c in_range d l) ∙ e in
              (omega arith, omega arith)

          by : (b : Bool) → eqb (header_error c (take 16 d)) st.error ≡ b → b && (leb 3 st.error && leb st.error 7) ≡ b
          by true e =
              let r = range (eqb-true _ _ e) (fault_code c (take 16 d)) in
              simp (le-leb _ _ r.0, le-leb _ _ r.1)
          by false e = refl

  -- what a known state holds is in the buffer
  pub held_fits : CeilingOk c → (st : Deframer) (d : List ℕ) → c ≤ length d → known_of c st d ≡ true → st.held ≤ length d
  held_fits in_range st d big known = go (ℕ_discrete st.error 0) (dec_lt st.held 16)
    where
      go : Dec (st.error ≡ 0) → Dec (st.held < 16) → st.held ≤ length d
      go e (yes p) = omega arith
      go (yes z) (no p) =
          let g = known_good st d z known (omega arith) in
          omega (arith, good_total c (take 16 d) g.0)
      go (no n) (no p) = omega (arith, known_bad st d n known)
