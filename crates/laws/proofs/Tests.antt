-- What a branch says of the test that a definition goes by
-- Assumes nothing.
use Prim.Native.Nat.{ℕ}
use mathlib.Core.Path.{◌≡◌, refl, sym, ◌∙◌}
use mathlib.Core.Bool.{Bool, true, false, not}
use borrow.Author.Tests.{lt-ltb, le-ltb, le-leb, lt-leb, eq-eqb, ne_eqb, eqb-true, eqb-false, not-true, not-false}
use lib.Dec.{eqb}

-- the value of a test of numbers, from the fact
pub ruleset tests = (lt-ltb, le-ltb, le-leb, lt-leb, eq-eqb, ne_eqb)

-- after `if !test(..)`, where the call's result m is the definition's ok
pub fails : {m ok : Bool} → m ≡ ok → not m ≡ true → ok ≡ false
fails {m} e t = sym e ∙ not-true m t

pub holds : {m ok : Bool} → m ≡ ok → not m ≡ false → ok ≡ true
holds {m} e t = sym e ∙ not-false m t

pub eqb_comm : (m n : ℕ) → eqb m n ≡ eqb n m
eqb_comm m n = by (eqb n m) refl
  where
    by : (b : Bool) → eqb n m ≡ b → eqb m n ≡ b
    by true e = eq-eqb m n (sym (eqb-true n m e))
    by false e = ne_eqb m n (λ (q : m ≡ n). eqb-false n m e (sym q))
