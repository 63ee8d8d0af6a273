-- A character that is begun, byte by byte: what its first byte begins, and what is judged once a byte more is known.
use Prim.Native.Nat.{ℕ, ◌+◌, ◌≤◌, ◌<◌}
use mathlib.Core.Path.{◌≡◌, refl, sym, ap, ◌∙◌}
use mathlib.Core.Bool.{Bool, true, false, cond}
use mathlib.Core.List.{List, ◌∷◌}
use native.Mathlib.Numerals.{add-one}
use lib.Dec.{leb, eqb}
use lib.ListN.{length, drop, get_or, drop_of_length-le}
use lib.Seq.{drop-cons}
use Rattle.std.specs.declared.option.Option.{Option}
use Rattle.std.specs.declared.option.Option.TheVariants.{None, Some}
use Rattle.utf8.specs.declared.Begun.{Begun}
use Rattle.utf8.specs.Grammar.{follows, lowest, highest, tailed, utf8}
use Rattle.utf8.specs.Begun.{first, goes_on}
use Rattle.utf8.proofs.Steps.{ends}

-- the bytes go on after a first byte that this many follow
abbrev pub led : Option ℕ → (b : ℕ) → List ℕ → Bool
led None b s = false
led (Some n) b s = tailed s n (lowest b) (highest b)

pub leads : (b : ℕ) (s : List ℕ) {need : ℕ} (lo hi : ℕ) {f : Option ℕ} → need ≡ 0 → f ≡ first b → tailed (b ∷ s) need lo hi ≡ led f b s
unfolding tailed
leads b s lo hi z e = rw (z, e) (by_test (leb (follows b) 3))
  where
    by_test :
        (t : Bool)
        → cond t (tailed s (follows b) (lowest b) (highest b)) false ≡ led (cond t (Some (follows b)) None) b s
    by_test true = refl
    by_test false = refl

-- the bytes from place i on are judged as all of them are
module _ (s : List ℕ) (i need lo hi : ℕ) (j : tailed (drop i s) need lo hi ≡ utf8 s) where
  pub at_end : length s ≤ i → eqb need 0 ≡ utf8 s
  at_end h = ends need lo hi ∙ rw (drop_of_length-le s h) at j

  pub next_byte :
      {r o : Option Begun}
      → i < length s → tailed (get_or s i 0 ∷ drop (i + 1) s) need lo hi ≡ goes_on r (drop (i + 1) s) → r ≡ o
      → goes_on o (drop (i + 1) s) ≡ utf8 s
  next_byte inside e is =
      let here : tailed (drop i s) need lo hi ≡ tailed (get_or s i 0 ∷ drop (i + 1) s) need lo hi = rw (add-one, drop-cons s i 0) in
      ap (λ (k : Option Begun). goes_on k (drop (i + 1) s)) (sym is) ∙ sym e ∙ sym here ∙ j
