-- The loop of `by_grammar`: the bytes from place i on are judged as all of them are. One law for each way through a turn.
use Prim.Native.Nat.{ℕ, ◌+◌, ◌-◌, ◌≤◌, ◌<◌}
use mathlib.Core.Path.{◌≡◌, sym, ◌∙◌}
use mathlib.Core.Bool.{false}
use mathlib.Core.List.{List, ◌∷◌}
use native.Mathlib.Omega.{arith}
use native.Mathlib.Numerals.{add-one}
use lib.Dec.{eqb}
use lib.ListN.{length, drop, get_or, drop_of_length-le}
use lib.Seq.{drop-cons}
use Rattle.utf8.specs.Grammar.{follows, lowest, highest, tailed, utf8}
use Rattle.utf8.proofs.Steps.{ends, leads, stray, whole, low, high, next}

pub record Judged (s : List ℕ) (need lo hi i : ℕ) : Type 0 where
  pub within : i ≤ length s
  pub same : tailed (drop i s) need lo hi ≡ utf8 s

module _ {s : List ℕ} {need lo hi i : ℕ} (j : Judged s need lo hi i) where
  pub at_end : length s ≤ i → eqb need 0 ≡ utf8 s
  at_end h = ends need lo hi ∙ rw (drop_of_length-le s h) at j.same

  module _ (inside : i < length s) where
    here : tailed (get_or s i 0 ∷ drop (i + 1) s) need lo hi ≡ utf8 s
    here =
        let e : tailed (drop i s) need lo hi ≡ tailed (get_or s i 0 ∷ drop (i + 1) s) need lo hi = rw (add-one, drop-cons s i 0) in
        sym e ∙ j.same

    pub passes_ascii : need ≡ 0 → get_or s i 0 < 0x80 → Judged s need lo hi (i + 1)
    passes_ascii z h = record { within = omega arith; same = sym (whole _ _ need lo hi z h) ∙ here }

    pub begins : {n l h : ℕ} → need ≡ 0 → n ≡ follows (get_or s i 0) → n ≤ 3 → l ≡ lowest (get_or s i 0) → h ≡ highest (get_or s i 0)
        → Judged s n l h (i + 1)
    begins z n t l h = record { within = omega arith; same = sym (leads _ _ need lo hi z n t l h) ∙ here }

    pub begins_none : {n : ℕ} → need ≡ 0 → n ≡ follows (get_or s i 0) → 3 < n → false ≡ utf8 s
    begins_none z n t = sym (stray _ _ need lo hi z n t) ∙ here

    pub goes_on : (need ≡ 0 → ⊥) → lo ≤ get_or s i 0 → get_or s i 0 ≤ hi → Judged s (need - 1) 0x80 0xBF (i + 1)
    goes_on m l h = record { within = omega arith; same = sym (next _ _ lo hi need m l h) ∙ here }

    pub too_low : (need ≡ 0 → ⊥) → get_or s i 0 < lo → false ≡ utf8 s
    too_low m h = sym (low _ _ lo hi need m h) ∙ here

    pub too_high : (need ≡ 0 → ⊥) → lo ≤ get_or s i 0 → hi < get_or s i 0 → false ≡ utf8 s
    too_high m l h = sym (high _ _ lo hi need m l h) ∙ here
