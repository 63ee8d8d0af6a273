-- Encodings are accepted: a character's bytes in front change nothing.
use Prim.Native.Nat.{ℕ, ◌-◌, ◌≤◌, ◌<◌}
use mathlib.Core.Path.{◌≡◌, refl, sym, ◌∙◌}
use mathlib.Core.Bool.{true}
use mathlib.Core.Logic.{◌⊎◌, ⊎_elim}
use mathlib.Core.List.{List, ◌∷◌, ◌++◌}
use native.Mathlib.Omega.{arith}
use Rattle.utf8.specs.Grammar.{tailed, utf8}
use Rattle.utf8.specs.Encoding.{encode, encodes, Scalar, Scalars, none, more}
use Rattle.utf8.proofs.Cases.{up_to}
use Rattle.utf8.proofs.Firsts.{one, two, three, lowest_below, highest_above}
use Rattle.utf8.proofs.Steps.{whole, leads, next}
use Rattle.utf8.proofs.Encodings.{encode_1, encode_2, encode_3, encode_4}

-- a byte that a character needs, after its second
tail : (x : ℕ) (s : List ℕ) (n : ℕ) → 0x80 ≤ x → x ≤ 0xBF → 0 < n → tailed (x ∷ s) n 0x80 0xBF ≡ tailed s (n - 1) 0x80 0xBF
tail x s n l h p = next x s 0x80 0xBF n (omega arith) l h

module _ (b x : ℕ) where
  pub pair : (s : List ℕ) → 0xC1 < b → b ≤ 0xDF → 0x80 ≤ x → x ≤ 0xBF → utf8 (b ∷ x ∷ s) ≡ utf8 s
  pair s p q l h =
      leads b (x ∷ s) 0 0x80 0xBF {n = 1} refl (sym (one b p q)) (omega arith) refl refl
      ∙ next x s _ _ 1 (omega arith) (lowest_below b x l (omega arith) (omega arith)) (highest_above b x h (omega arith) (omega arith))

  module _ (l : 0x80 ≤ x) (h : x ≤ 0xBF) (y : ℕ) (yl : 0x80 ≤ y) (yh : y ≤ 0xBF) where
    pub triple : (s : List ℕ) → 0xDF < b → b ≤ 0xEF → (b ≡ 0xE0 → 0xA0 ≤ x) → (b ≡ 0xED → x ≤ 0x9F) → utf8 (b ∷ x ∷ y ∷ s) ≡ utf8 s
    triple s p q e d =
        leads b (x ∷ y ∷ s) 0 0x80 0xBF {n = 2} refl (sym (two b p q)) (omega arith) refl refl
        ∙ next x (y ∷ s) _ _ 2 (omega arith) (lowest_below b x l e (omega arith)) (highest_above b x h d (omega arith))
        ∙ tail y s 1 yl yh (omega arith)

    pub quadruple : (z : ℕ) (s : List ℕ) → 0x80 ≤ z → z ≤ 0xBF → 0xEF < b → b ≤ 0xF4 → (b ≡ 0xF0 → 0x90 ≤ x) → (b ≡ 0xF4 → x ≤ 0x8F)
        → utf8 (b ∷ x ∷ y ∷ z ∷ s) ≡ utf8 s
    quadruple z s zl zh p q e d =
        leads b (x ∷ y ∷ z ∷ s) 0 0x80 0xBF {n = 3} refl (sym (three b p q)) (omega arith) refl refl
        ∙ next x (y ∷ z ∷ s) _ _ 3 (omega arith) (lowest_below b x l (omega arith) e) (highest_above b x h (omega arith) d)
        ∙ tail y (z ∷ s) 2 yl yh (omega arith)
        ∙ tail z s 1 zl zh (omega arith)

module _ (c : ℕ) (s : List ℕ) where
  of_1 : c ≤ 0x7F → utf8 (encode c ++ s) ≡ utf8 s
  of_1 h = rw (encode_1 c h) (whole c s 0 0x80 0xBF refl (omega arith))

  of_2 : 0x7F < c → c ≤ 0x7FF → utf8 (encode c ++ s) ≡ utf8 s
  of_2 g h = rw (encode_2 c g h) (pair _ _ s (omega arith) (omega arith) (omega arith) (omega arith))

  of_3 : 0x7FF < c → c ≤ 0xFFFF → (c < 0xD800) ⊎ (0xDFFF < c) → utf8 (encode c ++ s) ≡ utf8 s
  of_3 g h p =
      rw (encode_3 c g h)
      (triple _ _ (omega arith) (omega arith) _ (omega arith) (omega arith) s (omega arith) (omega arith) (omega arith)
      (λ e. ⊎_elim (λ q. omega arith) (λ q. omega arith) p))

  of_4 : 0xFFFF < c → c ≤ 0x10FFFF → utf8 (encode c ++ s) ≡ utf8 s
  of_4 g h =
      rw (encode_4 c g)
      (quadruple _ _ (omega arith) (omega arith) _ (omega arith) (omega arith) _ s (omega arith) (omega arith) (omega arith)
      (omega arith) (omega arith) (omega arith))

  pub passes : Scalar c → utf8 (encode c ++ s) ≡ utf8 s
  passes k =
      ⊎_elim of_1
      (λ g. ⊎_elim (of_2 g)
      (λ g. ⊎_elim (λ h. of_3 g h k.plain) (λ g. of_4 g k.top) (up_to c 0xFFFF))
      (up_to c 0x7FF))
      (up_to c 0x7F)

pub accepted : {cs : List ℕ} → Scalars cs → utf8 (encodes cs) ≡ true
unfolding encodes tailed
accepted none = refl
accepted (more k ks) = passes _ _ k ∙ accepted ks
