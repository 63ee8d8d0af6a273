-- What is accepted is encodings: the first character is taken off, and what is left is shorter.
use Prim.Native.Nat.{ℕ, zero, suc, ◌+◌, ◌*◌, ◌-◌, ◌≤◌, ◌<◌}
use mathlib.Core.Path.{◌≡◌, refl, sym, ap, ◌∙◌}
use mathlib.Core.Bool.{Bool, true, false}
use mathlib.Core.Logic.{⊎_elim}
use mathlib.Core.List.{List, [], ◌∷◌, ◌++◌}
use native.Mathlib.Omega.{arith}
use lib.ListN.{length, length-append}
use Rattle.utf8.specs.Grammar.{follows, lowest, highest, tailed, utf8}
use Rattle.utf8.specs.Encoding.{encode, encodes, Scalar, Scalars, none, more}
use Rattle.utf8.proofs.Cases.{up_to}
use Rattle.utf8.proofs.Firsts.{between, one, two, three, above}
use Rattle.utf8.proofs.Firsts.{lowest_E0, lowest_F0, highest_ED, highest_F4, lowest_least, highest_most}
use Rattle.utf8.proofs.Steps.{whole, leads, stray, low, high, next}
use Rattle.utf8.proofs.Numbers.{Number, number_1, number_2, number_3, number_4}

never : {t : Bool} → t ≡ false → t ≡ true → ⊥
never p q = let z : ◌≡◌ {A = ℕ} 0 1 = cc in omega arith

-- a byte that is needed is there, and in its range
record Took (s : List ℕ) (n lo hi : ℕ) : Type 0 where
  byte : ℕ
  others : List ℕ
  is : s ≡ byte ∷ others
  above : lo ≤ byte
  below : byte ≤ hi
  rest : tailed others (n - 1) 0x80 0xBF ≡ true

took : (s : List ℕ) (n lo hi : ℕ) → 0 < n → tailed s n lo hi ≡ true → Took s n lo hi
unfolding tailed
took [] zero lo hi p e = absurd (omega arith)
took [] (suc n) lo hi p e = absurd (never refl e)
took (b ∷ s) n lo hi p e =
    ⊎_elim
    (λ l. ⊎_elim
    (λ h. record {
      byte = b;
      others = s;
      is = refl;
      above = l;
      below = h;
      rest = sym (next b s lo hi n (omega arith) l h) ∙ e;
    })
    (λ h. absurd (never (high b s lo hi n (omega arith) l h) e))
    (up_to b hi))
    (λ l. absurd (never (low b s lo hi n (omega arith) l) e))
    (up_to lo b)

-- the first character of bytes, and those after it
record Cut (b : ℕ) (s : List ℕ) : Type 0 where
  number : ℕ
  others : List ℕ
  scalar : Scalar number
  is : encode number ++ others ≡ b ∷ s
  shorter : length others ≤ length s
  rest : utf8 others ≡ true

made : {b : ℕ} {xs s : List ℕ} (c : ℕ) (o : List ℕ) → Number c (b ∷ xs) → s ≡ xs ++ o → utf8 o ≡ true → Cut b s
made {b} {xs} c o k e r = record {
  number = c;
  others = o;
  scalar = k.scalar;
  is = rw (k.bytes, e);
  shorter = omega (arith, simp length-append at (ap length e));
  rest = r;
}

module _ (b : ℕ) (s : List ℕ) (e : utf8 (b ∷ s) ≡ true) where
  -- what is needed after the first byte
  after : {n : ℕ} → n ≡ follows b → n ≤ 3 → tailed s n (lowest b) (highest b) ≡ true
  after f h = sym (leads b s 0 0x80 0xBF refl f h refl refl) ∙ e

  cut_1 : b ≤ 0x7F → Cut b s
  cut_1 h = made b s (number_1 b h) refl (sym (whole b s 0 0x80 0xBF refl (omega arith)) ∙ e)

  cut_2 : 0xC1 < b → b ≤ 0xDF → Cut b s
  cut_2 p q =
      let t = took s 1 _ _ (omega arith) (after (sym (one b p q)) (omega arith)) in
      made (64 * b + t.byte - 12416) t.others
      (number_2 b t.byte _ p q (omega (arith, lowest_least b)) (omega (arith, highest_most b)) (omega (arith, lowest_least b)))
      t.is t.rest

  cut_3 : 0xDF < b → b ≤ 0xEF → Cut b s
  cut_3 p q =
      let t = took s 2 _ _ (omega arith) (after (sym (two b p q)) (omega arith)) in
      let u = took t.others 1 _ _ (omega arith) t.rest in
      made (4096 * b + 64 * t.byte + u.byte - 925824) u.others
      (number_3 b t.byte u.byte _ (omega (arith, lowest_least b)) (omega (arith, highest_most b)) u.above u.below
      p q (λ i. omega (arith, lowest_E0 b i)) (λ i. omega (arith, highest_ED b i)) (omega (arith, lowest_least b)))
      (t.is ∙ ap (λ (l : List ℕ). t.byte ∷ l) u.is) u.rest

  cut_4 : 0xEF < b → b ≤ 0xF4 → Cut b s
  cut_4 p q =
      let t = took s 3 _ _ (omega arith) (after (sym (three b p q)) (omega arith)) in
      let u = took t.others 2 _ _ (omega arith) t.rest in
      let v = took u.others 1 _ _ (omega arith) u.rest in
      made (262144 * b + 4096 * t.byte + 64 * u.byte + v.byte - 63447168) v.others
      (number_4 b t.byte u.byte _ (omega (arith, lowest_least b)) (omega (arith, highest_most b)) u.above u.below
      v.byte v.above v.below
      p q (λ i. omega (arith, lowest_F0 b i)) (λ i. omega (arith, highest_F4 b i)) (omega (arith, lowest_least b)))
      (t.is ∙ ap (λ (l : List ℕ). t.byte ∷ l) (u.is ∙ ap (λ (l : List ℕ). u.byte ∷ l) v.is)) v.rest

  cut : Cut b s
  cut =
      ⊎_elim cut_1
      (λ p. ⊎_elim (λ q. absurd (never (stray b s 0 0x80 0xBF refl (sym (between b p q)) (omega arith)) e))
      (λ p. ⊎_elim (cut_2 p)
      (λ p. ⊎_elim (cut_3 p)
      (λ p. ⊎_elim (cut_4 p)
      (λ p. absurd (never (stray b s 0 0x80 0xBF refl (sym (above b p)) (omega arith)) e))
      (up_to b 0xF4))
      (up_to b 0xEF))
      (up_to b 0xDF))
      (up_to b 0xC1))
      (up_to b 0x7F)

pub decoded : (n : ℕ) (x : List ℕ) → length x ≤ n → utf8 x ≡ true → (cs : List ℕ) × Scalars cs × (encodes cs ≡ x)
unfolding encodes
decoded zero [] h e = ([], none, refl)
decoded (suc n) [] h e = ([], none, refl)
decoded zero (b ∷ s) h e = absurd (omega arith)
decoded (suc n) (b ∷ s) h e =
    let k = cut b s e in
    let r = decoded n k.others (omega arith) k.rest in
    (k.number ∷ r.0, more k.scalar r.1, rw r.2 k.is)
