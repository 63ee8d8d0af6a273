-- The number that a character's bytes encode. Each law takes it as the `c` of an equation, so that no proof has a difference.
use Prim.Native.Nat.{ℕ, ◌+◌, ◌*◌, ◌/◌, ◌%◌, ◌≤◌, ◌<◌}
use mathlib.Core.Path.{◌≡◌}
use mathlib.Core.Logic.{inl, inr, ⊎_elim}
use mathlib.Core.List.{List, [], ◌∷◌}
use native.Mathlib.Omega.{arith}
use Rattle.utf8.specs.Encoding.{encode, Scalar}
use Rattle.utf8.proofs.Cases.{up_to}
use Rattle.utf8.proofs.Encodings.{encode_1, encode_2, encode_3, encode_4}

pub record Number (c : ℕ) (x : List ℕ) : Type 0 where
  pub scalar : Scalar c
  pub bytes : encode c ≡ x

pub number_1 : (b : ℕ) → b ≤ 0x7F → Number b (b ∷ [])
number_1 b h = record { scalar = record { top = omega arith; plain = inl (omega arith) }; bytes = encode_1 b h }

pub number_2 : (b x c : ℕ) → 0xC1 < b → b ≤ 0xDF → 0x80 ≤ x → x ≤ 0xBF → c + 12416 ≡ 64 * b + x → Number c (b ∷ x ∷ [])
number_2 b x c p q l h e =
    let first : 0xC0 + c / 64 ≡ b = omega arith in
    let second : 0x80 + c % 64 ≡ x = omega arith in
    record {
      scalar = record { top = omega arith; plain = inl (omega arith) };
      bytes = rw (encode_2 c (omega arith) (omega arith), first, second);
    }

module _ (b x y c : ℕ) (l : 0x80 ≤ x) (h : x ≤ 0xBF) (yl : 0x80 ≤ y) (yh : y ≤ 0xBF) where
  pub number_3 : 0xDF < b → b ≤ 0xEF → (b ≡ 0xE0 → 0xA0 ≤ x) → (b ≡ 0xED → x ≤ 0x9F) → c + 925824 ≡ 4096 * b + 64 * x + y
      → Number c (b ∷ x ∷ y ∷ [])
  number_3 p q s d e =
      let first : 0xE0 + c / 4096 ≡ b = omega arith in
      let second : 0x80 + c / 64 % 64 ≡ x = omega arith in
      let third : 0x80 + c % 64 ≡ y = omega arith in
      let least : 0x7FF < c = ⊎_elim (λ i. omega (arith, s (omega arith))) (λ i. omega arith) (up_to b 0xE0) in
      record {
        scalar = record {
          top = omega arith;
          plain =
              ⊎_elim (λ i. inl (omega arith))
              (λ i. ⊎_elim (λ j. inl (omega (arith, d (omega arith)))) (λ j. inr (omega arith)) (up_to b 0xED))
              (up_to b 0xEC);
        };
        bytes = rw (encode_3 c least (omega arith), first, second, third);
      }

  pub number_4 : (z : ℕ) → 0x80 ≤ z → z ≤ 0xBF → 0xEF < b → b ≤ 0xF4 → (b ≡ 0xF0 → 0x90 ≤ x) → (b ≡ 0xF4 → x ≤ 0x8F)
      → c + 63447168 ≡ 262144 * b + 4096 * x + 64 * y + z → Number c (b ∷ x ∷ y ∷ z ∷ [])
  number_4 z zl zh p q s d e =
      let first : 0xF0 + c / 262144 ≡ b = omega arith in
      let second : 0x80 + c / 4096 % 64 ≡ x = omega arith in
      let third : 0x80 + c / 64 % 64 ≡ y = omega arith in
      let fourth : 0x80 + c % 64 ≡ z = omega arith in
      let least : 0xFFFF < c = ⊎_elim (λ i. omega (arith, s (omega arith))) (λ i. omega arith) (up_to b 0xF0) in
      let most : c ≤ 0x10FFFF = ⊎_elim (λ i. omega arith) (λ i. omega (arith, d (omega arith))) (up_to b 0xF3) in
      record {
        scalar = record { top = most; plain = inr (omega arith) };
        bytes = rw (encode_4 c least, first, second, third, fourth);
      }
