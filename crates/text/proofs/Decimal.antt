-- The fewest digits that hold a number are as many as `decimal` has; a number of 64 bits has at most 20
use Rattle.std.proofs.Common.{ℕ, zero, suc, ◌+◌, ◌*◌, ◌-◌, ◌/◌, ◌%◌, ◌^◌, ◌≤◌, ◌<◌, ◌≡◌, Bool, true, false, cond, List, [], ◌∷◌, ◌++◌, length, negsuc}
use mathlib.Core.Path.{refl, ap, sym, subst, ◌∙◌}
use native.Mathlib.Omega.{arith}
use native.Mathlib.Nat.{pow-le-pow_right, pow-suc, div-lt_iff_lt-mul, div-mul-le_self}
use native.Mathlib.Decide.{dec_le}
use lib.Dec.{ltb}
use borrow.Author.Tests.{ltb-true, ltb-false, lt-ltb, le-ltb}
use Rattle.std.specs.Int.{w64, cast_signed}
use Rattle.std.specs.Fmt.{decimal as printed, signed_decimal}
use Rattle.std.proofs.lemmas.Fmt.{decimal_by_steps, length-decimal-le}
use Rattle.std.proofs.lemmas.Int.{to_z_pos}
use Rattle.std.proofs.Math.Facts.{to_z-neg}
use Rattle.text.specs.Digits.{hex_digit_ascii, last_digits, IsDigitCount}
use Rattle.text.specs.Numbers.{places_in, decimal, signed}
use Rattle.text.specs.Added.{added, Adds}
use Rattle.text.proofs.Adding.{adds_few}

-- no two numbers of digits are the fewest: the larger one less still holds n
no_fewer : (n j k : ℕ) → IsDigitCount 10 1 n j → IsDigitCount 10 1 n k → j < k → ⊥
no_fewer n j k f g h =
    let grows : 10 ^ j ≤ 10 ^ (k - 1) = pow-le-pow_right (omega arith) {i = j} {j = k - 1} (omega arith) in
    omega (arith, f.1, g.2 (omega (arith, f.0)))

one_fewest : (n j k : ℕ) → IsDigitCount 10 1 n j → IsDigitCount 10 1 n k → j ≡ k
one_fewest n j k f g = go (dec_le j k) (dec_le k j)
  where
    go : Dec (j ≤ k) → Dec (k ≤ j) → j ≡ k
    go (yes p) (yes q) = omega arith
    go (no p) q = absurd (no_fewer n k j g f (omega arith))
    go (yes p) (no q) = absurd (no_fewer n j k f g (omega arith))

-- a digit more
longer : (n p : ℕ) → 10 ≤ n → IsDigitCount 10 1 (n / 10) p → IsDigitCount 10 1 n (suc p)
longer n p h f =
    let held : n < 10 ^ p * 10 = (div-lt_iff_lt-mul {k = 10} {x = n} {y = 10 ^ p} (omega arith)).0 f.1 in
    (omega arith, omega (arith, pow-suc 10 p), λ l. go (dec_le p 1))
  where
    go : Dec (p ≤ 1) → 10 ^ (suc p - 1) ≤ n
    go (yes q) =
        let e : p ≡ 1 = omega (arith, f.0) in
        subst (λ (k : ℕ). 10 ^ (suc k - 1) ≤ n) (sym e) h
    go (no q) =
        let least : 10 ^ (p - 1) ≤ n / 10 = f.2 (omega arith) in
        let e : suc p - 1 ≡ suc (p - 1) = omega arith in
        rw e (omega (arith, pow-suc 10 (p - 1), div-mul-le_self n 10))

places_fewest : (steps n : ℕ) → n ≤ steps → IsDigitCount 10 1 n (places_in steps n)
unfolding places_in
places_fewest zero n h = (omega arith, omega arith, λ l. absurd (omega arith))
places_fewest (suc steps) n h = go (λ (big : 10 ≤ n). places_fewest steps (n / 10) (omega arith)) (ltb n 10) refl
  where
    go : (10 ≤ n → IsDigitCount 10 1 (n / 10) (places_in steps (n / 10))) → (b : Bool) → ltb n 10 ≡ b
        → IsDigitCount 10 1 n (cond b 1 (suc (places_in steps (n / 10))))
    go rest true e = (omega arith, omega (arith, ltb-true n 10 e), λ l. absurd (omega arith))
    go rest false e = let big : 10 ≤ n = omega (arith, ltb-false n 10 e) in longer n _ big (rest big)

-- the digits of a number, where `k` digits are the fewest that hold it
pub digits_decimal : (n k : ℕ) → IsDigitCount 10 1 n k → last_digits 10 k n ≡ decimal n
unfolding decimal
digits_decimal n k f = ap (λ (j : ℕ). last_digits 10 j n) (one_fewest n k (places_in n n) f (places_fewest n n (omega arith)))

-- a digit more, and the digits before it are those of a tenth
decimal_then : (n : ℕ) → 10 ≤ n → decimal (n / 10) ++ ((48 + n % 10) ∷ []) ≡ decimal n
unfolding decimal
decimal_then n h =
    let p = places_in (n / 10) (n / 10) in
    let d : hex_digit_ascii (n % 10) ≡ 48 + n % 10 = rw (lt-ltb (n % 10) 10 (omega arith)) refl in
    ap (λ (g : ℕ). decimal (n / 10) ++ (g ∷ [])) (sym d)
    ∙ digits_decimal n (suc p) (longer n p h (places_fewest (n / 10) (n / 10) (omega arith)))

decimal_one : (n : ℕ) → n < 10 → (48 + n) ∷ [] ≡ decimal n
decimal_one n h =
    let e : n % 10 ≡ n = omega arith in
    let d : last_digits 10 1 n ≡ (48 + n) ∷ [] = rw (e, lt-ltb n 10 h) refl in
    sym d ∙ digits_decimal n 1 (omega arith, omega arith, λ l. absurd (omega arith))

-- what std prints of a number is its decimal
pub printed_decimal : (n : ℕ) → n < 2 ^ 64 → printed n ≡ decimal n
printed_decimal = decimal_by_steps (λ m ds. ds ≡ decimal m) decimal_one (λ m ds h e. rw e (decimal_then m h))

-- and of the signed number with these bits
pub printed_signed : (bits : ℕ) → bits < 2 ^ 64 → signed_decimal (cast_signed w64 bits) ≡ signed bits
printed_signed bits h = go (dec_le (2 ^ 63) bits)
  where
    go : Dec (2 ^ 63 ≤ bits) → signed_decimal (cast_signed w64 bits) ≡ signed bits
    go (no p) = rw (to_z_pos w64 bits (omega arith), lt-ltb bits (2 ^ 63) (omega arith)) (printed_decimal bits h)
    go (yes p) =
        let k = 2 ^ 64 - suc bits in
        let e : bits ≡ 2 ^ 64 - suc k = omega arith in
        let z : cast_signed w64 bits ≡ negsuc k = ap (cast_signed w64) e ∙ to_z-neg w64 k (omega arith) in
        let m : suc k ≡ 2 ^ 64 - bits = omega arith in
        rw (z, le-ltb bits (2 ^ 63) (omega arith), m) (ap (λ (ds : List ℕ). 45 ∷ ds) (printed_decimal (2 ^ 64 - bits) (omega arith)))

pub length_decimal : (n : ℕ) → n < 2 ^ 64 → length (decimal n) ≤ 20
length_decimal n h = rw (← printed_decimal n h) (length-decimal-le 20 n (omega arith) (omega arith) h)

-- what a caller of `add_decimal` gets, where it knows that there is room
pub adds_decimal : (n : ℕ) (text : List ℕ) (at : ℕ) (after : List ℕ) (next : ℕ) → n < 2 ^ 64 → at + 20 ≤ length text
    → record { bytes = after; place = next } ≡ added (decimal n) text at → Adds (decimal n) text at after next × (next ≤ at + 20)
adds_decimal n text at after next h room e = adds_few 20 (decimal n) text at after next (length_decimal n h) room e
