-- ASCII: of the parts of a list, byte by byte, eight at a time, and as UTF-8.
-- Assumes nothing.
use Prim.Native.Nat.{ℕ, zero, suc, ◌+◌, ◌-◌, ◌*◌, ◌/◌, ◌≤◌, ◌<◌}
use mathlib.Core.Path.{◌≡◌, refl, sym, ap, ◌∙◌}
use mathlib.Core.Bool.{Bool, true, false, ◌&&◌, and_assoc, and-true, and-false}
use mathlib.Core.List.{List, [], ◌∷◌, ◌++◌}
use native.Mathlib.Omega.{arith}
use native.Mathlib.Numerals.{add-one}
use borrow.Author.Tests.{leb-true, le-leb, lt-leb}
use lib.Dec.{leb, ltb, leb-suc-suc}
use lib.ListN.{length, take, drop, get_or, take-append-drop, length-drop, drop_of_length-le}
use lib.Seq.{drop-cons, take_all, take-take, take-add}
use Rattle.std.specs.Bool.{MatchBool}
use Rattle.std.specs.List.{AllWithin, HoldsAt}
use Rattle.std.specs.Simd.{first_chunks}
use Rattle.laws.proofs.Booleans.{both}
use Rattle.utf8.specs.Grammar.{tailed, utf8}
use Rattle.utf8.specs.Ascii.{ascii}
use Rattle.utf8.proofs.Steps.{whole}

-- ---- as UTF-8
pub ascii_is_utf8 : (s : List ℕ) → ascii s ≡ true → utf8 s ≡ true
unfolding ascii tailed
ascii_is_utf8 [] e = refl
ascii_is_utf8 (b ∷ s) e =
    let k = both (leb b 0x7F) (ascii s) e in
    let low = leb-true b 0x7F k.0 in
    whole b s 0 0x80 0xBF refl (omega arith) ∙ ascii_is_utf8 s k.1

-- ---- parts
pub ascii_append : (a b : List ℕ) → ascii (a ++ b) ≡ ascii a && ascii b
unfolding ascii
ascii_append [] b = refl
ascii_append (x ∷ a) b = rw (ascii_append a b) (sym (and_assoc (leb x 0x7F) (ascii a) (ascii b)))

pub in_two : (n : ℕ) (s : List ℕ) → ascii (take n s) && ascii (drop n s) ≡ ascii s
in_two n s = sym (ascii_append (take n s) (drop n s)) ∙ ap ascii (take-append-drop n s)

-- the first are ASCII: so are fewer of them, and all bytes are where those from a place among the first on are
module _ (s : List ℕ) (n : ℕ) (e : ascii (take n s) ≡ true) (m : ℕ) (h : m ≤ n) where
  pub fewer : ascii (take m s) ≡ true
  fewer =
      let t : ascii (take m (take n s)) && ascii (drop m (take n s)) ≡ true = in_two m (take n s) ∙ e in
      sym (ap ascii (take-take m n s h)) ∙ (both _ _ t).0

  pub rest_says : ascii (drop m s) ≡ ascii s
  rest_says = rw fewer at (in_two m s)

-- ---- byte by byte
all_low : (s : List ℕ) → ((k : ℕ) → k < length s → get_or s k 0 < 0x80) → ascii s ≡ true
unfolding ascii
all_low [] h = refl
all_low (b ∷ s) h = rw (le-leb b 0x7F (omega (arith, h 0 (omega arith)))) (all_low s (λ k p. h (suc k) (omega arith)))

one_high : (s : List ℕ) (k : ℕ) → k < length s → 0x80 ≤ get_or s k 0 → ascii s ≡ false
unfolding ascii
one_high [] k p h = absurd (omega arith)
one_high (b ∷ s) zero p h = rw (lt-leb b 0x7F (omega arith))
one_high (b ∷ s) (suc k) p h = rw (one_high s k (omega arith) h) (and-false (leb b 0x7F))

-- what `all` says of the bytes
pub one_by_one :
    (r : Bool) (s : List ℕ)
    → MatchBool r (AllWithin (λ b. b < 0x80) s 0 (length s)) ((k : ℕ) × (k < length s) × HoldsAt (λ b. 0x80 ≤ b) s k)
    → r ≡ ascii s
one_by_one true s h = sym (all_low s (λ k p. h k 0 (omega arith) p))
one_by_one false s h = sym (one_high s h.0 h.1 (h.2 0))

pub no_byte : true ≡ ascii []
unfolding ascii
no_byte = refl

-- one byte after those that were looked at
pub one_more : (ys : List ℕ) (x : ℕ) {a : Bool} → a ≡ ascii ys → a && leb (suc x) 0x80 ≡ ascii (ys ++ x ∷ [])
unfolding ascii
one_more ys x e = rw (e, leb-suc-suc x 0x7F) (sym (ascii_append ys (x ∷ []) ∙ ap (λ (b : Bool). ascii ys && b) (and-true (leb x 0x7F))))

-- the bytes from place i on are judged as all of them are
pub record AsciiFrom (s : List ℕ) (i : ℕ) : Type 0 where
  pub within : i ≤ length s
  pub same : ascii (drop i s) ≡ ascii s

module _ {s : List ℕ} {i : ℕ} (f : AsciiFrom s i) where
  pub no_more : length s ≤ i → true ≡ ascii s
  unfolding ascii
  no_more h = rw (drop_of_length-le s h) at f.same

  module _ (inside : i < length s) where
    here : leb (get_or s i 0) 0x7F && ascii (drop (i + 1) s) ≡ ascii s
    unfolding ascii
    here =
        let e : ascii (drop i s) ≡ leb (get_or s i 0) 0x7F && ascii (drop (i + 1) s) = rw (add-one, drop-cons s i 0 inside) in
        sym e ∙ f.same

    pub byte_passes : get_or s i 0 < 0x80 → AsciiFrom s (i + 1)
    byte_passes h = record { within = omega arith; same = rw (le-leb (get_or s i 0) 0x7F (omega arith)) at here }

    pub byte_stops : 0x80 ≤ get_or s i 0 → false ≡ ascii s
    byte_stops h = rw (lt-leb (get_or s i 0) 0x7F (omega arith)) at here

-- ---- eight at a time

to_right : (a b c d e f g h : Bool) → a && b && c && d && e && f && g && h ≡ a && (b && (c && (d && (e && (f && (g && (h && true)))))))
to_right a b c d e f g h = simp (and_assoc, and-true)

module _ (s : List ℕ) where
  abbrev low : ℕ → Bool
  low at = ltb (get_or s at 0) 0x80

  module _ (n at next : ℕ) (inside : at < length s) (then : at + 1 ≡ next) where
    low_first : low at && ascii (take n (drop next s)) ≡ ascii (take (suc n) (drop at s))
    unfolding ascii
    low_first = rw (sym then, add-one, drop-cons s at 0 inside, leb-suc-suc (get_or s at 0) 0x7F)

  -- the comparisons of the code
  pub eight : (at : ℕ) → at + 8 ≤ length s
      → low at && low (at + 1) && low (at + 2) && low (at + 3) && low (at + 4) && low (at + 5) && low (at + 6) && low (at + 7)
      ≡ ascii (take 8 (drop at s))
  unfolding ascii
  eight at h =
      rw (
        sym (low_first 7 at (at + 1) (omega arith) (omega arith)),
        sym (low_first 6 (at + 1) (at + 2) (omega arith) (omega arith)),
        sym (low_first 5 (at + 2) (at + 3) (omega arith) (omega arith)),
        sym (low_first 4 (at + 3) (at + 4) (omega arith) (omega arith)),
        sym (low_first 3 (at + 4) (at + 5) (omega arith) (omega arith)),
        sym (low_first 2 (at + 5) (at + 6) (omega arith) (omega arith)),
        sym (low_first 1 (at + 6) (at + 7) (omega arith) (omega arith)),
        sym (low_first 0 (at + 7) (at + 8) (omega arith) (omega arith)),
      )
      (to_right (low at) (low (at + 1)) (low (at + 2)) (low (at + 3)) (low (at + 4)) (low (at + 5)) (low (at + 6)) (low (at + 7)))

-- All before the eight bytes that end at place i are ASCII.
pub record Passed (s : List ℕ) (i : ℕ) : Type 0 where
  pub from : 8 ≤ i
  pub passed : ascii (take (i - 8) s) ≡ true

pub passed_none : (s : List ℕ) {i : ℕ} → i ≡ 8 → Passed s i
unfolding ascii
passed_none s e = rw e (record { from = omega arith; passed = refl })

module _ {s : List ℕ} {i : ℕ} (p : Passed s i) where
  pub passes_eight : {j : ℕ} → j ≡ i + 8 → ascii (take 8 (drop (i - 8) s)) ≡ true → Passed s j
  passes_eight {j} n e =
      let at : i - 8 + 8 ≡ j - 8 = omega (arith, p.from) in
      record {
        from = omega arith;
        passed =
            sym (ap (λ (k : ℕ). ascii (take k s)) at)
            ∙ ap ascii (take-add (i - 8) 8 s)
            ∙ ascii_append (take (i - 8) s) (take 8 (drop (i - 8) s))
            ∙ rw (p.passed, e);
      }

  pub eight_stop : ascii (take 8 (drop (i - 8) s)) ≡ false → false ≡ ascii s
  eight_stop e = rw e at (in_two 8 (drop (i - 8) s)) ∙ rest_says s (i - 8) p.passed (i - 8) (omega arith)

  -- the last eight, which may overlap those passed
  pub last_eight_passed : length s ≤ i → 8 ≤ length s → ascii (take 8 (drop (length s - 8) s)) ≡ ascii s
  last_eight_passed h l =
      ap ascii (take_all 8 (drop (length s - 8) s) (omega (arith, length-drop (length s - 8) s)))
      ∙ rest_says s (i - 8) p.passed (length s - 8) (omega arith)

all_ascii : (n : ℕ) (s : List ℕ) → ((k : ℕ) → k < n → ascii (get_or (first_chunks 8 n s) k []) ≡ true) → ascii (take (n * 8) s) ≡ true
unfolding ascii
all_ascii zero s h = refl
all_ascii (suc n) s h =
    let e : suc n * 8 ≡ 8 + n * 8 = omega arith in
    rw (e, take-add 8 (n * 8) s, ascii_append (take 8 s) (take (n * 8) (drop 8 s)), h 0 (omega arith))
    (all_ascii n (drop 8 s) (λ k p. h (suc k) (omega arith)))

one_not : (n k : ℕ) (s : List ℕ) → k < n → ascii (get_or (first_chunks 8 n s) k []) ≡ false → ascii s ≡ false
one_not zero k s p h = absurd (omega arith)
one_not (suc n) zero s p h = sym (rw h at (in_two 8 s))
one_not (suc n) (suc k) s p h = sym (in_two 8 s) ∙ rw (one_not n k (drop 8 s) (omega arith) h) (and-false (ascii (take 8 s)))

-- what `all` says of the eights of a list, and the last eight, which may overlap them
module _
    {r : Bool} (s : List ℕ) {cs : List (List ℕ)} (is : cs ≡ first_chunks 8 (length s / 8) s) (n : length cs ≡ length s / 8)
    (h : MatchBool r (AllWithin (λ c. ascii c ≡ true) cs 0 (length cs)) ((k : ℕ) × (k < length cs) × HoldsAt (λ c. ascii c ≡ false) cs k)) where
  pub eight_stops : r ≡ false → false ≡ ascii s
  eight_stops e =
      let f : (k : ℕ) × (k < length cs) × HoldsAt (λ c. ascii c ≡ false) cs k = rw e at h in
      sym
      (one_not (length s / 8) f.0 s (omega arith)
      (sym (ap (λ (ks : List (List ℕ)). ascii (get_or ks f.0 [])) is) ∙ f.2 []))

  pub last_eight : r ≡ true → 8 ≤ length s → ascii (drop (length s - 8) s) ≡ ascii s
  last_eight e l =
      let f : AllWithin (λ c. ascii c ≡ true) cs 0 (length cs) = rw e at h in
      rest_says s (length s / 8 * 8) (all_ascii (length s / 8) s (λ k p. rw is at (f k [] (omega arith) (omega arith)))) (length s - 8) (omega arith)
