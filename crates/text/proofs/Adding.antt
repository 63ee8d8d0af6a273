-- What is added to the text: a word where there is room, and one thing after another is both at once
use Prim.Native.Nat.{ℕ, suc, ◌+◌, ◌-◌, ◌≤◌, ◌<◌}
use mathlib.Core.Path.{◌≡◌, refl, ap, ap₂, sym, subst, ◌∙◌}
use Rattle.std.specs.Prelude.{None, Some}
use mathlib.Core.List.{List, [], ◌∷◌, ◌++◌, append_assoc}
use native.Mathlib.Omega.{arith}
use borrow.Author.Tests.{le-leb, lt-leb}
use lib.ListN.{length, take, drop, length-append, length-take, length-drop}
use native.Mathlib.Decide.{dec_le}
use lib.Seq.{sets, sets-eq, length-sets, drop-drop}
use borrow.Rule.Slice.PartMut.{put_mid}
use Rattle.text.specs.Added.{Buffered, full, with_text, added, len_after, Adds}

-- no room
pub adds_nothing : (word text : List ℕ) (at : ℕ) → length text < at + length word
    → record { bytes = text; place = full } ≡ added word text at
unfolding added
adds_nothing word text at h = rw (lt-leb (at + length word) (length text) h)

-- room
adds_all : (word text : List ℕ) (at : ℕ) → at + length word ≤ length text
    → record { bytes = with_text text at word; place = at + length word } ≡ added word text at
unfolding added
adds_all word text at h = rw (le-leb (at + length word) (length text) h)

-- the length, by the room
pub no_length : (word text : List ℕ) (at : ℕ) → length text < at + length word → None ≡ len_after word text at
no_length word text at h = rw (lt-leb (at + length word) (length text) h)

pub new_length : (word text : List ℕ) (at end : ℕ) → (end ≡ at + length word) × (end ≤ length text) → Some end ≡ len_after word text at
new_length word text at end h =
    let e = h.0 in
    rw (le-leb (at + length word) (length text) (omega (arith, h.1)), ← e)

-- a word copied to the place that it ends from
pub adds_word : (text word part : List ℕ) (at end : ℕ) → (end ≡ at + length word) × (end ≤ length text) → part ≡ word
    → record { bytes = put_mid (end - length word) (end - (end - length word)) text part; place = end } ≡ added word text at
adds_word text word part at end h p =
    let e = h.0 in
    let s : end - length word ≡ at = omega arith in
    let n : end - at ≡ length word = omega arith in
    let bytes : put_mid (end - length word) (end - (end - length word)) text part ≡ with_text text at word =
    rw (s, p, n, drop-drop) (sym (append_assoc (take at text) word _)) in
    ap₂ (λ (bs : List ℕ) (k : ℕ). record { bytes = bs; place = k }) bytes e ∙ adds_all word text at (omega (arith, h.1))

-- the buffer is as long as it was
pub length_added : (word text : List ℕ) (at : ℕ) (after : List ℕ) (next : ℕ) → record { bytes = after; place = next } ≡ added word text at
    → length after ≡ length text
length_added word text at after next e = go (dec_le (at + length word) (length text))
  where
    go : Dec (at + length word ≤ length text) → length after ≡ length text
    go (yes h) =
        ap (λ (t : Buffered). length t.bytes) (e ∙ sym (adds_all word text at h))
        ∙ omega (arith, length-append (take at text ++ word) (drop (at + length word) text), length-append (take at text) word, length-take at text, length-drop (at + length word) text)
    go (no h) = ap (λ (t : Buffered). length t.bytes) (e ∙ sym (adds_nothing word text at (omega arith)))

-- what a caller gets of an answer, where it knows that there is room
pub adds : (word text : List ℕ) (at : ℕ) (after : List ℕ) (next : ℕ) → at + length word ≤ length text
    → record { bytes = after; place = next } ≡ added word text at → Adds word text at after next
adds word text at after next h e =
    let both = e ∙ sym (adds_all word text at h) in
    record { written = ap (λ (t : Buffered). t.bytes) both; place = ap (λ (t : Buffered). t.place) both }

-- the same of a word of at most so many bytes
pub adds_few : (most : ℕ) (word text : List ℕ) (at : ℕ) (after : List ℕ) (next : ℕ) → length word ≤ most → at + most ≤ length text
    → record { bytes = after; place = next } ≡ added word text at → Adds word text at after next × (next ≤ at + most)
adds_few most word text at after next few room e =
    let a = adds word text at after next (omega arith) e in
    (a, omega (arith, a.place))

-- the same by another name
pub adds_as : {text after x y : List ℕ} {at next : ℕ} → x ≡ y → Adds x text at after next → Adds y text at after next
adds_as {text} {after} {x} {y} {at} {next} e a = subst (λ (z : List ℕ). Adds z text at after next) e a

sets_then : (text : List ℕ) (at next : ℕ) (x y : List ℕ) → next ≡ at + length x → sets (sets text at x) next y ≡ sets text at (x ++ y)
sets_then text at next [] y e = let z : next ≡ at = omega arith in rw z
sets_then text at next (b ∷ x) y e = sets_then _ (suc at) next x y (omega arith)

-- both at once
pub adds_then : {text middle after x y : List ℕ} {at next last : ℕ} → last ≤ length text
    → Adds x text at middle next → Adds y middle next after last → Adds (x ++ y) text at after last
adds_then {text} {middle} {after} {x} {y} {at} {next} {last} h a b =
    record {
      written = b.written ∙ rw (a.written, a.place) (stored (omega (arith, a.place, b.place)));
      place = omega (arith, a.place, b.place, length-append x y);
    }
  where
    stored : at + length x + length y ≤ length text → with_text (with_text text at x) (at + length x) y ≡ with_text text at (x ++ y)
    stored room =
        let one = sets-eq x text at (omega arith) in
        let two = sets-eq y (sets text at x) (at + length x) (omega (arith, length-sets text at x)) in
        let both = sets-eq (x ++ y) text at (omega (arith, length-append x y)) in
        rw (← one, ← two, ← both) (sets_then text at (at + length x) x y refl)
