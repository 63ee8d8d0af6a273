-- A part of a slice: its length, its first byte, and what is left of it further on.
use Prim.Native.Nat.{ℕ, suc, pred, ◌+◌, ◌-◌, ◌<◌, ◌≤◌, min}
use mathlib.Core.Path.{◌≡◌, ◌∙◌}
use mathlib.Core.List.{List, [], ◌∷◌, ◌++◌}
use lib.ListN.{length, take, drop, get_or, length-take, length-drop}
use lib.Seq.{drop-cons, drop-drop, take-add, take-take, take_all}
use native.Mathlib.Omega.{arith}
use Rattle.laws.proofs.Lists.{empty, drop_take, tail_all}
use Rattle.wire_read.specs.Part.{part}

pub part_length : (s : List ℕ) (at end : ℕ) → length (part s at end) ≡ min end (length s) - at
part_length s at end = simp (length-take, length-drop) (omega arith)

-- at or past its end a part has no byte
pub part_empty : (s : List ℕ) (at end : ℕ) → min end (length s) ≤ at → part s at end ≡ []
part_empty s at end h = empty (part s at end) (omega (arith, part_length s at end))

pub part_cons : (s : List ℕ) (at end : ℕ) → at < min end (length s) → part s at end ≡ get_or s at 0 ∷ part s (suc at) end
part_cons s at end h =
    let one : end - at ≡ suc (end - suc at) = omega arith in
    let some : at < length s = omega arith in
    rw (one, drop-cons s at 0 some)

-- what is left of a part after `n` bytes is the part that starts there
pub part_drop : (s : List ℕ) (at end n : ℕ) → drop n (part s at end) ≡ part s (at + n) end
part_drop s at end n =
    let e : end - at - n ≡ end - (at + n) = omega arith in
    drop_take n (end - at) (drop at s) ∙ rw (drop-drop n at s, e)

-- a part that starts further on is shorter
pub part_shorter : (s : List ℕ) (i j end : ℕ) → i < j → i < min end (length s) → length (part s j end) ≤ pred (length (part s i end))
part_shorter s i j end h k = omega (arith, part_length s j end, part_length s i end)

-- a part that ends later is the part and what follows it
pub part_append : (s : List ℕ) (at mid end : ℕ) → at ≤ mid → mid ≤ end → part s at end ≡ part s at mid ++ part s mid end
part_append s at mid end h k =
    let sizes : end - at ≡ mid - at + (end - mid) = omega arith in
    let there : at + (mid - at) ≡ mid = omega arith in
    rw (sizes, take-add (mid - at) (end - mid) (drop at s), drop-drop (mid - at) at s, there)

-- `size` bytes of a part, from place `start`, are a part
pub part_inner : (s : List ℕ) (at end start size : ℕ) → at ≤ start → start + size ≤ end
    → take size (drop (start - at) (part s at end)) ≡ part s start (start + size)
part_inner s at end start size h k =
    let there : at + (start - at) ≡ start = omega arith in
    let sizes : start + size - start ≡ size = omega arith in
    rw (part_drop s at end (start - at), there, sizes) (take-take size (end - start) (drop start s) (omega arith))

-- the part from the first place to the last is the slice
pub part_all : (s : List ℕ) (end : ℕ) → length s ≤ end → part s 0 end ≡ s
part_all s end h = take_all (end - 0) s (omega arith)

-- the part that ends with the slice is what is left of it
pub part_rest : (s : List ℕ) (at : ℕ) → part s at (length s) ≡ drop at s
part_rest s at = tail_all at s
