-- The stream, which is the bytes held and then a piece
use Prim.Native.Nat.{ℕ, ◌+◌, ◌-◌, ◌≤◌, ◌<◌, min}
use mathlib.Core.Path.{◌≡◌, sym, ap, ◌∙◌}
use mathlib.Core.List.{List, ◌++◌}
use native.Mathlib.Omega.{arith}
use native.Mathlib.Nat.{add-sub_of_le}
use lib.ListN.{length, take, drop, length-append}
use lib.Seq.{take_all, length-take-le, take-append-add, drop-append-add, take-append-le, take-take}
use Rattle.deframer.specs.Deframe.{stream}

module _ (d s : List ℕ) (at : ℕ) (fits : at ≤ length d) where
  pub stream_length : length (stream at d s) ≡ at + length s
  stream_length = length-append (take at d) s ∙ ap (λ (n : ℕ). n + length s) (length-take-le at d fits)

  pub take_stream : (n : ℕ) → take (at + n) (stream at d s) ≡ stream at d (take n s)
  take_stream n = ap (λ (k : ℕ). take (k + n) (stream at d s)) (sym (length-take-le at d fits)) ∙ take-append-add (take at d) s n

  pub drop_stream : (n : ℕ) → drop (at + n) (stream at d s) ≡ drop n s
  drop_stream n = ap (λ (k : ℕ). drop (k + n) (stream at d s)) (sym (length-take-le at d fits)) ∙ drop-append-add (take at d) s n

  -- the bytes held are the stream's first
  pub stream_head : (n : ℕ) → n ≤ at → take n (stream at d s) ≡ take n d
  stream_head n h = take-append-le n (take at d) s (omega (arith, length-take-le at d fits)) ∙ take-take n at d h

  -- the bytes held and the next k - at of the piece are the stream's first k
  pub stream_reach : (k : ℕ) → at ≤ k → take at d ++ take (k - at) s ≡ take k (stream at d s)
  stream_reach k h = sym (ap (λ (m : ℕ). take m (stream at d s)) (sym (add-sub_of_le h)) ∙ take_stream (k - at))

-- all of the piece goes in, or as much as there is room for
module _ (d s ys : List ℕ) (at goal : ℕ) (h : at ≤ goal) (g : goal ≤ length d) where
  pub fill_all : length s < goal - at → ys ≡ stream at d s ++ drop (at + length s) d
      → (at + length s ≡ min goal (length (stream at d s))) × (ys ≡ take (at + length s) (stream at d s) ++ drop (at + length s) d)
  fill_all l e =
      let n = stream_length d s at (omega arith) in
      (omega (arith, n), rw (take_all (at + length s) (stream at d s) (omega (arith, n))) e)

  pub fill_some : goal - at ≤ length s → ys ≡ stream at d (take (goal - at) s) ++ drop (at + length (take (goal - at) s)) d
      → (goal ≡ min goal (length (stream at d s))) × (ys ≡ take goal (stream at d s) ++ drop goal d)
  fill_some l e =
      let n : at + length (take (goal - at) s) ≡ goal = ap (λ (k : ℕ). at + k) (length-take-le (goal - at) s l) ∙ add-sub_of_le h in (
        omega (arith, stream_length d s at (omega arith)),
        e ∙ ap (λ (k : ℕ). stream at d (take (goal - at) s) ++ drop k d) n
            ∙ ap (λ (x : List ℕ). x ++ drop goal d) (stream_reach d s at (omega arith) goal h),
      )
