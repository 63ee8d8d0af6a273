-- A part's span starts within the frame: what is there is the part, and an empty one starts at 0.
use Prim.Native.Nat.{ℕ, ◌+◌, ◌-◌, min}
use mathlib.Core.Path.{◌≡◌, refl, ap, subst, sym, ◌∙◌}
use mathlib.Core.Bool.{Bool, true, false, cond}
use mathlib.Core.List.{List}
use native.Mathlib.Omega.{arith}
use borrow.Author.Tests.{eqb-false}
use lib.Dec.{eqb}
use lib.ListN.{length}
use Rattle.wire_read.specs.Part.{part}
use Rattle.wire_read.proofs.PartLaws.{part_length}
use Rattle.message.specs.Spans.{span_from, bytes_at}

pub starts_within : (f l : List ℕ) (start : ℕ) → bytes_at f (span_from start (length l)) ≡ l
    → min (span_from start (length l)).start (length f) ≡ (span_from start (length l)).start
starts_within f l start e = by (eqb (length l) 0) refl
  where
    by : (b : Bool) → eqb (length l) 0 ≡ b → min (cond b 0 start) (length f) ≡ cond b 0 start
    by true h = omega arith
    by false h =
        let there : part f start (start + length l)
        ≡ l = subst (λ (b : Bool). bytes_at f (record { start = cond b 0 start; len = length l }) ≡ l) h e in
        let size : length l ≡ min (start + length l) (length f) - start = sym (ap length there) ∙ part_length f start (start + length l) in
        omega (arith, eqb-false (length l) 0 h)
