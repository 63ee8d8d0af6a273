-- Up to i the output has the source, and after it what was there (`Copied`).
use Prim.Native.Nat.{ℕ, ◌+◌, ◌-◌, ◌≤◌, ◌<◌}
use mathlib.Core.Path.{◌≡◌, refl, subst}
use mathlib.Core.List.{List, ◌++◌}
use lib.ListN.{length, take, drop}
use native.Mathlib.Omega.{arith}
use Rattle.copying.proofs.Copied.{Copied, copied_all, part_length, part_room, copied_on}
use Rattle.copying.proofs.parts.copy_parts.Goals as goal

copied-to : {source out₀ out tail : List ℕ} {i : ℕ} → Copied source out₀ out i → (end : ℕ) → i < end → end ≤ length source
    → tail ≡ take (end - i) (drop i source) ++ drop (length (take (end - i) (drop i source))) (take (length out - i) (drop i out))
    → Copied source out₀ (take i out ++ (tail ++ drop (length out - i) (drop i out))) end
copied-to {source} {out₀} {out} {tail} {i} m end l h e =
    let same : i + (end - i) ≡ end = omega arith in
    subst (Copied source out₀ (take i out ++ (tail ++ drop (length out - i) (drop i out)))) same
    (copied_on m i (end - i) (omega arith) (omega arith) (omega arith) e)

pub loop-i-init : goal.loop-i-init
loop-i-init c = record { place = omega arith; room = c.requires; size = refl; same = refl }

pub copy_part-requires : goal.copy_part-requires
copy_part-requires c =
    let at-loop = c.loop-i in
    let i = at-loop.i in
    let k = c.part_end-end.result - i in
    let l = part_length at-loop.invariant i k (omega arith) (omega arith) (omega arith) in
    (omega arith, part_room at-loop.invariant i k (omega arith) (omega arith) (omega arith))

pub loop-i-preserved : goal.loop-i-preserved
loop-i-preserved c =
    let end = c.part_end-end.ensures in
    copied-to c.loop-i.invariant _ end.0 end.1 c.copy_part.ensures

pub returns : goal.returns
returns c = copied_all c.loop-i.invariant c.loop-i-test.false

pub part_end-end-requires : goal.part_end-end-requires
part_end-end-requires c =
    omega arith

pub slice_bounds-copy_part-count : goal.slice_bounds-copy_part-count
slice_bounds-copy_part-count c =
    omega arith

pub slice_bounds-copy_part-start : goal.slice_bounds-copy_part-start
slice_bounds-copy_part-start c =
    omega arith

pub slice_bounds-copy_part-end : goal.slice_bounds-copy_part-end
slice_bounds-copy_part-end c =
    omega arith

pub slice_bounds-copy_part-count-in-loop-i : goal.slice_bounds-copy_part-count-in-loop-i
slice_bounds-copy_part-count-in-loop-i c =
    omega arith

pub slice_bounds-copy_part-start-in-loop-i : goal.slice_bounds-copy_part-start-in-loop-i
slice_bounds-copy_part-start-in-loop-i c =
    omega arith

pub slice_bounds-copy_part-end-in-loop-i : goal.slice_bounds-copy_part-end-in-loop-i
slice_bounds-copy_part-end-in-loop-i c =
    omega arith

pub loop-i-smaller : goal.loop-i-smaller
loop-i-smaller c =
    omega arith

pub shape_of-out : goal.shape_of-out
shape_of-out c =
    c.loop-i.invariant.size
