-- After the first part the output has `size` bytes of the source, and the last part starts at or before their end.
use Prim.Native.Nat.{ℕ, ◌+◌, ◌-◌, ◌≤◌}
use mathlib.Core.Path.{◌≡◌, refl, sym, ap, ◌∙◌}
use mathlib.Core.List.{List, ◌++◌}
use lib.ListN.{length, take, drop}
use lib.Seq.{length-take-le}
use native.Mathlib.Omega.{arith}
use Rattle.copying.proofs.Copied.{Copied, copied, copied_on, copied_all}
use Rattle.copying.proofs.short.copy_ends.Goals as goal

module _ (source out₀ out tail : List ℕ) (size last rest : ℕ) (is_last : last ≡ length source - size)
    (is-rest : rest ≡ length source - last)
    (some : size ≤ length source) (twice : length source ≤ size + size) (room : length source ≤ length out₀)
    (first : out ≡ take size source ++ drop (length (take size source)) out₀)
    (second : tail
    ≡ take rest (drop last source) ++ drop (length (take rest (drop last source))) (take (length out - last) (drop last out)))
  where
    first-copied : Copied source out₀ out size
    first-copied = copied some room (first ∙ ap (λ (n : ℕ). take size source ++ drop n out₀) (length-take-le size source some))

    both_ends : take last out ++ (tail ++ drop (length out - last) (drop last out)) ≡ source ++ drop (length source) out₀
    both_ends = copied_all (copied_on first-copied last rest (omega arith) (omega arith) (omega arith) second) (omega arith)

pub slice_bounds-copy_part-end : goal.slice_bounds-copy_part-end
slice_bounds-copy_part-end c =
    sym (length-take-le c.args.size c.args.source.now c.requires.1)

pub copy_part-requires : goal.copy_part-requires
copy_part-requires c =
    let long = length-take-le c.args.size c.args.source.now c.requires.1 in
    (omega arith, omega arith)

pub returns : goal.returns
returns c =
    both_ends c.args.source.now c.args.out.now _ _ c.args.size _ _ refl refl c.requires.1 c.requires.2
    c.requires.3 c.copy_part.ensures c.copy_part-2.ensures
