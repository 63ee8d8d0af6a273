-- `ascii_8` meets its contract: byte by byte, as far as the eight go. Assumes nothing.
use mathlib.Core.Path.{◌≡◌}
use mathlib.Core.Bool.{Bool}
use mathlib.Core.List.{List}
use Prim.Native.Nat.{ℕ}
use Rattle.std.proofs.Common.{rules}
use Rattle.std.proofs.iter.Yields.{fronts}
use Rattle.std.proofs.lemmas.Fn.{fold_over}
use Rattle.std.proofs.lemmas.Iterator.{YieldsList-from_slice}
use Rattle.utf8.specs.Ascii.{ascii}
use Rattle.utf8.proofs.AsciiLaws.{one_more, no_byte}
use Rattle.utf8.proofs.ascii_8.Goals as goal

pub returns : goal.returns
returns c =
    fold_over fronts (λ y. y.now) _ (λ (ys : List ℕ) (a : Bool). a ≡ ascii ys) _ (λ ys a x b f' j k. (search (rules, one_more), search rules)) c.iter.result _ _ _
    (YieldsList-from_slice c.args.eight.now c.iter.ensures.rest).runs no_byte c.fold.ensures.ran
