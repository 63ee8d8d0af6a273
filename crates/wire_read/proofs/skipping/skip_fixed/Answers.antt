-- `skip_fixed` meets its contract. The part has as many bytes as lie between its places.
use Prim.Native.Nat.{ℕ, ◌+◌, ◌-◌, ◌<◌, ◌≤◌, min}
use mathlib.Core.Path.{◌≡◌}
use mathlib.Core.List.{List}
use lib.ListN.{length}
use native.Mathlib.Omega.{arith}
use borrow.Author.Tests.{le-leb, lt-leb}
use Rattle.std.specs.Prelude.{Ok, Err}
use Rattle.wire_read.specs.Part.{part}
use Rattle.wire_read.specs.Placed.{skip_at}
use Rattle.wire_read.specs.Skipping.{skip_fixed}
use Rattle.wire_read.proofs.PartLaws.{part_length}
use Rattle.wire_read.proofs.skipping.skip_fixed.Goals as goal

module _ (s : List ℕ) (at end stop : ℕ) (is_stop : stop ≡ min end (length s)) (width : ℕ) where
  over : at < stop → width ≤ stop - at → Ok (at + width) ≡ skip_at at (skip_fixed width (part s at end))
  unfolding skip_fixed skip_at
  over a h = rw (le-leb width (length (part s at end)) (omega (arith, part_length s at end)))

  too_short : stop - at < width → Err 12 ≡ skip_at at (skip_fixed width (part s at end))
  unfolding skip_fixed skip_at
  too_short h = rw (lt-leb width (length (part s at end)) (omega (arith, part_length s at end)))

pub returns-then-width-stop : goal.returns-then-width-stop
returns-then-width-stop c =
    over _ _ _ _ c.part_end-stop.ensures _ (omega arith) (omega arith)

pub returns : goal.returns
returns c =
    too_short _ _ _ _ c.part_end-stop.ensures _ (omega (arith, c.requires))
