-- `write_raw` has room.
use Prim.Native.Nat.{ℕ, ◌+◌, ◌-◌, ◌≤◌}
use mathlib.Core.Path.{◌≡◌}
use mathlib.Core.List.{List}
use lib.ListN.{length, take, drop}
use native.Mathlib.Omega.{arith}
use Rattle.copying.specs.Stored.{stored}
use Rattle.decoder.specs.Fields.{part_of}
use Rattle.writer.specs.Straight.{Did}
use Rattle.writer.proofs.Pieces.{part_length}
use Rattle.writer.proofs.Stores.{did}
use Rattle.writer.proofs.put.put_raw.Goals as goal

raw-put : (source : List ℕ) (first size : ℕ) (out : List ℕ) (at : ℕ) → first + size ≤ length source → at + size ≤ length out
    → (after : List ℕ) → after ≡ stored out at (take (first + size - first) (drop first source))
    → Did (part_of source first size) out at (at + size) after
raw-put source first size out at h k after e =
    let same : first + size - first ≡ size = omega arith in
    let l = part_length source first size h in
    did (omega arith) (omega arith) (rw same at e)

pub returns : goal.returns
returns c =
    raw-put c.args.source.now c.args.start c.args.size c.args.out.now c.args.at c.requires.0 c.requires.1 _
    c.write_raw.ensures.1
