-- Fewer than 16 bytes, or their first 16.
use Prim.Native.Nat.{◌<◌, ◌≤◌}
use mathlib.Core.Path.{sym}
use native.Mathlib.Omega.{arith}
use borrow.Author.Tests.{lt-ltb, le-ltb}
use lib.ListN.{length}
use lib.Seq.{length-take-le}
use Rattle.fixed_header.specs.Header.{declared_size}
use Rattle.fixed_header.proofs.declared_size.Goals as goal

pub returns-then-bytes-lt-HEADER : goal.returns-then-bytes-lt-HEADER
unfolding declared_size
returns-then-bytes-lt-HEADER c =
    let few : length c.args.bytes.now < 16 = omega arith in
    rw (lt-ltb _ _ few)

pub slice_bounds-total-end : goal.slice_bounds-total-end
slice_bounds-total-end c = sym (length-take-le 16 c.args.bytes.now (omega arith))

pub total-requires : goal.total-requires
total-requires c = omega (arith, length-take-le 16 c.args.bytes.now (omega arith))

pub returns : goal.returns
unfolding declared_size
returns c =
    let enough : 16 ≤ length c.args.bytes.now = omega arith in
    rw (le-ltb _ _ enough) c.total.ensures
