-- The 16 bytes in the place of the output's first.
use Prim.Native.Nat.{◌<◌, ◌≤◌}
use native.Mathlib.Omega.{arith}
use borrow.Author.Tests.{lt-leb, le-leb}
use lib.ListN.{length}
use Rattle.fixed_header.specs.Put.{header_put}
use Rattle.fixed_header.proofs.put_header.Goals as goal

pub returns-then-out-lt-HEADER : goal.returns-then-out-lt-HEADER
unfolding header_put
returns-then-out-lt-HEADER c =
    let few : length c.args.out.now < 16 = omega arith in
    let short = lt-leb _ _ few in (rw short, rw short)

pub returns : goal.returns
unfolding header_put
returns c =
    let enough : 16 ≤ length c.args.out.now = omega arith in
    let room = le-leb _ _ enough in (rw room, rw (room, c.copy_from_slice.ensures.after, c.bytes_of.ensures))
