-- The tag and the length of the entry, its key, its value. Each tag of the last two has one byte.
use native.Mathlib.Omega.{arith}
use Rattle.writer_checks.specs.Fours.{row_of}
use Rattle.writer.proofs.Stores.{then}
use Rattle.writer.proofs.Pieces.{entry_is, entry_room}
use Rattle.writer.proofs.put.put_entry.Goals as goal

pub put_head-inside-requires : goal.put_head-inside-requires
put_head-inside-requires c =
    omega (
      arith,
      entry_room _ c.requires.0 c.args.source.now (row_of c.args.row.now) c.requires.1 _
          c.entry_size-size.ensures.0,
    )

pub put_bytes-second-requires : goal.put_bytes-second-requires
put_bytes-second-requires c = (
  omega arith,
  c.requires.1.0,
  omega (
    arith,
    entry_room _ c.requires.0 c.args.source.now (row_of c.args.row.now) c.requires.1 _
        c.entry_size-size.ensures.0,
  ),
)

pub put_bytes-requires : goal.put_bytes-requires
put_bytes-requires c = (
  omega arith,
  c.requires.1.1,
  omega (
    arith,
    entry_room _ c.requires.0 c.args.source.now (row_of c.args.row.now) c.requires.1 _
        c.entry_size-size.ensures.0,
  ),
)

pub returns : goal.returns
returns c =
    rw (entry_is _ c.requires.0 c.args.source.now (row_of c.args.row.now) c.requires.1 _
    c.entry_size-size.ensures.0)
    (search then)
