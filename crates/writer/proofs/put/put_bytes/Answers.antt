-- The tag and the length, then the bytes.
use native.Mathlib.Omega.{arith}
use Rattle.writer.proofs.Stores.{then}
use Rattle.writer.proofs.Pieces.{span_is, span_length}
use Rattle.writer.proofs.put.put_bytes.Goals as goal

pub put_head-next-requires : goal.put_head-next-requires
put_head-next-requires c =
    omega (arith, span_length _ c.requires.0 c.args.source.now c.args.start c.args.size c.requires.1)

pub put_raw-requires : goal.put_raw-requires
put_raw-requires c = (
  c.requires.1,
  omega (
    arith,
    span_length _ c.requires.0 c.args.source.now c.args.start c.args.size
        c.requires.1,
  ),
)

pub returns : goal.returns
returns c =
    rw (span_is _ c.requires.0 c.args.source.now c.args.start c.args.size c.requires.1) (search then)
