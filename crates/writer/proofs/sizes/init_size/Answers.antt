-- The parts by what is inside them, and its own fields.
use native.Mathlib.Omega.{arith}
use Rattle.writer.proofs.Measures.{init_sized}
use Rattle.writer.proofs.sizes.init_size.Goals as goal

pub returns : goal.returns
returns c =
    let same = init_sized _ c.args.m.now.slots.now _ _ c.request_meta_size.ensures.0
    c.response_meta_size.ensures.0 in
    (omega (arith, same), omega arith)
