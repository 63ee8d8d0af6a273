-- `set_bytes` meets its contract: the two stores are those of the definition.
use Rattle.decoder.specs.DecoderState.{with_bytes}
use Rattle.decoder.proofs.messages.set_bytes.Goals as goal

pub returns : goal.returns
unfolding with_bytes
returns c =
    rw c.start_of.ensures
