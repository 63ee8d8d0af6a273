-- Bytes 15 and 16 of a written frame. Document 02, P2: "the writer writes the version given and 0 in byte 16."
-- Assumes nothing.
use Rattle.std.specs.Prelude.{ℕ, ◌≡◌, List, get_or}

-- both bytes are there, since a written frame has 16 or more (`frame_length`)
pub record LastTwo (version : ℕ) (frame : List ℕ) : Type 0 where
  pub byte_15 : get_or frame 14 0 ≡ version
  pub byte_16 : get_or frame 15 0 ≡ 0
