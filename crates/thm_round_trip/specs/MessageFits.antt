-- The size of the message of a written frame, and bytes 9-10.
-- Assumes nothing.
use Rattle.std.specs.Prelude.{ℕ, ◌+◌, ◌*◌, ◌≤◌, ◌≡◌, List, length, get_or}
use Rattle.schema.specs.declared.Kind.{Kind}
use Rattle.schema.specs.declared.Kind.TheVariants as kinds

-- "header size | unary: at most total less 16; stream: 0": what bytes 9-10 say of a message of `size` bytes
abbrev pub size_said : Kind → (size : ℕ) → ℕ
size_said kinds.Request size = size
size_said kinds.Response size = size
size_said kinds.Init size = 0
size_said kinds.Data size = 0
size_said kinds.Feedback size = 0
size_said kinds.Close size = 0

-- of a frame that was written under the ceiling c
pub record MessageFits (c : ℕ) (kind : Kind) (message frame : List ℕ) : Type 0 where
  -- the message and the 16 bytes are at most the ceiling
  pub under_ceiling : 16 + length message ≤ c
  -- 65,536 less the 16 bytes
  pub at_most : length message ≤ 65520
  -- "Numbers are big-endian": the frame's ninth byte and its tenth, which are there, since a written frame has 16 or more (`frame_length`)
  pub bytes_hold : get_or frame 8 0 * 256 + get_or frame 9 0 ≡ size_said kind (length message)
