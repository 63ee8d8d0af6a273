-- Why nothing is lost with refusal 20 (`WithoutTwenty`): a message over 65,535 bytes makes a frame over every ceiling.
-- Assumes nothing.
use Prim.Native.Nat.{ℕ, ◌+◌, ◌<◌, ◌≤◌}
use mathlib.Core.Path.{◌≡◌}
use mathlib.Core.List.{List}
use native.Mathlib.Omega.{arith}
use lib.ListN.{length}
use Rattle.fixed_header.specs.Header.{max_frame}
use Rattle.records.specs.declared.Record.{Record}
use Rattle.records.specs.Content.{kind_of, record_id, record_version}
use Rattle.writer.specs.Writing.{message_of, frame_of}
use Rattle.thm_round_trip.proofs.FrameBack.{frame_length}

-- "20 | writer | header message over 65,535"
abbrev pub max_header : ℕ
max_header = 65535

-- the message and the frame around it
module _ (r : Record) (source numbers body : List ℕ) where
  abbrev message : List ℕ
  message = message_of r source numbers

  abbrev frame : List ℕ
  frame = frame_of r source numbers body

  pub frame_size : length frame ≡ 16 + length message + length body
  unfolding frame_of
  frame_size = frame_length (kind_of r) (record_id r) (record_version r) message body

  pub over_every_ceiling : (ceiling : ℕ) → ceiling ≤ max_frame → max_header < length message → ceiling < length frame
  over_every_ceiling ceiling within over = omega (arith, frame_size)
