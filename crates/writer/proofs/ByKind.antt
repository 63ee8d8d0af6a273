-- What the fields of each kind need, from what is known of a kind's message
use Prim.Native.Nat.{ℕ, ◌+◌, ◌≤◌, ◌<◌}
use mathlib.Core.Path.{◌≡◌, ap}
use mathlib.Core.Bool.{true}
use mathlib.Core.List.{List}
use lib.ListN.{length, get_or}
use native.Mathlib.Omega.{arith}
use Rattle.schema.specs.Schema.{uint32}
use Rattle.schema.specs.Kinds.{schema_of}
use Rattle.schema.specs.declared.Kind.{Kind}
use Rattle.schema.specs.declared.Kind.TheVariants as kinds
use Rattle.writer_checks.specs.Grounds.{spans_within}
use Rattle.writer.specs.Encoding.{put_number}
use Rattle.writer.specs.Straight.{fours, message_bytes, NamesIn, SpanIn, MetaIn, request_length, response_length, close_length, init_length}
use Rattle.writer.proofs.Pieces.{request_length_lem, response_length_lem, close_length_lem, init_length_lem, feedback_is}
use Rattle.writer.proofs.Frames.{request_in, response_in, close_in, init_in}

module _ (kind : Kind) (slots : List ℕ) (rows : List (List ℕ)) (source : List ℕ) (at room : ℕ) where
  abbrev Ready : Kind → Type 0
  Ready k = (spans_within (length source) (schema_of k) 0 slots ≡ true) × (at + length (message_bytes k slots rows source) ≤ room)

  pub ready_request : kind ≡ kinds.Request → Ready kind
      → NamesIn (length source) slots × (at + request_length source (fours rows) slots ≤ room)
  ready_request e h =
      let k = rw e at h in
      (request_in _ _ k.0, rw (request_length_lem source (fours rows) slots) at k.1)

  pub ready_response : kind ≡ kinds.Response → Ready kind
      → SpanIn (length source) slots 5 × (at + response_length source (fours rows) slots ≤ room)
  ready_response e h =
      let k = rw e at h in
      (response_in _ _ k.0, rw (response_length_lem source (fours rows) slots) at k.1)

  pub ready_close : kind ≡ kinds.Close → Ready kind
      → SpanIn (length source) slots 2 × (at + close_length source (fours rows) slots ≤ room)
  ready_close e h =
      let k = rw e at h in
      (close_in _ _ k.0, rw (close_length_lem source (fours rows) slots) at k.1)

  pub ready_init : kind ≡ kinds.Init → Ready kind
      → MetaIn (length source) slots × SpanIn (length source) slots 10
      × (at + init_length source (fours rows) slots ≤ room)
  ready_init e h =
      let k = rw e at h in
      let spans = init_in _ _ k.0 in
      (spans.0, spans.1, rw (init_length_lem source (fours rows) slots) at k.1)

  pub ready_feedback : kind ≡ kinds.Feedback → Ready kind → (1 < 16) × (at + length (put_number uint32 1 (get_or slots 0 0)) ≤ room)
  ready_feedback e h =
      let k = rw e at h in
      (omega arith, omega (arith, k.1, ap length (feedback_is source (fours rows) slots)))
