-- What a caller sees of a call of `write`, of `read_spans`, and of `read` on the frame that was written: demand 2 of the functions
-- themselves.
use Rattle.std.specs.Prelude.{ℕ, ◌≡◌, List, length, take}
use mir.Val.{Val}
use denote.Laws.{Is}
use Rattle.records.specs.contracts.Record as declared
use Rattle.message.specs.Frames.{Reading, read_frame}
use Rattle.message.specs.Spans.{spans_given, spans_of}
use Rattle.schema.specs.declared.Kind.{Kind}
use Rattle.message.specs.declared.Located.{Located}
use Rattle.records.specs.declared.Record.{Record}
use Rattle.writer.specs.Writing.{Writing, written}
use Rattle.thm_round_trip.specs.ReadsBack.{reading_of, ReadsBack}

-- ---- the `ensures` of each function, of what a call of it under the ceiling c gave; that of `read` is `Reads` (crate `thm_stream`)

abbrev pub Writes : (c : ℕ) → Record → (source numbers body output : List ℕ) → Writing → Type 0
Writes c r source numbers body output w =
    (w.answer ≡ (written c r source numbers body output).answer) × (w.output ≡ (written c r source numbers body output).output)

abbrev pub Locates : (c : ℕ) → Kind → (frame lent : List ℕ) → Located → (rows : List ℕ) → Type 0
Locates c kind frame lent x rows =
    (spans_given x ≡ spans_of (read_frame c kind frame lent) (length frame)) × (rows ≡ (read_frame c kind frame lent).rows)

-- A record that a program passes to `write`: it has a machine value, as its declared types lay it out. Every record that a program can make
-- has one; a number past its 32 bits, or a version past its 8, has none.
pub record Held (r : Record) : Type 0 where
  pub value : List Val
  pub is : Is declared.the_row r value

-- `write` left a frame of that size in `output`, and `read` under the ceiling c gave x of it
pub record CalledBack (c : ℕ) (r : Record) (source numbers body output lent : List ℕ) (size : ℕ) (x : Reading) : Type 0 where
  pub reading_is : x ≡ reading_of c r (take size output) lent
  pub reads_back : ReadsBack c r source numbers body (take size output) lent
