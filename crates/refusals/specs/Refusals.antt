-- The papers' number of each refusal, and what an answer of the code says in the papers' numbers. Document 01: "For an answer that is an
-- enum, a definition gives this paper's number and values for each of its cases."
-- Assumes nothing: these are definitions.
use Rattle.std.specs.Prelude.{ℕ, Result, Ok, Err}
use Rattle.refusals.specs.Numbers
use Rattle.refusals.specs.declared.Refusal.{Refusal}
use Rattle.refusals.specs.declared.Refusal.TheVariants as refusals

abbrev pub number : Refusal → ℕ
number refusals.BufferShort = Numbers.buffer_short
number refusals.StateUnknown = Numbers.state_unknown
number refusals.BadMagic = Numbers.bad_magic
number refusals.BadDataType = Numbers.bad_data_type
number refusals.BadStreamType = Numbers.bad_stream_type
number refusals.BadTotal = Numbers.bad_total
number refusals.BadHeaderSize = Numbers.bad_header_size
number refusals.WrongFrame = Numbers.wrong_frame
number refusals.BadVarint = Numbers.bad_varint
number refusals.BadTag = Numbers.bad_tag
number refusals.PastEnd = Numbers.past_end
number refusals.TooDeep = Numbers.too_deep
number refusals.TooManyEntries = Numbers.too_many_entries
number refusals.BadBody = Numbers.bad_body
number refusals.RowsShort = Numbers.rows_short
number refusals.PastSource = Numbers.past_source
number refusals.BadRows = Numbers.bad_rows
number refusals.FrameOver = Numbers.frame_over
number refusals.QueueFull = Numbers.queue_full
number refusals.LateArrival = Numbers.late_arrival
number refusals.QueueEmpty = Numbers.queue_empty
number refusals.BadQueue = Numbers.bad_queue
number refusals.PairWaits = Numbers.pair_waits
number refusals.PairAbsent = Numbers.pair_absent
number refusals.OutputShort = Numbers.output_short
number refusals.BadCeiling = Numbers.bad_ceiling

-- an answer with the papers' number in place of the refusal
abbrev pub in_numbers : {A : Type 0} → Result A Refusal → Result A ℕ
in_numbers (Ok a) = Ok a
in_numbers (Err refusal) = Err (number refusal)

-- the number in an answer, "0 or the refusal"
abbrev pub code_of : {A : Type 0} → Result A Refusal → ℕ
code_of (Ok a) = 0
code_of (Err refusal) = number refusal
