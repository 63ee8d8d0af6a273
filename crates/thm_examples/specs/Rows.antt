-- A row of the table, and what it says of the definitions
use Rattle.std.specs.Prelude.{ℕ, zero, suc, ◌≡◌, List, [], ◌∷◌, Ok, length, replicate}
use Rattle.fixed_header.specs.Header.{max_frame, header_error, parsed}
use Rattle.deframer.specs.Stream.{uncut}
use Rattle.fixed_header.specs.declared.FixedHeader.{FixedHeader}
use Rattle.deframer.specs.End.{End}
use Rattle.message.specs.Frames.{Reading, read_frame}
use Rattle.schema.specs.declared.Kind.{Kind}
use Rattle.queue.specs.declared.Job.{Job}
use Rattle.queue.specs.declared.Queue.{Queue}
use Rattle.queue.specs.Calls.{empty_queue, added, taken}

pub data Row : Type 0 where
  -- a stream, its frames and how it ends
  stream : (bytes : List ℕ) → (frames : List (List ℕ)) → End → Row
  -- a fixed header, and its refusal number; 0 is good
  judged : (header : List ℕ) → (number : ℕ) → Row
  -- a fixed header, and what it says
  says : (header : List ℕ) → FixedHeader → Row
  -- a frame, and what it reads as, with 256 row numbers lent that are 0
  reads : Kind → (frame : List ℕ) → Reading → Row
  -- jobs that are added to an empty list, and the order in which they are taken
  takes : (jobs : List Job) → (order : List Job) → Row

-- the queue after jobs were added in this order
abbrev pub added_all : Queue → List Job → Queue
added_all q [] = q
added_all q (j ∷ js) = added_all (added q j).queue js

-- the jobs that so many takes hand out; a refused take hands out one that is all zero
abbrev pub taken_all : ℕ → Queue → List Job
taken_all zero q = []
taken_all (suc n) q = (taken q).job ∷ taken_all n (taken q).queue

-- the one statement: document 01's examples are those of a connection whose ceiling is 65,536, its largest frame
abbrev pub Holds : Row → Type 0
Holds (stream bytes frames end) = uncut max_frame bytes ≡ record { frames = frames; end = end }
Holds (judged header number) = header_error max_frame header ≡ number
Holds (says header said) = parsed max_frame header ≡ Ok said
Holds (reads kind frame reading) = read_frame max_frame kind frame (replicate 256 0) ≡ reading
Holds (takes jobs order) = taken_all (length order) (added_all empty_queue jobs) ≡ order

-- of every row of a table
infixr 60 ◌and◌
pub data AllHold : List Row → Type 0 where
  no_more : AllHold []
  ◌and◌ : {row : Row} {rows : List Row} → Holds row → AllHold rows → AllHold (row ∷ rows)
