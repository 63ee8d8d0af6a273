-- What a step of the listing adds to the text, and what its functions ask of their buffers
use Rattle.std.specs.Prelude.{◌≡◌, ℕ, ◌+◌, ◌%◌, ◌^◌, ◌≤◌, true, false, cond, ◌⊎◌, List, ◌++◌, Result, Ok, Err, length, take, drop, nat_le}
use Rattle.fixed_header.specs.Header.{max_frame, parsed}
use Rattle.deframer.specs.Deframe.{fresh, deframed, ended}
use Rattle.deframer.specs.declared.Deframer.{Deframer}
use Rattle.fixed_header.specs.declared.FixedHeader.{FixedHeader}
use Rattle.deframer.specs.Step.{Step}
use Rattle.deframer.specs.Progress.{Progress}
use Rattle.deframer.specs.Progress as progress
use Rattle.text.specs.Added.{with_text}
use Rattle.listing.specs.Lines.{frame_line, end_line, max_line}
use Rattle.listing.specs.declared.Listing.{Listing}

-- the text has room for a line, and what is not printed yet is in it
abbrev pub Text : (pending : ℕ) → List ℕ → Type 0
Text pending text = (max_line ≤ length text) × (pending ≤ length text)

-- "Fresh means 0 and 0.": no byte is held, no frame is listed, and nothing is to be printed
abbrev pub start : Listing
start = record { deframer = fresh; frames = 0; pending = 0; done = false }

-- the deframer's state after a call, and else what was kept
abbrev pub with_deframer : Listing → Deframer → Listing
with_deframer listing next = record { deframer = next; frames = listing.frames; pending = listing.pending; done = listing.done }

-- "frame number": of the next frame. A stream of 2^64 frames would be numbered from 0 again
abbrev pub next_number : Listing → ℕ
next_number listing = (listing.frames + 1) % 2 ^ 64

-- what is to be printed
abbrev pub unprinted : Listing → (text : List ℕ) → List ℕ
unprinted listing text = take listing.pending text

-- how much of it is still to be printed before a line is added: all of it where there is room for a line after it, and else it is
-- printed first
abbrev pub kept : Listing → (text : List ℕ) → ℕ
kept listing text = cond (nat_le (listing.pending + max_line) (length text)) listing.pending 0

-- a line comes after what is still to be printed
abbrev pub Lists : (line : List ℕ) → (before : Listing) → (text : List ℕ) → Listing → (after : List ℕ) → Type 0
Lists line before text listed after = unprinted listed after ≡ take (kept before text) text ++ line

-- "prints frame number, kind, id and total per line": of a frame with this header, which the deframer found good
abbrev pub ListsFrame : Result FixedHeader ℕ → (before : Listing) → (text : List ℕ) → Listing → (after : List ℕ) → Type 0
ListsFrame (Ok h) before text listed after =
    (listed.frames ≡ next_number before)
    × (listed.deframer ≡ before.deframer)
    × Lists (frame_line (next_number before) h) before text listed after
ListsFrame (Err code) before text listed after = (listed ≡ before) × (after ≡ text)

-- "then one end line": it is put after what is still to be printed, and then all of it is printed
abbrev pub ListsEnd : (buffer : List ℕ) → (before : Listing) → (text : List ℕ) → Listing → (after : List ℕ) → Type 0
ListsEnd buffer before text listed after =
    (after ≡ with_text text (kept before text) (end_line (ended max_frame before.deframer buffer)))
    × (listed.pending ≡ 0)
    × (listed.done ≡ true)

-- what a call of the deframer came to: a frame is listed, or nothing is, or the end
abbrev pub ListsStep : Progress → (buffer : List ℕ) → (before : Listing) → (text : List ℕ) → Listing → (after : List ℕ) → Type 0
ListsStep (progress.Frame size) buffer before text listed after = ListsFrame (parsed max_frame (take 16 buffer)) before text listed after
ListsStep progress.NeedMore buffer before text listed after = (listed ≡ before) × (after ≡ text)
ListsStep (progress.Refused code) buffer before text listed after = ListsEnd buffer before text listed after

-- the steps over a piece: each call of the deframer gets the state and the buffer that the one before it left, and the bytes after those
-- that were taken
pub data ListsSteps (piece : List ℕ) (first : Listing) (buffer₀ text₀ : List ℕ) : ℕ → Listing → (buffer text : List ℕ) → Type 0 where
  none : ListsSteps piece first buffer₀ text₀ 0 first buffer₀ text₀
  another : {from : ℕ} {before listed : Listing} {buffer text buffer₁ after : List ℕ} {step : Step}
      → ListsSteps piece first buffer₀ text₀ from before buffer text
      → step ≡ (deframed max_frame before.deframer buffer (drop from piece)).step
      → buffer₁ ≡ (deframed max_frame before.deframer buffer (drop from piece)).buffer
      → ListsStep step.progress buffer₁ (with_deframer before step.next) text listed after
      → ListsSteps piece first buffer₀ text₀ (from + step.taken) listed buffer₁ after

-- all of a piece, unless the listing is done before
pub record ListsPiece (piece : List ℕ) (first : Listing) (buffer₀ text₀ : List ℕ) (listed : Listing) (buffer text : List ℕ) : Type 0 where
  pub taken : ℕ
  pub steps : ListsSteps piece first buffer₀ text₀ taken listed buffer text
  pub to_its_end : (listed.done ≡ true) ⊎ (taken ≡ length piece)
