-- A line that was added to the text is listed
use Rattle.std.proofs.Common.{◌≡◌, ℕ, ◌≤◌, List, ◌++◌, length, take, sym, refl, ap, ◌∙◌, subst, arith, length-append, length-take-le, take_at}
use Rattle.deframer.specs.Deframe.{ended}
use Rattle.deframer.specs.declared.Deframer.{Deframer}
use Rattle.fixed_header.specs.Header.{max_frame}
use Rattle.fixed_header.specs.declared.FixedHeader.{FixedHeader}
use Rattle.std.specs.Prelude.{Result, Ok, Err}
use Rattle.deframer.specs.Progress.{Progress}
use Rattle.text.specs.Added.{with_text, Adds}
use Rattle.listing.specs.Lines.{frame_line, end_line}
use Rattle.listing.specs.Steps.{next_number, kept, Lists, ListsFrame, ListsStep}
use Rattle.listing.specs.declared.Listing.{Listing}

-- what is to be printed after a line was added
with_line : {line text after : List ℕ} {at next : ℕ} → at ≤ length text → Adds line text at after next
    → take next after ≡ take at text ++ line
with_line {line} {text} {after} {at} {next} room a =
    rw a.written
    (take_at (take at text ++ line) _ next (omega (arith, a.place, length-append (take at text) line, length-take-le at text room)))

lists : (line : List ℕ) (before : Listing) (text : List ℕ) (ready listed : Listing) (after : List ℕ) → ready.pending ≤ length text
    → ready.pending ≡ kept before text → Adds line text ready.pending after listed.pending
    → Lists line before text listed after
lists line before text ready listed after room e a = with_line room a ∙ ap (λ (n : ℕ). take n text ++ line) e

pub lists_frame : (p : Result FixedHeader ℕ) (h : FixedHeader) (before : Listing) (text : List ℕ) (ready listed : Listing) (after : List ℕ) → p ≡ Ok h
    → ready.pending ≤ length text → ready.frames ≡ before.frames → ready.deframer ≡ before.deframer
    → ready.pending ≡ kept before text
    → listed.frames ≡ next_number ready → listed.deframer ≡ ready.deframer
    → Adds (frame_line (next_number ready) h) text ready.pending after listed.pending
    → ListsFrame p before text listed after
lists_frame p h before text ready listed after good room frames deframer came number same a =
    let next : next_number ready ≡ next_number before = rw frames in
    subst (λ (q : Result FixedHeader ℕ). ListsFrame q before text listed after) (sym good) (
      number ∙ next,
      same ∙ deframer,
      lists (frame_line (next_number before) h) before text ready listed after room came
          (subst (λ (n : ℕ). Adds (frame_line n h) text ready.pending after listed.pending) next a),
    )

pub lists_none : (p : Result FixedHeader ℕ) (code : ℕ) (listing : Listing) (text : List ℕ) → p ≡ Err code → ListsFrame p listing text listing text
lists_none p code listing text e = subst (λ (q : Result FixedHeader ℕ). ListsFrame q listing text listing text) (sym e) (refl, refl)

pub lists_end : (buffer : List ℕ) (before : Listing) (text : List ℕ) (ready : Listing) (after : List ℕ) (next : ℕ)
    → ready.deframer ≡ before.deframer → ready.pending ≡ kept before text
    → Adds (end_line (ended max_frame ready.deframer buffer)) text ready.pending after next
    → after ≡ with_text text (kept before text) (end_line (ended max_frame before.deframer buffer))
lists_end buffer before text ready after next d e a =
    a.written ∙ ap (λ (n : ℕ). with_text text n (end_line (ended max_frame ready.deframer buffer))) e
    ∙ ap (λ (s : Deframer). with_text text (kept before text) (end_line (ended max_frame s buffer))) d

-- a step's statement is that of its case
pub lists_case : (p q : Progress) (buffer : List ℕ) (before : Listing) (text : List ℕ) (listed : Listing) (after : List ℕ) → p ≡ q
    → ListsStep q buffer before text listed after → ListsStep p buffer before text listed after
lists_case p q buffer before text listed after e x = subst (λ (a : Progress). ListsStep a buffer before text listed after) (sym e) x
