-- What the reads of standard input come to, one after another. No contract can say which bytes a read brings, or that a write writes
-- what it is given: here a read has put some bytes at the start of the piece.
use Rattle.std.specs.Prelude.{◌≡◌, ℕ, suc, ◌-◌, ◌^◌, true, false, ◌⊎◌, List, take}
use Rattle.listing.specs.Steps.{start, ListsEnd, ListsPiece}
use Rattle.listing.specs.declared.Listing.{Listing}

-- after the text was printed nothing of it is left, and else all is as before. A write that fails ends the listing
abbrev pub Printed : (before after : Listing) → Type 0
Printed before after =
    (after.pending ≡ 0)
    × (after.frames ≡ before.frames)
    × (after.deframer ≡ before.deframer)
    × (before.done ≡ true → after.done ≡ true)

-- a read: it failed, or it was at the end of the input, or `count` bytes came, whose frames are listed and then printed
pub data ListsNext (before : Listing) (buffer₀ text₀ : List ℕ) : (piece : List ℕ) → Listing → (buffer text : List ℕ) → Type 0 where
  failed : {piece : List ℕ} {listed : Listing} → listed.done ≡ true → ListsNext before buffer₀ text₀ piece listed buffer₀ text₀
  at_end : {piece text : List ℕ} {listed : Listing} → ListsEnd buffer₀ before text₀ listed text
      → ListsNext before buffer₀ text₀ piece listed buffer₀ text
  came : {piece buffer text : List ℕ} {listed printed : Listing} (count : ℕ)
      → ListsPiece (take count piece) before buffer₀ text₀ listed buffer text → Printed listed printed
      → ListsNext before buffer₀ text₀ piece printed buffer text

-- the reads up to now: each starts from what the one before it left, and the first from the start
pub data ListsReads (buffer₀ text₀ : List ℕ) : (reads : ℕ) → Listing → (buffer text : List ℕ) → Type 0 where
  no_read : ListsReads buffer₀ text₀ 0 start buffer₀ text₀
  another_read : {reads : ℕ} {before listed : Listing} {piece buffer text buffer₁ after : List ℕ}
      → ListsReads buffer₀ text₀ reads before buffer text
      → before.done ≡ false
      → ListsNext before buffer text piece listed buffer₁ after
      → ListsReads buffer₀ text₀ (suc reads) listed buffer₁ after

-- all of the input: reads until the listing is done. A proved loop has to end, so there are at most 2^64 - 1
pub record ListsInput (buffer₀ text₀ buffer text : List ℕ) : Type 0 where
  pub reads : ℕ
  pub last : Listing
  pub each : ListsReads buffer₀ text₀ reads last buffer text
  pub to_its_end : (last.done ≡ true) ⊎ (reads ≡ 2 ^ 64 - 1)
