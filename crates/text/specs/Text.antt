-- A text, before and after something was added to it, or it was printed
use Rattle.std.specs.Prelude.{ℕ, List, ◌≡◌, length}
use Rattle.std.specs.Borrow.{MutBor}
use Rattle.text.specs.Added.{Buffered, added, len_after, place_of, place_with_room}
use Rattle.text.specs.declared.Text.{Text}

-- its buffer, and the place after it
abbrev pub buffered : Text → Buffered
buffered t = record { bytes = t.bytes.now; place = place_of t.len }

-- the word was added at `at`, in the same buffer
pub record AddedAt (at : ℕ) (word : List ℕ) (before after : Text) : Type 0 where
  pub text : buffered after ≡ added word before.bytes.now at
  pub len_is : after.len ≡ len_after word before.bytes.now at
  pub same_length : length after.bytes.now ≡ length before.bytes.now
  pub same_buffer : after.bytes.ghost_name ≡ before.bytes.ghost_name

-- the word was added after the text
abbrev pub WithAdded : (word : List ℕ) → (before after : Text) → Type 0
WithAdded word before after = AddedAt (place_of before.len) word before after

-- the text is in this buffer, and empty
pub record BeginsIn (buffer : MutBor (List ℕ)) (after : Text) : Type 0 where
  pub bytes : after.bytes.now ≡ buffer.now
  pub place : place_of after.len ≡ 0
  pub same_buffer : after.bytes.ghost_name ≡ buffer.ghost_name

-- the text is empty, and its buffer as before
abbrev pub BeginsAgain : (before after : Text) → Type 0
BeginsAgain before after = BeginsIn before.bytes after

-- the text stays where there is room for `n` bytes after it, and else it is printed and begins again; its buffer is as before
pub record MakesRoom (n : ℕ) (before after : Text) : Type 0 where
  pub bytes : after.bytes.now ≡ before.bytes.now
  pub place : place_of after.len ≡ place_with_room n before.bytes.now (place_of before.len)
  pub same_buffer : after.bytes.ghost_name ≡ before.bytes.ghost_name

-- the word was added where there was room for `n` bytes, and else after the text was printed and begun again
abbrev pub TakesIn : (n : ℕ) → (word : List ℕ) → (before after : Text) → Type 0
TakesIn n word before after = AddedAt (place_with_room n before.bytes.now (place_of before.len)) word before after

-- the same, with room for just the word
abbrev pub Takes : (word : List ℕ) → (before after : Text) → Type 0
Takes word before after = TakesIn (length word) word before after
