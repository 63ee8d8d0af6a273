-- A buffer with text at its start, and the place after the text
use Rattle.std.specs.Prelude.{ℕ, Option, Some, None, ◌+◌, ◌-◌, ◌^◌, cond, List, ◌++◌, ◌≡◌, leb, length, take, drop}

pub record Buffered : Type 0 where
  pub bytes : List ℕ
  pub place : ℕ

-- the place that says that there was no room: no buffer is as long
abbrev pub full : ℕ
full = 2 ^ 64 - 1

-- the place after a text of this length, or of none
abbrev pub place_of : Option ℕ → ℕ
place_of (Some at) = at
place_of None = full

-- the buffer with a word from place `at` on, and else as it was
abbrev pub with_text : (text : List ℕ) → (at : ℕ) → (word : List ℕ) → List ℕ
with_text text at word = take at text ++ word ++ drop (at + length word) text

-- a word added at `at`: all of it where there is room, and else nothing
unfoldable pub added : (word : List ℕ) → (text : List ℕ) → (at : ℕ) → Buffered
added word text at =
    cond (leb (at + length word) (length text))
    (record { bytes = with_text text at word; place = at + length word })
    (record { bytes = text; place = full })

-- the length after a word was added at `at`: none where there was no room, and no number then
abbrev pub len_after : (word : List ℕ) → (text : List ℕ) → (at : ℕ) → Option ℕ
len_after word text at = cond (leb (at + length word) (length text)) (Some (at + length word)) None

-- where `n` bytes more can be added: at `at` where there is room for them, and else at the start. The text up to `at` is printed first,
-- unless `at` is past the buffer. A buffer shorter than `n` has no such place
abbrev pub place_with_room : (n : ℕ) → (text : List ℕ) → (at : ℕ) → ℕ
place_with_room n text at = cond (leb (at + n) (length text)) at 0

-- a word was added: the buffer, and the place after the word
pub record Adds (word text : List ℕ) (at : ℕ) (after : List ℕ) (next : ℕ) : Type 0 where
  pub written : after ≡ with_text text at word
  pub place : next ≡ at + length word
