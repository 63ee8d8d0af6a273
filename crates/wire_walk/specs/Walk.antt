-- The fields of a byte string from left to right, and what any number of calls of `next` answers.
use Rattle.std.specs.Prelude.{ℕ, zero, suc, pred, ◌+◌, ◌≡◌, List, [], ◌∷◌, length, drop}
use Rattle.wire_read.specs.Fields.{FieldResult, next_field}
use Rattle.wire_read.specs.Placed.{FieldAnswer, field_at}
use Rattle.wire_walk.specs.Reader.{used_by, next_of, found_by, reader_after}
use Rattle.wire_walk.specs.declared.FieldReader.{FieldReader}

-- what follows a field that took `used` bytes: nothing after the end or a refusal, which take none
unfoldable pub onward : (List ℕ → List FieldResult) → ℕ → List ℕ → List FieldResult
onward go zero s = []
onward go (suc used) s = go (drop (suc used) s)

-- at most `steps` fields, and what comes after them: with no steps left that is the end or a refusal, since each field took a byte
-- (`walk_more`, `walk_last`, proofs/WalkLaws)
unfoldable pub walk_in : ℕ → List ℕ → List FieldResult
walk_in zero s = next_field s ∷ []
walk_in (suc steps) s = next_field s ∷ onward (walk_in steps) (used_by (next_field s)) s

-- "fields from left to right": each field of `s`, then its end or the refusal. Each takes a byte, so the length is steps enough.
unfoldable pub walk : List ℕ → List FieldResult
walk s = walk_in (length s) s

-- the same as the code answers them, with their places: the first at place `at`, each after the one before
unfoldable pub placed : ℕ → List FieldResult → List FieldAnswer
placed at [] = []
placed at (f ∷ fs) = field_at at f ∷ placed (at + used_by f) fs

-- how many bytes the fields take together
unfoldable pub bytes_taken : List FieldResult → ℕ
bytes_taken [] = 0
bytes_taken (f ∷ fs) = used_by f + bytes_taken fs

-- what `n` calls of `next` answer, each on the reader after the one before
unfoldable pub answers_of : ℕ → FieldReader → List FieldAnswer
answers_of zero r = []
answers_of (suc n) r = found_by (next_of r) ∷ answers_of n (reader_after r (next_of r))

-- and the reader after them
unfoldable pub after : ℕ → FieldReader → FieldReader
after zero r = r
after (suc n) r = after n (reader_after r (next_of r))

-- The statement: calls of `next` from any reader walk the fields from its place on. `w` is the walk over what is left of its bytes.
pub record Walks (r : FieldReader) (w : List FieldResult) : Type 0 where
  -- the calls answer the fields from left to right, each with its place, and then the end or the refusal
  pub fields : answers_of (length w) r ≡ placed r.at w
  -- from that last answer on the reader stays after the fields, with the same bytes, so every later call repeats it; there is one
  -- (`walk_some`)
  pub stays : (n : ℕ) → after (pred (length w) + n) r ≡ record { bytes = r.bytes; at = r.at + bytes_taken w }
