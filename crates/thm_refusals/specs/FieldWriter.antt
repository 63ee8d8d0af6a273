-- Fields that are written. "11 | reader | tag bad": of a tag that the reader would refuse. "27 | writer | output shorter than the frame":
-- here, than what is to be written. The order is the one in which a tag and its room come: 11, then 27.
-- Assumes nothing.
use Rattle.std.specs.Prelude.{ℕ, ◌+◌, ◌*◌, ◌^◌, ◌<◌, ◌≡◌, List, [], ◌∷◌, ◌++◌, length, take, drop, Result, Ok, Err}
use Rattle.copying.specs.Stored.{stored}
use Rattle.wire_write.specs.Writing.{written_at, tag_stored, tag_written}
use Rattle.refusals.specs.Grounds.{ground_of, Verdict, refuses, works, Entry}

-- what a call leaves: its answer in the papers' numbers, and the output
pub record FieldWriting : Type 0 where
  pub answer : Result ℕ ℕ
  pub output : List ℕ

abbrev pub verdict_of : Result ℕ ℕ → Verdict
verdict_of (Ok next) = works
verdict_of (Err number) = refuses number

-- "A tag is a varint up to 4,294,967,295: field number times 8 plus wire type. Field 0 and wire types 6, 7 are bad."
abbrev pub BadTag : (n w : ℕ) → Type 0
BadTag n w = (n * 8 + w < 2 ^ 32) × ((0 < n) × (w < 6)) → ⊥

abbrev pub OutputShort : (out : List ℕ) → (at : ℕ) → (x : List ℕ) → Type 0
OutputShort out at x = length out < at + length x

-- "all others leave rows, output and list untouched"
abbrev pub untouched_output : (out : List ℕ) → (number : ℕ) → FieldWriting
untouched_output out number = record { answer = Err number; output = out }

-- `x` is in the output from place `at`, all else is as it was, and the next place is after `x`
abbrev pub whole_written : (out : List ℕ) → (at : ℕ) → (x : List ℕ) → FieldWriting
whole_written out at x = record { answer = Ok (at + length x); output = take at out ++ x ++ drop (at + length x) out }

-- ---- `write_varint`, `write_raw`: the bytes `x`
abbrev pub raw_entry : (out : List ℕ) → (at : ℕ) → (x : List ℕ) → Entry FieldWriting
raw_entry out at x =
    record {
      grounds = ground_of 27 (OutputShort out at x) ∷ [];
      says = λ w. verdict_of w.answer;
      refusal = untouched_output out;
      work = whole_written out at x;
    }

-- ---- `write_tag`, `write_bytes`: bytes `x` that start with the tag of field `n` and wire type `w`
abbrev pub tag_entry : (n w : ℕ) → (out : List ℕ) → (at : ℕ) → (x : List ℕ) → Entry FieldWriting
tag_entry n w out at x =
    record {
      grounds = ground_of 11 (BadTag n w) ∷ ground_of 27 (OutputShort out at x) ∷ [];
      says = λ w. verdict_of w.answer;
      refusal = untouched_output out;
      work = whole_written out at x;
    }

-- ---- what a contract of `wire_write` says of its answer and its output
abbrev pub Raw : (out : List ℕ) → (at : ℕ) → (x : List ℕ) → FieldWriting → Type 0
Raw out at x r = (r.answer ≡ written_at out at x) × (r.output ≡ stored out at x)

abbrev pub Tagged : (n w : ℕ) → (out : List ℕ) → (at : ℕ) → (x : List ℕ) → FieldWriting → Type 0
Tagged n w out at x r = (r.answer ≡ tag_written n w out at x) × (r.output ≡ tag_stored n w out at x)
