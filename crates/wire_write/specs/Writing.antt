-- What is written for a varint, a tag and a field of bytes, and what a writer answers. `fits` and `stored` are of `copying`.
use Rattle.std.specs.Prelude.{ℕ, zero, suc, ◌+◌, ◌*◌, ◌-◌, ◌/◌, ◌%◌, ◌^◌, Bool, true, cond, ◌&&◌, List, [], ◌∷◌, ◌++◌, length, ltb, ℤ, pos, negsuc, Result, Ok, Err, ⊤}
use Rattle.refusals.specs.Numbers.{bad_tag, output_short}
use Rattle.copying.specs.Stored.{fits, stored}

-- the groups of `v`, low group first, in at most `room` bytes. Ten are enough: every number below 2^64 reads back as itself
-- (`varint_back`, proofs/ReadBack)
unfoldable pub shortest : ℕ → ℕ → List ℕ
shortest zero v = []
shortest (suc room) v = cond (ltb v 128) (v ∷ []) ((128 + v % 128) ∷ shortest room (v / 128))

-- "varints shortest"
unfoldable pub put_varint : ℕ → List ℕ
put_varint v = shortest 10 v

-- "A negative int32 is written in ten bytes": its two's complement in 64 bits. The difference is never cut off: an int32 is -2^31 or more
-- (`signed_whole`, `signed_back`, proofs/ReadBack).
unfoldable pub sign_extended : ℤ → ℕ
sign_extended (pos n) = n
sign_extended (negsuc n) = 2 ^ 64 - suc n

-- "field number times 8 plus wire type"
abbrev pub put_tag : ℕ → ℕ → List ℕ
put_tag n w = put_varint (n * 8 + w)

-- a field of bytes: its tag, the length of its content, the content
abbrev pub put_bytes : ℕ → List ℕ → List ℕ
put_bytes n content = put_tag n 2 ++ put_varint (length content) ++ content

-- ---- where there is no ground of refusal

-- "A tag is a varint up to 4,294,967,295: field number times 8 plus wire type. Field 0 and wire types 6, 7 are bad."
unfoldable pub good_tag : ℕ → ℕ → Bool
good_tag n w = ltb (n * 8 + w) (2 ^ 32) && (ltb 0 n && ltb w 6)

-- the first ground of refusal, 0 for none: 11, then 27, "output shorter than the frame", here than what is to be written
abbrev pub first_ground : (good room : Bool) → ℕ
first_ground good room = cond good (cond room 0 output_short) bad_tag

-- the same as an answer
abbrev pub found_ground : (error : ℕ) → Result ⊤ ℕ
found_ground zero = Ok tt
found_ground (suc error) = Err (suc error)

-- ---- the answer, and the output

-- "For an answer that is an enum, a definition gives this paper's number and values for each of its cases": 0 and the next place, or the
-- refusal number.
abbrev pub answer : (error next : ℕ) → Result ℕ ℕ
answer zero next = Ok next
answer (suc error) next = Err (suc error)

-- the answer: the next place after `x`, written to `out` from place `at`
unfoldable pub written_at : List ℕ → ℕ → List ℕ → Result ℕ ℕ
written_at out at x = answer (first_ground true (fits out at x)) (at + length x)

-- the same of an `x` that starts with the tag of field `n` and wire type `w`: nothing is written where that is bad
unfoldable pub tag_stored : (n w : ℕ) → List ℕ → ℕ → List ℕ → List ℕ
tag_stored n w out at x = cond (good_tag n w) (stored out at x) out

unfoldable pub tag_written : (n w : ℕ) → List ℕ → ℕ → List ℕ → Result ℕ ℕ
tag_written n w out at x = answer (first_ground (good_tag n w) (fits out at x)) (at + length x)
