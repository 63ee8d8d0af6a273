-- Values that are passed over: "An unknown field, or a known one with another wire type, is skipped." `s` is what is left of the part.
use Rattle.std.specs.Prelude.{ℕ, zero, suc, ◌+◌, min, true, false, cond, List, length, drop, leb, eqb}
use Rattle.refusals.specs.Numbers.{bad_varint, bad_tag, past_end, too_deep}
use Rattle.wire_read.specs.Varint.{got, bad, varint}
use Rattle.wire_read.specs.Tags.{WireType, VARINT, I64, LEN, SGROUP, EGROUP, I32, reserved, wire_type, field, no_tag, tag_error, tag}
use Rattle.wire_read.specs.Tags.{bytes, length_error, length_prefix}

-- How many bytes were passed over; or the error code.
pub data SkipResult : Type 0 where
  skipped : (used : ℕ) → SkipResult
  skip_error : (code : ℕ) → SkipResult

-- what follows `n` bytes that were passed over
unfoldable pub skip_after : ℕ → SkipResult → SkipResult
skip_after n (skipped used) = skipped (n + used)
skip_after n (skip_error code) = skip_error code

-- a varint
unfoldable pub skip_varint : List ℕ → SkipResult
skip_varint s = elim (varint s) [ bad ↦ skip_error bad_varint | got v used ↦ skipped used ]

-- a value of `width` bytes: one that passes the end of the part is 12
unfoldable pub skip_fixed : ℕ → List ℕ → SkipResult
skip_fixed width s = cond (leb width (length s)) (skipped width) (skip_error past_end)

-- a length and its bytes
unfoldable pub skip_bytes : List ℕ → SkipResult
skip_bytes s =
    elim (length_prefix s) [ length_error code ↦ skip_error code | bytes used size ↦ skipped (used + size) ]

-- The value after the tag of field `n`. `depth` more groups may be opened, and one more is 13. A wire type that has no value is a bad
-- tag: a group end that ends no group is stray. `group n depth s` passes over what is left of an opened group of number `n`.
unfoldable pub value : (ℕ → ℕ → List ℕ → SkipResult) → ℕ → WireType → ℕ → List ℕ → SkipResult
value group n VARINT depth s = skip_varint s
value group n I64 depth s = skip_fixed 8 s
value group n LEN depth s = skip_bytes s
value group n SGROUP zero s = skip_error too_deep
value group n SGROUP (suc depth) s = group n depth s
value group n EGROUP depth s = skip_error bad_tag
value group n I32 depth s = skip_fixed 4 s
value group n reserved depth s = skip_error bad_tag

-- The first field of what is left of an opened group of number `n`, and what follows it: "A skipped group may hold fields and groups,
-- nested to 32; its end must bear its number." A group that is open at the end of its part is 12.
unfoldable pub in_group : (ℕ → ℕ → List ℕ → SkipResult) → ℕ → ℕ → List ℕ → SkipResult
in_group group n depth s =
    elim (tag s) [
      | no_tag ↦ skip_error past_end
      | tag_error code ↦ skip_error code
      | field m w used ↦
          elim (eqb w 4) [
            | true ↦ cond (eqb m n) (skipped used) (skip_error bad_tag)
            | false ↦
                elim (value group m (wire_type w) depth (drop used s)) [
                  | skip_error code ↦ skip_error code
                  | skipped size ↦ skip_after (used + size) (group n depth (drop (used + size) s))
                ]
          ]
    ]

-- What is left of an opened group of number `n`, its end included, in at most `steps` fields. Each takes a byte, so a part's length is
-- steps enough: the answer for no steps is given only where no byte is left, and is the same there with any steps (`group_in_same`,
-- `skip_group_enough`, proofs/Fuel).
unfoldable pub group_in : ℕ → ℕ → ℕ → List ℕ → SkipResult
group_in zero n depth s = skip_error past_end
group_in (suc steps) n depth s = in_group (group_in steps) n depth s

abbrev pub skip_group : ℕ → ℕ → List ℕ → SkipResult
skip_group n depth s = group_in (length s) n depth s

-- The value after a tag of field `n` and wire type number `w`.
abbrev pub skip_value : ℕ → ℕ → ℕ → List ℕ → SkipResult
skip_value n w depth s = value (group_in (length s)) n (wire_type w) depth s

-- "nested to 32"
abbrev pub max_depth : ℕ
max_depth = 32

-- The same for a caller that names a depth: it may allow fewer groups than 32, and never more.
abbrev pub skip_field : ℕ → ℕ → ℕ → List ℕ → SkipResult
skip_field n w depth s = skip_value n w (min depth max_depth) s
