-- "then fields from left to right, at each place tag 10, 11, 13, value 10, 12, then 14 before an entry's inside": the grounds of a
-- message's fields as one list, place after place, those within skipped groups, map entries and inner messages too.
--
-- Each ground is a proposition about the bytes at its place. Which place comes next is for the bytes to say: the list follows the reading
-- (crates `wire_read` and `decoder`, whose names are used). `s` is what is left of the part, `at` its place in the frame, `st` what has
-- been read.
-- Assumes nothing.
use Rattle.std.specs.Prelude.{ℕ, zero, suc, ◌+◌, ◌/◌, ◌%◌, ◌^◌, ◌<◌, ◌≤◌, ◌≡◌, ◌⊎◌, cond, List, [], ◌∷◌, ◌++◌, eqb, length, take, drop, get_or}
use Rattle.wire_read.specs.Varint.{VarintResult, got, bad, varint}
use Rattle.wire_read.specs.Tags.{WireType, VARINT, I64, LEN, SGROUP, EGROUP, I32, reserved, wire_type, TagResult, field, no_tag, tag_error}
use Rattle.wire_read.specs.Tags.{tag}
use Rattle.wire_read.specs.Skipping.{SkipResult, skipped, skip_error, value, group_in, max_depth}
use Rattle.wire_read.specs.Fields.{FieldResult, no_field, varint_field, fixed64_field, bytes_field, group_field, fixed32_field, field_error}
use Rattle.wire_read.specs.Fields.{next_field}
use Rattle.schema.specs.Schema.{Schema, entry}
use Rattle.decoder.specs.Fields.{State, Result, ok, refused, blank, Reader, set_slot, set_bytes, set_number, add_entry, fields_in}
use Rattle.schema.specs.Targets.{Target, a_number, some_bytes, an_entry, a_message, unknown, look}
use Rattle.refusals.specs.Grounds.{Ground, ground_of, Every, Verdict, refuses, works}

-- ---- a varint: "10 | varint bad or cut off"

-- a byte of 128 or more says that another follows
abbrev pub GoesOn : ℕ → Type 0
GoesOn b = 128 ≤ b

-- the part ends before the varint does
abbrev pub CutOff : List ℕ → Type 0
CutOff s = Every GoesOn s × (length s < 10)

-- "A varint has at most 10 bytes"; "a tenth byte above 1 is bad"
abbrev pub BadTenth : List ℕ → Type 0
BadTenth s = Every GoesOn (take 9 s) × ((9 < length s) × (1 < get_or s 9 0))

abbrev pub BadVarint : List ℕ → Type 0
BadVarint s = CutOff s ⊎ BadTenth s

-- ---- the tag at a place: "tag 10, 11"

-- "A tag is a varint up to 4,294,967,295: field number times 8 plus wire type. Field 0 and wire types 6, 7 are bad."
abbrev pub WrongTag : VarintResult → Type 0
WrongTag bad = ⊥
WrongTag (got v used) = (v < 2 ^ 32) × ((0 < v / 8) × (v % 8 < 6)) → ⊥

-- "11 | tag bad". At the end of its part there is none.
abbrev pub tag_grounds : List ℕ → List Ground
tag_grounds [] = []
tag_grounds (b ∷ s) = ground_of 10 (BadVarint (b ∷ s)) ∷ ground_of 11 (WrongTag (varint (b ∷ s))) ∷ []

-- ---- its value: "13, value 10, 12"

-- the grounds in a group of number n that was opened, where `depth` more may be
abbrev pub InGroup : Type 1
InGroup = (n depth : ℕ) → List ℕ → List Ground

-- "12 | a length .. passes the end of its part": its own bytes, and as many as it says
abbrev pub LengthPast : (s : List ℕ) → VarintResult → Type 0
LengthPast s bad = ⊥
LengthPast s (got size used) = length s < used + size

abbrev pub value_grounds : InGroup → (n : ℕ) → WireType → (depth : ℕ) → List ℕ → List Ground
value_grounds group n VARINT depth s = ground_of 10 (BadVarint s) ∷ []
-- "12 | a .. fixed value .. passes the end of its part"
value_grounds group n I64 depth s = ground_of 12 (length s < 8) ∷ []
value_grounds group n LEN depth s = ground_of 10 (BadVarint s) ∷ ground_of 12 (LengthPast s (varint s)) ∷ []
-- "13 | 33rd nested group": no more may be opened
value_grounds group n SGROUP zero s = ground_of 13 (Unit {0}) ∷ []
value_grounds group n SGROUP (suc depth) s = group n depth s
-- "11 | .. group end stray"
value_grounds group n EGROUP depth s = ground_of 11 (Unit {0}) ∷ []
value_grounds group n I32 depth s = ground_of 12 (length s < 4) ∷ []
-- never reached: such a tag is 11 before
value_grounds group n reserved depth s = ground_of 11 (Unit {0}) ∷ []

-- ---- in a skipped group of number n: "12 | .. open group passes the end of its part"; "11 | .. group end .. of another number"

-- how a group is passed over, and where that comes to an end
abbrev pub Skip : Type 0
Skip = (n depth : ℕ) → List ℕ → SkipResult

-- after a value that ended, the next place
abbrev pub next_in_group : InGroup → (n depth used : ℕ) → List ℕ → SkipResult → List Ground
next_in_group group n depth used s (skipped size) = group n depth (drop (used + size) s)
next_in_group group n depth used s (skip_error code) = []

abbrev pub field_in_group : Skip → InGroup → (n depth : ℕ) → List ℕ → TagResult → List Ground
field_in_group skip group n depth s no_tag = []
field_in_group skip group n depth s (tag_error code) = []
field_in_group skip group n depth s (field m w used) =
    cond (eqb w 4) (ground_of 11 (m ≡ n → ⊥) ∷ [])
    (value_grounds group m (wire_type w) depth (drop used s)
    ++ next_in_group group n depth used s (value skip m (wire_type w) depth (drop used s)))

abbrev pub in_group_grounds : Skip → InGroup → InGroup
in_group_grounds skip group n depth s = ground_of 12 (s ≡ []) ∷ (tag_grounds s ++ field_in_group skip group n depth s (tag s))

-- In at most `steps` fields. Each takes a byte, so a part's length is steps enough (`wire_read`, proofs/Fuel): with none left no byte is.
abbrev pub group_grounds : (steps : ℕ) → InGroup
group_grounds zero n depth s = ground_of 12 (Unit {0}) ∷ []
group_grounds (suc steps) n depth s = in_group_grounds (group_in steps) (group_grounds steps) n depth s

-- ---- a field of a message, its tag and its value
abbrev pub content_grounds : List ℕ → TagResult → List Ground
content_grounds s no_tag = []
content_grounds s (tag_error code) = []
content_grounds s (field n w used) = value_grounds (group_grounds (length (drop used s))) n (wire_type w) max_depth (drop used s)

abbrev pub place_grounds : List ℕ → List Ground
place_grounds s = tag_grounds s ++ content_grounds s (tag s)

-- ---- and what follows it. `read` reads what is inside or follows, and `grounds` has its grounds.
abbrev pub Grounds : Type 1
Grounds = Schema → (slot : ℕ) → (at : ℕ) → List ℕ → State → List Ground

-- what follows a part that was read
abbrev pub once_read : Result → (State → List Ground) → List Ground
once_read (ok st) next = next st
once_read (refused code) next = []

-- "14 | 65th map entry, repeats counted", "before an entry's inside": of a byte field, its bytes x, and then the rest
abbrev pub inside_grounds : (frame : List ℕ) → Reader → Grounds → Schema → (i at : ℕ) → (x rest : List ℕ) → State → Target → List Ground
inside_grounds frame read grounds sch i at x rest st (a_number slot) = grounds sch i (at + length x) rest st
inside_grounds frame read grounds sch i at x rest st unknown = grounds sch i (at + length x) rest st
inside_grounds frame read grounds sch i at x rest st (some_bytes slot) = grounds sch i (at + length x) rest (set_bytes slot at (length x) st)
inside_grounds frame read grounds sch i at x rest st an_entry =
    ground_of 14 (64 ≤ st.entries)
    ∷ (grounds entry 0 at x blank
    ++ once_read (read entry 0 at x blank) (λ e. grounds sch i (at + length x) rest (add_entry frame e st)))
inside_grounds frame read grounds sch i at x rest st (a_message slot inner) =
    grounds inner (slot + 1) at x (set_slot slot 1 st)
    ++ once_read (read inner (slot + 1) at x (set_slot slot 1 st)) (λ after. grounds sch i (at + length x) rest after)

abbrev pub further_grounds : (frame : List ℕ) → Reader → Grounds → Schema → (i at : ℕ) → List ℕ → State → FieldResult → List Ground
further_grounds frame read grounds sch i at s st no_field = []
further_grounds frame read grounds sch i at s st (field_error code) = []
further_grounds frame read grounds sch i at s st (varint_field n v used) =
    grounds sch i (at + used) (drop used s) (set_number (look sch i n) v st)
further_grounds frame read grounds sch i at s st (fixed64_field n v used) = grounds sch i (at + used) (drop used s) st
further_grounds frame read grounds sch i at s st (group_field n used) = grounds sch i (at + used) (drop used s) st
further_grounds frame read grounds sch i at s st (fixed32_field n v used) = grounds sch i (at + used) (drop used s) st
further_grounds frame read grounds sch i at s st (bytes_field n used size) =
    inside_grounds frame read grounds sch i (at + used) (take size (drop used s)) (drop size (drop used s)) st (look sch i n)

-- in at most `steps` fields, as above
abbrev pub fields_grounds : (steps : ℕ) → (frame : List ℕ) → Grounds
fields_grounds zero frame sch i at s st = []
fields_grounds (suc steps) frame sch i at s st =
    place_grounds s ++ further_grounds frame (fields_in steps frame) (fields_grounds steps frame) sch i at s st (next_field s)

-- all fields of the message in the bytes s, which are at `at` of the frame
abbrev pub message_grounds : (frame : List ℕ) → Schema → (at : ℕ) → (s : List ℕ) → List Ground
message_grounds frame sch at s = fields_grounds (length s) frame sch 0 at s blank

-- ---- what a reading says
abbrev pub result_says : Result → Verdict
result_says (ok st) = works
result_says (refused code) = refuses code
