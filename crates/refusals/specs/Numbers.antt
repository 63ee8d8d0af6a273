-- Documents 01 and 02, "Refusal numbers" and "Refusals": each number once, with the entries that give it and its ground in the papers'
-- words, and those that went out of use. Which ground comes first, and when a number is given, is in `Grounds` and in the lists of grounds
-- of each entry.
-- Assumes nothing: these are definitions.
use Rattle.std.specs.Prelude.{ℕ, ◌≡◌, List, [], ◌∷◌}
use Rattle.refusals.specs.Grounds.{Some}

-- cutter, end: "buffer under 65,536 bytes"; document 02, P11: "1, 6 and 19 speak of the ceiling"
abbrev pub buffer_short : ℕ
buffer_short = 1

-- cutter, end: "state not known"
abbrev pub state_unknown : ℕ
state_unknown = 2

-- header judge: "magic"
abbrev pub bad_magic : ℕ
bad_magic = 3

-- header judge: "data type"
abbrev pub bad_data_type : ℕ
bad_data_type = 4

-- header judge: "stream type"
abbrev pub bad_stream_type : ℕ
bad_stream_type = 5

-- header judge: "total", 16 to the ceiling
abbrev pub bad_total : ℕ
bad_total = 6

-- header judge: "header size"
abbrev pub bad_header_size : ℕ
bad_header_size = 7

-- reader, judge: "length isn't the total (judge: not 16); or the wrong kind of frame"
abbrev pub wrong_frame : ℕ
wrong_frame = 9

-- reader: "varint bad or cut off"
abbrev pub bad_varint : ℕ
bad_varint = 10

-- reader: "tag bad; group end stray or of another number"
abbrev pub bad_tag : ℕ
bad_tag = 11

-- reader: "a length, fixed value or open group passes the end of its part"
abbrev pub past_end : ℕ
past_end = 12

-- reader: "33rd nested group"
abbrev pub too_deep : ℕ
too_deep = 13

-- reader: "65th map entry, repeats counted"
abbrev pub too_many_entries : ℕ
too_many_entries = 14

-- reader, writer: "attachment larger than body; writer: a body with Init, Feedback or Close"
abbrev pub bad_body : ℕ
bad_body = 15

-- reader: "row slice under 256 numbers"
abbrev pub rows_short : ℕ
rows_short = 16

-- writer: "a start plus length past the end of the source bytes, empty fields too"
abbrev pub past_source : ℕ
past_source = 17

-- writer: "over 64 rows, rows with Feedback or Data, row slice too short for them, equal keys, or a meta part marked absent and not all
-- zero, empty and rowless"
abbrev pub bad_rows : ℕ
bad_rows = 18

-- writer: "frame over 65,536", the ceiling since P11
abbrev pub frame_over : ℕ
frame_over = 19

-- add: "64 jobs wait"
abbrev pub queue_full : ℕ
queue_full = 21

-- add: "arrival above 2^62"
abbrev pub late_arrival : ℕ
late_arrival = 22

-- take: "nothing waits"
abbrev pub queue_empty : ℕ
queue_empty = 23

-- list, all: "count over 64, a waiting pair twice, or a waiting arrival above 2^62"
abbrev pub bad_queue : ℕ
bad_queue = 24

-- add: "that pair waits already"
abbrev pub pair_waits : ℕ
pair_waits = 25

-- cancel: "that pair doesn't wait"
abbrev pub pair_absent : ℕ
pair_absent = 26

-- writer: "output shorter than the frame"
abbrev pub output_short : ℕ
output_short = 27

-- header judge, cutter, end, reader, writer (document 02, P11): "ceiling outside the range, before all others"
abbrev pub bad_ceiling : ℕ
bad_ceiling = 41

-- all numbers in use, rising
abbrev pub in_use : List ℕ
in_use =
    buffer_short ∷ state_unknown ∷ bad_magic ∷ bad_data_type ∷ bad_stream_type ∷ bad_total ∷ bad_header_size ∷ wrong_frame ∷
    bad_varint ∷ bad_tag ∷ past_end ∷ too_deep ∷ too_many_entries ∷ bad_body ∷ rows_short ∷ past_source ∷ bad_rows ∷ frame_over ∷
    queue_full ∷ late_arrival ∷ queue_empty ∷ bad_queue ∷ pair_waits ∷ pair_absent ∷ output_short ∷ bad_ceiling ∷ []

-- numbers that a request took out of use, rising. Document 02: "8 is no longer given and isn't used for anything else"; "20 is never used
-- again."
abbrev pub retired : List ℕ
retired = 8 ∷ 20 ∷ []

abbrev pub Among : ℕ → List ℕ → Type 0
Among n ns = Some (λ (m : ℕ). n ≡ m) ns

-- the number in an answer, "0 or the refusal": 0, or one that is in use
abbrev pub Usable : ℕ → Type 0
Usable n = Among n (0 ∷ in_use)

-- no number comes twice
abbrev pub NoneTwice : List ℕ → Type 0
NoneTwice [] = Unit {0}
NoneTwice (n ∷ ns) = (Among n ns → ⊥) × NoneTwice ns
