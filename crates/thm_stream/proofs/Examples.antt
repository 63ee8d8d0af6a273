-- A stream that comes in pieces, by the definitions of the calls themselves
use mathlib.Core.Path.{◌≡◌, refl}
use Prim.Native.Nat.{ℕ}
use mathlib.Core.List.{List, [], ◌∷◌}
use lib.ListN.{take, drop, replicate}
use Rattle.fixed_header.specs.Header.{max_frame, ceiling_ok, be16_of, be32_of, total_of, header_size_of, magic_ok, data_type_ok}
use Rattle.fixed_header.specs.Header.{stream_type_ok, total_ok, header_size_ok, fault_of, header_error}
use Rattle.deframer.specs.Deframe.{fresh, known_of, next_frame, unmoved, deframed, ended}
use Rattle.deframer.specs.Stream.{stops, uncut_in, uncut}
use Rattle.deframer.specs.declared.Deframer.{Deframer}
use Rattle.deframer.specs.End as end
use Rattle.thm_stream.specs.Calls.{Call, push, finish, push_wrong, finish_wrong, pushed_wrong, finished_wrong, run, taken_of, frames_of}

-- the listing's example: a Feedback of 19 bytes, and one byte more
abbrev feedback : List ℕ
feedback = 0x09 ∷ 0x30 ∷ 0x01 ∷ 0x03 ∷ 0 ∷ 0 ∷ 0 ∷ 0x13 ∷ 0 ∷ 0 ∷ 0 ∷ 0 ∷ 0 ∷ 0x05 ∷ 0 ∷ 0 ∷ 0x08 ∷ 0xAC ∷ 0x02 ∷ 0x09 ∷ []

-- as 3 bytes, then what is left of it, twice
abbrev pieces : List Call
pieces = push (take 3 feedback) ∷ finish ∷ push (drop 3 feedback) ∷ push (drop 19 feedback) ∷ finish ∷ []

-- on a buffer of 65,536 zeros, under the largest ceiling
pub ran : (frames_of (run max_frame fresh (replicate 65536 0) pieces) ≡ take 19 feedback ∷ [])
    × (taken_of (run max_frame fresh (replicate 65536 0) pieces) ≡ feedback)
unfolding be16_of be32_of total_of header_size_of magic_ok data_type_ok stream_type_ok total_ok header_size_ok fault_of ceiling_ok header_error
    known_of next_frame deframed ended run
ran = (refl, refl)

-- document 02, P11: "A buffer need only be as long as the ceiling". On one of 19 zeros, under a ceiling of 19, the frame is whole; under a
-- ceiling of 18 its header is refused with 6, and so it is in the uncut reading
pub ran_under : (frames_of (run 19 fresh (replicate 19 0) pieces) ≡ take 19 feedback ∷ [])
    × (taken_of (run 19 fresh (replicate 19 0) pieces) ≡ feedback)
    × (taken_of (run 18 fresh (replicate 18 0) pieces) ≡ take 16 feedback)
    × (uncut 18 feedback ≡ stops (end.Refused 6))
unfolding be16_of be32_of total_of header_size_of magic_ok data_type_ok stream_type_ok total_ok header_size_ok fault_of ceiling_ok header_error
    known_of next_frame deframed ended run uncut_in uncut
ran_under = (refl, refl, refl, refl)

abbrev held17 : Deframer
held17 = record { held = 17; error = 0 }

-- calls under ceilings of their own: out of the range, over the buffer's length, under the total of the frame of which 17 bytes are held
pub refused_under :
    run 19 fresh (replicate 19 0)
    (push_wrong 15 fresh (replicate 19 0) feedback ∷ finish_wrong 20 fresh (replicate 19 0) ∷ push_wrong 18 held17 feedback [] ∷ [])
    ≡ pushed_wrong 15 fresh (replicate 19 0) (unmoved 41 fresh (replicate 19 0)) ∷ finished_wrong 20 fresh (replicate 19 0) (end.Refused 1)
    ∷ pushed_wrong 18 held17 feedback (unmoved 2 held17 feedback)
    ∷ []
unfolding be16_of be32_of total_of header_size_of magic_ok data_type_ok stream_type_ok total_ok header_size_ok fault_of ceiling_ok header_error
    known_of next_frame deframed ended run
refused_under = refl
