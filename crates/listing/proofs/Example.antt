-- Document 01, "The listing": its example, computed. The cutting of its 20 bytes is a row of `thm_examples`
use Rattle.std.proofs.Common.{◌≡◌, [], ◌∷◌, ◌++◌, refl}
use Rattle.fixed_header.specs.Header.{max_frame, be16_of, be32_of, total_of, header_size_of, id_of, version_of, header_error, type_of, parsed}
use Rattle.fixed_header.specs.Header.{ceiling_ok, magic_ok, data_type_ok, stream_type_ok, total_ok, header_size_ok, fault_of}
use Rattle.fixed_header.specs.declared.FixedHeader.{FixedHeader}
use Rattle.fixed_header.specs.declared.FrameType.TheVariants.{Feedback}
use Rattle.std.specs.Prelude.{Ok}
use Rattle.deframer.specs.End.{Short}
use Rattle.text.specs.Numbers.{places_in, decimal}
use Rattle.listing.specs.Lines.{frame_line, end_line}

abbrev header : FixedHeader
header = record { frame_type = Feedback; total = 19; header_size = 0; id = 5; version = 0 }

pub example_header : parsed max_frame (0x09 ∷ 0x30 ∷ 0x01 ∷ 0x03 ∷ 0 ∷ 0 ∷ 0 ∷ 0x13 ∷ 0 ∷ 0 ∷ 0 ∷ 0 ∷ 0 ∷ 0x05 ∷ 0 ∷ 0 ∷ []) ≡ Ok header
unfolding parsed header_error type_of be16_of be32_of total_of header_size_of id_of version_of magic_ok data_type_ok stream_type_ok total_ok header_size_ok
    fault_of ceiling_ok
example_header = refl

-- "prints exactly `1 feedback 5 19` `end short 1`"
pub example_printed : frame_line 1 header ++ end_line (Short 1)
    ≡ 49 ∷ 32 ∷ 102 ∷ 101 ∷ 101 ∷ 100 ∷ 98 ∷ 97 ∷ 99 ∷ 107 ∷ 32 ∷ 53 ∷ 32 ∷ 49 ∷ 57 ∷ 10
    ∷ 101 ∷ 110 ∷ 100 ∷ 32 ∷ 115 ∷ 104 ∷ 111 ∷ 114 ∷ 116 ∷ 32 ∷ 49 ∷ 10 ∷ []
unfolding decimal places_in
example_printed = refl
