-- Document 01, "The listing": its lines, as bytes
use Rattle.std.specs.Prelude.{ℕ, ◌+◌, ◌≡◌, ◌≤◌, List, ◌++◌, length}
use Rattle.text.specs.Added.{place_of, Adds}
use Rattle.text.specs.Numbers.{ascii, decimal}
use Rattle.text.specs.declared.Text.{Text}
use Rattle.fixed_header.specs.declared.FrameType.{FrameType}
use Rattle.fixed_header.specs.declared.FrameType.TheVariants as types
use Rattle.fixed_header.specs.declared.FixedHeader.{FixedHeader}
use Rattle.deframer.specs.End.{End}
use Rattle.deframer.specs.End as end

-- "Kinds: unary, init, data, feedback, close."
abbrev pub type_name : FrameType → List ℕ
type_name types.Unary = ascii "unary"
type_name types.Init = ascii "init"
type_name types.Data = ascii "data"
type_name types.Feedback = ascii "feedback"
type_name types.Close = ascii "close"

-- a type's name, with a space on either side
abbrev pub spaced : FrameType → List ℕ
spaced t = ascii " " ++ type_name t ++ ascii " "

-- "prints frame number, kind, id and total per line"
abbrev pub frame_line : (number : ℕ) → FixedHeader → List ℕ
frame_line number header =
    decimal number
    ++ spaced header.frame_type
    ++ decimal header.id
    ++ ascii " "
    ++ decimal header.total
    ++ ascii "\n"

-- "End lines: `end clean`, `end short N`, `end refused N` (N is the bytes held, or the refusal number)."
abbrev pub end_line : End → List ℕ
end_line end.Clean = ascii "end clean\n"
end_line (end.Short held) = ascii "end short " ++ decimal held ++ ascii "\n"
end_line (end.Refused number) = ascii "end refused " ++ decimal number ++ ascii "\n"

-- no line is longer: three numbers of up to 20 digits, the longest type, three spaces and the line's end
abbrev pub max_line : ℕ
max_line = 72

-- the line was added to the text, in the same buffer
pub record AddsLine (line : List ℕ) (before after : Text) : Type 0 where
  pub adds : Adds line before.bytes.now (place_of before.len) after.bytes.now (place_of after.len)
  pub short : place_of after.len ≤ place_of before.len + max_line
  pub same_length : length after.bytes.now ≡ length before.bytes.now
  pub same_buffer : after.bytes.ghost_name ≡ before.bytes.ghost_name
