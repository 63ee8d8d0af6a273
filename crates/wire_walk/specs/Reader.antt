-- "The field walk is a reader that refers to the lent header bytes with its place in them."
use Rattle.std.specs.Prelude.{ℕ, ◌+◌, List, drop, Option, Some, None, Result, Ok, Err}
use Rattle.std.specs.Borrow.{Bor}
use Rattle.wire_read.specs.Fields.{FieldResult, no_field, varint_field, fixed64_field, bytes_field, group_field, fixed32_field, field_error}
use Rattle.wire_read.specs.Fields.{next_field}
use Rattle.wire_read.specs.Placed.{FieldAnswer, field_at}
use Rattle.wire_walk.specs.declared.FieldReader.{FieldReader}
use Rattle.wire_walk.specs.declared.Moved.{Moved}
use Rattle.wire_walk.specs.declared.Step.{Step}

-- how many bytes a field takes, its tag included; the end and a refusal take none
unfoldable pub used_by : FieldResult → ℕ
used_by no_field = 0
used_by (varint_field n v used) = used
used_by (fixed64_field n v used) = used
used_by (bytes_field n used size) = used + size
used_by (group_field n used) = used
used_by (fixed32_field n v used) = used
used_by (field_error code) = 0

-- the place after what is at place `at` of the bytes, and `at` itself at their end, past it and where a field is refused
unfoldable pub place_behind : List ℕ → ℕ → ℕ
place_behind s at = at + used_by (next_field (drop at s))

-- a field with the place after it
abbrev pub stepped : ℕ → FieldAnswer → Result (Option Step) ℕ
stepped next (Ok None) = Ok None
stepped next (Ok (Some f)) = Ok (Some (record { field = f; at = next }))
stepped next (Err code) = Err code

-- the field at place `at`, and the place after it; none at the end of the bytes
unfoldable pub step_at : List ℕ → ℕ → Result (Option Step) ℕ
step_at s at = stepped (place_behind s at) (field_at at (next_field (drop at s)))

-- a reader of these bytes, at their first
abbrev pub reader_of : Bor (List ℕ) → FieldReader
reader_of s = record { bytes = s; at = 0 }

-- a field with the reader after it, which refers to the same bytes
abbrev pub moved : Bor (List ℕ) → Result (Option Step) ℕ → Result (Option Moved) ℕ
moved s (Ok None) = Ok None
moved s (Ok (Some x)) = Ok (Some (record { field = x.field; reader = record { bytes = s; at = x.at } }))
moved s (Err code) = Err code

-- what a reader answers: the field at its place, and the reader after it
abbrev pub next_of : FieldReader → Result (Option Moved) ℕ
next_of r = moved r.bytes (step_at r.bytes.now r.at)

-- the field in an answer
abbrev pub found_by : Result (Option Moved) ℕ → FieldAnswer
found_by (Ok None) = Ok None
found_by (Ok (Some m)) = Ok (Some m.field)
found_by (Err code) = Err code

-- the reader after an answer of `r`: `r` itself at the end of its bytes and where a field is refused
abbrev pub reader_after : FieldReader → Result (Option Moved) ℕ → FieldReader
reader_after r (Ok None) = r
reader_after r (Ok (Some m)) = m.reader
reader_after r (Err code) = r
