-- The numbers of fields that are read (crates `wire_read`, `wire_walk`, `decoder`) and of a record's content (`writer_checks`)
-- Assumes nothing.
use Prim.Native.Nat.{ℕ, zero, suc, ◌+◌}
use mathlib.Core.Path.{◌≡◌, refl, sym, subst}
use mathlib.Core.Logic.{inl, inr}
use mathlib.Core.Bool.{cond}
use mathlib.Core.List.{List, [], ◌∷◌}
use native.Mathlib.Omega.{arith}
use lib.Dec.{ltb}
use lib.ListN.{length, drop}
use Rattle.std.specs.Prelude.{Option, Some, None, Result, Ok, Err}
use Rattle.laws.proofs.Booleans.{either}
use Rattle.refusals.specs.Refusals.{in_numbers, code_of}
use Rattle.refusals.specs.declared.Refusal.{Refusal}
use Rattle.wire_read.specs.Part.{part}
use Rattle.wire_read.specs.Varint.{VarintResult, got, bad}
use Rattle.wire_read.specs.Tags.{TagResult, field, no_tag, tag_error, LengthResult, bytes, length_error}
use Rattle.wire_read.specs.Skipping.{SkipResult, skipped, skip_error}
use Rattle.wire_read.specs.Fields.{FieldResult, no_field, varint_field, fixed64_field, bytes_field, group_field, fixed32_field, field_error}
use Rattle.wire_read.specs.Fields.{next_field}
use Rattle.wire_read.specs.Placed.{FieldAnswer, varint_at, tag_at, length_at, skip_at, field_at}
use Rattle.wire_walk.specs.Reader.{used_by, place_behind, stepped, step_at, moved, next_of}
use Rattle.wire_walk.specs.declared.FieldReader.{FieldReader}
use Rattle.wire_walk.specs.declared.Step.{Step}
use Rattle.wire_walk.specs.Walk.{onward, walk_in, walk, placed}
use Rattle.wire_walk.specs.Last.{replaces, last_of, last_field}
use Rattle.fixed_header.specs.Header.{max_frame}
use Rattle.schema.specs.Schema.{schema_at}
use Rattle.schema.specs.Kinds.{schema_of}
use Rattle.schema.specs.declared.Kind.{Kind}
use Rattle.decoder.specs.Rows.{row_numbers, rows_in}
use Rattle.decoder.specs.Fields.{ok, refused, read_message}
use Rattle.decoder.specs.Fields.{Result as Reading}
use Rattle.decoder.specs.Decoding.{Outcome, outcome, decoded}
use Rattle.wire_read.proofs.Codes.{Number, TagCode, LengthCode, SkipCode, FieldCode, next_field_code}
use Rattle.decoder.proofs.Results.{Sound, message_sound}
use Rattle.writer_checks.specs.Grounds.{rows_ok, spans_within, rows_within, keys_differ, absent_ok, body_ok, content_error}
use Rattle.refusals.specs.Numbers.{in_use, Usable}
use Rattle.refusals.proofs.Numbers.{is_in_lem, in_range}

-- ---- the number in an answer, 0 for none
abbrev pub error_of : {A : Type 0} → Result A ℕ → ℕ
error_of (Ok a) = 0
error_of (Err code) = code

-- it is that of what the answer says in numbers
pub code_usable : {A : Type 0} (r : Result A Refusal) {x : Result A ℕ} → in_numbers r ≡ x → Usable (error_of x) → Usable (code_of r)
code_usable (Ok a) is u = inl refl
code_usable {A = A} (Err refusal) is u = subst (λ (y : Result A ℕ). Usable (error_of y)) (sym is) u

-- ---- `wire_read`: 10 to 13
number_usable : (n : ℕ) → Number n → Usable n
number_usable n h = inr (in_range 10 4 n refl h.0 (omega (arith, h.1)))

pub varint_usable : (at : ℕ) (v : VarintResult) → Usable (error_of (varint_at at v))
unfolding varint_at
varint_usable at (got v used) = inl refl
varint_usable at bad = inr (is_in_lem 10 in_use refl)

pub tag_usable : (at : ℕ) (t : TagResult) → TagCode t → Usable (error_of (tag_at at t))
unfolding tag_at
tag_usable at (field n w used) h = inl refl
tag_usable at no_tag h = inl refl
tag_usable at (tag_error code) h = number_usable code h

pub length_usable : (at : ℕ) (l : LengthResult) → LengthCode l → Usable (error_of (length_at at l))
unfolding length_at
length_usable at (bytes used size) h = inl refl
length_usable at (length_error code) h = number_usable code h

pub skip_usable : (at : ℕ) (k : SkipResult) → SkipCode k → Usable (error_of (skip_at at k))
unfolding skip_at
skip_usable at (skipped used) h = inl refl
skip_usable at (skip_error code) h = number_usable code h

pub field_usable : (at : ℕ) (f : FieldResult) → FieldCode f → Usable (error_of (field_at at f))
unfolding field_at
field_usable at no_field h = inl refl
field_usable at (varint_field n v used) h = inl refl
field_usable at (fixed64_field n v used) h = inl refl
field_usable at (bytes_field n used size) h = inl refl
field_usable at (group_field n used) h = inl refl
field_usable at (fixed32_field n v used) h = inl refl
field_usable at (field_error code) h = number_usable code h

-- ---- `wire_walk`: those of the fields walked
abbrev Codes : List FieldResult → Type 0
Codes [] = Unit {0}
Codes (f ∷ fs) = FieldCode f × Codes fs

onward_codes : (go : List ℕ → List FieldResult) → ((s : List ℕ) → Codes (go s)) → (used : ℕ) (s : List ℕ) → Codes (onward go used s)
unfolding onward
onward_codes go each zero s = tt
onward_codes go each (suc used) s = each (drop (suc used) s)

walk_codes : (steps : ℕ) (s : List ℕ) → Codes (walk_in steps s)
unfolding walk_in
walk_codes zero s = (next_field_code s, tt)
walk_codes (suc steps) s = (next_field_code s, onward_codes (walk_in steps) (walk_codes steps) (used_by (next_field s)) s)

last_of_lem : (tag at : ℕ) (found : FieldAnswer) (fs : List FieldResult) → Usable (error_of found) → Codes fs
    → Usable (error_of (last_of tag found (placed at fs)))
unfolding last_of placed
last_of_lem tag at found [] u c = u
last_of_lem tag at found (f ∷ fs) u c =
    last_of_lem tag (at + used_by f) (cond (replaces tag (field_at at f)) (field_at at f) found) fs
    (either (λ (x : FieldAnswer). Usable (error_of x)) (replaces tag (field_at at f)) (field_usable at f c.0) u) c.1

pub last_usable : (tag : ℕ) (s : List ℕ) → Usable (error_of (last_field tag s))
unfolding last_field walk
last_usable tag s = last_of_lem tag 0 (Ok None) (walk s) (inl refl) (walk_codes (length s) s)

-- a step, with the place after it or the reader
pub step_usable : (s : List ℕ) (at : ℕ) → Usable (error_of (step_at s at))
unfolding step_at
step_usable s at = by (field_at at (next_field (drop at s))) (field_usable at (next_field (drop at s)) (next_field_code (drop at s)))
  where
    by : (x : FieldAnswer) → Usable (error_of x) → Usable (error_of (stepped (place_behind s at) x))
    by (Ok None) u = u
    by (Ok (Some f)) u = u
    by (Err code) u = u

pub next_usable : (r : FieldReader) → Usable (error_of (next_of r))
next_usable r = by (step_at r.bytes.now r.at) (step_usable r.bytes.now r.at)
  where
    by : (x : Result (Option Step) ℕ) → Usable (error_of x) → Usable (error_of (moved r.bytes x))
    by (Ok None) u = u
    by (Ok (Some x)) u = u
    by (Err code) u = u

-- ---- `decoder`: 16, 9, 10 to 14
result_usable : (x : Reading) → Sound x → (lent : List ℕ) → Usable (error_of (outcome x lent).answer)
unfolding outcome
result_usable (ok st) s lent = inl refl
result_usable (refused code) s lent = inr (in_range 10 5 code refl s.0 (omega (arith, s.1)))

pub decode_usable : (frame : List ℕ) (at end schema : ℕ) (lent : List ℕ) → Usable (error_of (decoded frame at end schema lent).answer)
unfolding decoded
decode_usable frame at end schema lent =
    let number : Outcome → Type 0 = λ o. Usable (error_of o.answer) in
    either number (ltb (length lent) row_numbers) (inr (is_in_lem 16 in_use refl))
    (either number (ltb max_frame (length frame)) (inr (is_in_lem 9 in_use refl))
    (result_usable (read_message frame (schema_at schema) at (part frame at end))
    (message_sound frame (schema_at schema) at (part frame at end)) lent))

-- ---- `writer_checks`: 18, 17, 15
pub content_usable : (kind : Kind) (slots : List ℕ) (count : ℕ) (source numbers : List ℕ) (body_size : ℕ)
    → Usable (content_error kind slots count source numbers body_size)
unfolding content_error
content_usable kind slots count source numbers body_size =
    either Usable (rows_ok kind count (length numbers))
    (either Usable (spans_within (length source) (schema_of kind) 0 slots)
    (either Usable (rows_within (length source) (rows_in count numbers))
    (either Usable (keys_differ source (rows_in count numbers))
    (either Usable (absent_ok (rows_in count numbers) (schema_of kind) 0 slots)
    (either Usable (body_ok kind slots body_size)
    (inl refl)
    (inr (is_in_lem 15 in_use refl)))
    (inr (is_in_lem 18 in_use refl)))
    (inr (is_in_lem 18 in_use refl)))
    (inr (is_in_lem 17 in_use refl)))
    (inr (is_in_lem 17 in_use refl)))
    (inr (is_in_lem 18 in_use refl))
