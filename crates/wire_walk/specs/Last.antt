-- "The last occurrence of a field wins; absent is 0 or empty." A field is named by its tag: "field number times 8 plus wire type".
use Rattle.std.specs.Prelude.{ℕ, ◌+◌, ◌*◌, Bool, true, false, cond, List, [], ◌∷◌, eqb, Some, None, Ok, Err}
use Rattle.wire_read.specs.Placed.{FieldAnswer}
use Rattle.wire_read.specs.declared.Field.TheVariants as fields
use Rattle.wire_walk.specs.Walk.{walk, placed}

-- Whether a field takes the place of what was found before it: a field with this tag does, and so does a refusal. "An unknown field, or
-- a known one with another wire type, is skipped."
abbrev pub replaces : ℕ → FieldAnswer → Bool
replaces tag (Ok None) = false
replaces tag (Ok (Some (fields.Varint n v after))) = eqb (n * 8) tag
replaces tag (Ok (Some (fields.Fixed64 n v after))) = eqb (n * 8 + 1) tag
replaces tag (Ok (Some (fields.Bytes n start size))) = eqb (n * 8 + 2) tag
replaces tag (Ok (Some (fields.Group n after))) = eqb (n * 8 + 3) tag
replaces tag (Ok (Some (fields.Fixed32 n v after))) = eqb (n * 8 + 5) tag
replaces tag (Err code) = true

-- the last of these that takes over, or what was found before them
unfoldable pub last_of : ℕ → FieldAnswer → List FieldAnswer → FieldAnswer
last_of tag found [] = found
last_of tag found (f ∷ fs) = last_of tag (cond (replaces tag f) f found) fs

-- the last field of the bytes with this tag; none where there is none, the refusal where the walk is refused
unfoldable pub last_field : ℕ → List ℕ → FieldAnswer
last_field tag s = last_of tag (Ok None) (placed 0 (walk s))
