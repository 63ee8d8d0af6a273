-- Fixed values, at any width: what the answer of `skip_fixed` says, and the field whose value is that many bytes, however it is said.
use Prim.Native.Nat.{ℕ, ◌+◌, ◌-◌, ◌<◌, ◌≤◌}
use mathlib.Core.Path.{◌≡◌, refl}
use mathlib.Core.Bool.{Bool, true, false, cond}
use mathlib.Core.List.{List}
use lib.ListN.{length, take, drop}
use lib.Seq.{take-take}
use lib.Dec.{leb}
use native.Mathlib.Omega.{arith}
use borrow.Author.Tests.{leb-true}
use Rattle.std.specs.Prelude.{Option, Result, Ok, Err}
use Rattle.laws.proofs.Booleans.{clash}
use Rattle.wire_read.specs.Part.{part}
use Rattle.refusals.specs.Numbers.{past_end}
use Rattle.wire_read.specs.Skipping.{skip_fixed}
use Rattle.wire_read.specs.Fields.{FieldResult, field_error, little_endian}
use Rattle.wire_read.specs.Placed.{skip_at, field_at}
use Rattle.wire_read.specs.declared.Field.{Field}
use Rattle.wire_read.proofs.PartLaws.{part_length}

module _ (s : List ℕ) (at end width : ℕ) where
  abbrev Skipped : Result ℕ ℕ → Type 0
  Skipped k = k ≡ skip_at at (skip_fixed width (part s at end))

  pub room : {next : ℕ} → Skipped (Ok next) → (leb width (length (part s at end)) ≡ true) × (next ≡ at + width)
  unfolding skip_fixed skip_at
  room {next = next} e = by (leb width (length (part s at end))) refl
    where
      by : (b : Bool) → leb width (length (part s at end)) ≡ b → (leb width (length (part s at end)) ≡ true) × (next ≡ at + width)
      by true h = (h, cc)
      by false h = clash cc

  no_room : {code : ℕ} → Skipped (Err code) → (leb width (length (part s at end)) ≡ false) × (code ≡ 12)
  unfolding skip_fixed skip_at
  no_room {code = code} e = by (leb width (length (part s at end))) refl
    where
      by : (b : Bool) → leb width (length (part s at end)) ≡ b → (leb width (length (part s at end)) ≡ false) × (code ≡ 12)
      by true h = clash cc
      by false h = (h, cc)

  pub in_slice : 0 < width → {next : ℕ} → Skipped (Ok next) → at + width ≤ length s
  in_slice some e = omega (arith, part_length s at end, leb-true width (length (part s at end)) (room e).0)

  same_bytes : {next : ℕ} → Skipped (Ok next) → take width (part s at end) ≡ take width (drop at s)
  same_bytes e =
      take-take width (end - at) (drop at s) (omega
      (arith, part_length s at end, leb-true width (length (part s at end)) (room e).0))

  pub refusal : (x : FieldResult) {code : ℕ} → Skipped (Err code)
      → Err code ≡ field_at at (cond (leb width (length (part s at end))) x (field_error past_end))
  unfolding field_at
  refusal x e = let g = no_room e in rw (g.0, g.1)

  -- `say` is the field of a value and the place after it, in the code, and `f` in the definitions
  pub value_found : (f : ℕ → FieldResult) (say : ℕ → ℕ → Result (Option Field) ℕ) → ((v : ℕ) → say v (at + width) ≡ field_at at (f v))
      → {next v : ℕ} → Skipped (Ok next) → v ≡ little_endian (take width (drop at s)) → say v next
      ≡ field_at at (cond (leb width (length (part s at end))) (f (little_endian (take width (part s at end)))) (field_error past_end))
  value_found f say same {v = v} e is_v = rw ((room e).0, (room e).1, same_bytes e, is_v) (same (little_endian (take width (drop at s))))
