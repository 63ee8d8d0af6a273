-- A map entry's key and value as the first slots of a state, which nothing else in an entry changes.
use Prim.Native.Nat.{ℕ, ◌+◌, ◌-◌, ◌<◌, ◌≤◌}
use mathlib.Core.Path.{◌≡◌, refl, subst, ◌∙◌}
use mathlib.Core.Logic.{◌⊎◌, inl, inr}
use mathlib.Core.Bool.{Bool, true, false, cond}
use mathlib.Core.List.{List, [], ◌∷◌}
use lib.ListN.{length, take, replicate}
use lib.Dec.{eqb}
use native.Mathlib.Omega.{arith}
use Rattle.std.specs.Prelude.{Some, Ok}
use Rattle.fixed_header.specs.Header.{max_frame}
use Rattle.wire_read.specs.Part.{part}
use Rattle.wire_read.specs.declared.Field.TheVariants as fields
use Rattle.wire_walk.specs.Reader.{step_at}
use Rattle.wire_walk.specs.declared.Step.{Step}
use Rattle.wire_read.proofs.PartLaws.{part_length}
use Rattle.schema.specs.Schema.{entry}
use Rattle.decoder.specs.Fields.{State, Result, ok, blank, start_of, Reader, set_slot, set_bytes, set_number, with_field, fields_in}
use Rattle.schema.specs.Targets.{some_bytes, unknown, look}
use Rattle.decoder.specs.DecoderState.{with_span}
use Rattle.decoder.specs.declared.entry.MapEntry.{MapEntry}
use Rattle.decoder.proofs.Walk.{Walk, Passed, walk_passed, walk_varint, varint_bounds, bytes_bounds, bytes_taken_lem}

abbrev pub entry_state : MapEntry → State
entry_state e = record { slots = e.key ∷ e.key_size ∷ e.value ∷ e.value_size ∷ replicate 12 0; rows = []; entries = 0 }

entry_taken : (frame : List ℕ) (read : Reader) (at : ℕ) (x : List ℕ) (e : MapEntry) (n size : ℕ) → length x ≡ size
    → with_field frame read at x (entry_state e) (look entry 0 n) ≡ ok (entry_state (with_span n at size e))
unfolding look with_field set_bytes set_slot with_span
entry_taken frame read at x e n size h = rw (← h) (by (eqb 1 n) (eqb 2 n))
  where
    by : (a b : Bool)
        → with_field frame read at x (entry_state e) (cond a (some_bytes 0) (cond b (some_bytes 2) unknown))
        ≡ ok (entry_state (cond a
        (record { key = start_of at (length x); key_size = length x; value = e.value; value_size = e.value_size })
        (cond b (record { key = e.key; key_size = e.key_size; value = start_of at (length x); value_size = length x }) e)))
    by true b = refl
    by false true = refl
    by false false = refl

pub entry_number : (n v : ℕ) (st : State) → set_number (look entry 0 n) v st ≡ st
unfolding look set_number
entry_number n v st = by (eqb 1 n) (eqb 2 n)
  where
    by : (a b : Bool) → set_number (cond a (some_bytes 0) (cond b (some_bytes 2) unknown)) v st ≡ st
    by true b = refl
    by false true = refl
    by false false = refl

-- ---- the loop of `read_entry`

abbrev pub read_entry : (frame : List ℕ) (at end : ℕ) → Result
read_entry frame at end = fields_in (end - at) frame entry 0 at (part frame at end) blank

pub record ReadingEntry (frame : List ℕ) (at end i : ℕ) (e : MapEntry) : Type 0 where
  pub walk : Walk frame entry 0 (read_entry frame at end) end i (entry_state e)
  pub small : length frame ≤ max_frame

pub entry_start : (frame : List ℕ) (at end : ℕ) → at ≤ end → end ≤ length frame → length frame ≤ max_frame
    → ReadingEntry frame at end at (record { key = 0; key_size = 0; value = 0; value_size = 0 })
entry_start frame at end h k l = record { walk = record { to = h; long = k; rest = refl }; small = l }

module _ (frame : List ℕ) (at end i : ℕ) (e : MapEntry) (w : ReadingEntry frame at end i e)
    {s : Step} (is-s : Ok (Some s) ≡ step_at (take end frame) i) where
  pub entry_varint : (n v next : ℕ) → s.field ≡ fields.Varint n v next → ReadingEntry frame at end s.at e
  entry_varint n v next q =
      record {
        walk = subst (Walk frame entry 0 (read_entry frame at end) end s.at) (entry_number n v (entry_state e))
            (walk_varint frame entry 0 (read_entry frame at end) end i (entry_state e) w.walk is-s n v next q);
        small = w.small;
      }

  -- a field of any other kind
  pub entry_passed : ((n : ℕ) × (v : ℕ) × (next : ℕ) × (s.field ≡ fields.Varint n v next)) ⊎ Passed s.field
      → (i < s.at) × (s.at ≤ end) × ReadingEntry frame at end s.at e
  entry_passed (inl (n, v, next, q)) =
      let b = varint_bounds frame entry 0 (read_entry frame at end) end i (entry_state e) w.walk is-s q in
      (b.0, b.1, entry_varint n v next q)
  entry_passed (inr p) =
      let b = walk_passed frame entry 0 (read_entry frame at end) end i (entry_state e) w.walk is-s p in
      (b.0, b.1, record { walk = b.2; small = w.small })

  pub entry_bytes : (n start size : ℕ) → s.field ≡ fields.Bytes n start size → (r : MapEntry) → r ≡ with_span n start size e
      → ReadingEntry frame at end s.at r
  entry_bytes n start size q r is_r =
      let b = bytes_bounds frame entry 0 (read_entry frame at end) end i (entry_state e) w.walk is-s n start size q in
      let l = w.walk.long in
      let x : length (part frame start (start + size)) ≡ size = part_length frame start (start + size) ∙ omega arith in
      rw is_r
      (record {
        walk = bytes_taken_lem frame entry 0 (read_entry frame at end) end i (entry_state e) w.walk is-s n start size q
            (entry_state (with_span n start size e)) (entry_taken frame (fields_in size frame) start (part frame start (start + size)) e n
            size x);
        small = w.small;
      })
