-- The loop of `read_fields`: the slots and the row numbers hold what the fields up to a place gave, and what is left to read is what is
-- left of the whole.
use Prim.Native.Nat.{ℕ, ◌<◌, ◌≤◌}
use mathlib.Core.Path.{◌≡◌, refl, sym, subst, ◌∙◌}
use mathlib.Core.List.{List}
use lib.ListN.{length, take, drop}
use native.Mathlib.Omega.{arith}
use Rattle.fixed_header.specs.Header.{max_frame}
use Rattle.wire_read.specs.declared.Field.TheVariants as fields
use Rattle.wire_walk.specs.Reader.{step_at}
use Rattle.wire_walk.specs.declared.Step.{Step}
use Rattle.schema.specs.Schema.{part_schema, slot_at}
use Rattle.decoder.specs.Fields.{State, Result, ok, refused, set_number}
use Rattle.schema.specs.Targets.{look}
use Rattle.decoder.specs.DecoderState.{state_of, Holds, Ready, Tells, with_field_at, read_at, with_number}
use Rattle.decoder.specs.declared.Slots.{Slots}
use Rattle.refusals.specs.Refusals.{number}
use Rattle.refusals.specs.declared.Refusal.{Refusal}
use Rattle.std.specs.Prelude as std
use Rattle.decoder.proofs.RowLaws.{state_is, past_same, relent}
use Rattle.decoder.proofs.Walk.{Walk, Passed, walk_end, walk_error, walk_varint, walk_passed}
use Rattle.decoder.proofs.Walk.{bytes_bounds, bytes_place, bytes_taken_lem, bytes_refused}
use Rattle.decoder.proofs.StateLaws.{number_held}

pub record Reading (frame : List ℕ) (schema at end : ℕ) (first : Slots) (lent : List ℕ) (i : ℕ) (slots : Slots)
    (numbers : List ℕ) : Type 0 where
  pub st : State
  pub walk : Walk frame (part_schema schema) (slot_at schema) (read_at frame schema at end (state_of first lent)) end i st
  pub holds : Holds st slots numbers lent
  pub from : at ≤ i
  pub small : length frame ≤ max_frame

pub reading : (frame : List ℕ) (schema at end : ℕ) (slots : Slots) (lent : List ℕ) → at ≤ end → end ≤ length frame → length frame ≤ max_frame
    → Ready slots lent → Reading frame schema at end slots lent at slots lent
reading frame schema at end slots lent a b c h =
    record { st = state_of slots lent; walk = record { to = a; long = b; rest = refl }; holds = h; from = omega arith; small = c }

module _ (frame : List ℕ) (schema at end : ℕ) (first : Slots) (lent : List ℕ) (i : ℕ) (slots : Slots) (numbers : List ℕ)
    (w : Reading frame schema at end first lent i slots numbers) where
  abbrev total : Result
  total = read_at frame schema at end (state_of first lent)

  pub reading_end : std.Ok std.None ≡ step_at (take end frame) i → Tells total (std.Ok slots) numbers lent
  reading_end e =
      subst (λ (o : Result). Tells o (std.Ok slots) numbers lent)
      (sym (walk_end frame (part_schema schema) (slot_at schema) total end i w.st w.walk e))
      w.holds

  pub reading_error : (refusal : Refusal) → std.Err (number refusal) ≡ step_at (take end frame) i
      → Tells total (std.Err refusal) numbers lent
  reading_error refusal e =
      subst (λ (o : Result). Tells o (std.Err refusal) numbers lent)
      (sym (walk_error frame (part_schema schema) (slot_at schema) total end i w.st w.walk e))
      (record { number_is = refl; past = past_same w.st slots numbers lent w.holds })

module _ (frame : List ℕ) (schema at end : ℕ) (first : Slots) (lent : List ℕ) (i : ℕ) (slots : Slots) (numbers : List ℕ)
    (w : Reading frame schema at end first lent i slots numbers) {s : Step} (is-s : std.Ok (std.Some s) ≡ step_at (take end frame) i) where
  abbrev whole : Result
  whole = read_at frame schema at end (state_of first lent)

  pub reading_varint : (n v next : ℕ) → s.field ≡ fields.Varint n v next → i < s.at → (r : Slots)
      → r ≡ with_number (look (part_schema schema) (slot_at schema) n) v slots → Reading frame schema at end first lent s.at r numbers
  reading_varint n v next e more r is_r =
      let t = look (part_schema schema) (slot_at schema) n in
      record {
        st = set_number t v w.st;
        walk = walk_varint frame (part_schema schema) (slot_at schema) whole end i w.st w.walk is-s n v next e;
        holds = rw is_r (number_held w.st slots numbers lent w.holds t v);
        from = (let a = w.from in omega arith);
        small = w.small;
      }

  pub reading_passed : Passed s.field → (i < s.at) × (s.at ≤ end) × Reading frame schema at end first lent s.at slots numbers
  reading_passed p =
      let b = walk_passed frame (part_schema schema) (slot_at schema) whole end i w.st w.walk is-s p in
      (b.0, b.1, record { st = w.st; walk = b.2; holds = w.holds; from = (let a = w.from in let c = b.0 in omega arith); small = w.small })

  module _ (n start size : ℕ) (e : s.field ≡ fields.Bytes n start size) (d : std.Result Slots Refusal) (after : List ℕ)
      (is-d : Tells (with_field_at frame start size (state_of slots numbers) (look (part_schema schema) (slot_at schema) n)) d after numbers)
    where
      abbrev gives : Result
      gives = with_field_at frame start size w.st (look (part_schema schema) (slot_at schema) n)

      tells : Tells gives d after numbers
      tells = subst (λ (o : State). Tells (with_field_at frame start size o (look (part_schema schema) (slot_at schema) n)) d after numbers)
          (state_is w.st slots numbers lent w.holds) is-d

      past_lent : drop 256 numbers ≡ drop 256 lent
      past_lent = past_same w.st slots numbers lent w.holds

      pub reading_taken : (next : Slots) → d ≡ std.Ok next → Reading frame schema at end first lent s.at next after
      reading_taken next z = by gives refl (subst (λ (x : std.Result Slots Refusal). Tells gives x after numbers) z tells)
        where
          by : (o : Result) → gives ≡ o → Tells o (std.Ok next) after numbers → Reading frame schema at end first lent s.at next after
          by (refused code) g t = absurd t
          by (ok o) g t =
              record {
                st = o;
                walk = bytes_taken_lem frame (part_schema schema) (slot_at schema) whole end i w.st w.walk is-s n start size e o g;
                holds = relent o next after numbers lent past_lent w.holds.long t;
                from =
                    omega (
                      arith,
                      w.from,
                      bytes_bounds frame (part_schema schema) (slot_at schema) whole end i w.st w.walk is-s n start size e,
                      bytes_place frame (part_schema schema) (slot_at schema) whole end i w.st w.walk is-s n start size e,
                    );
                small = w.small;
              }

      pub reading_refused : (refusal : Refusal) → d ≡ std.Err refusal → Tells whole (std.Err refusal) after lent
      reading_refused refusal z = by gives refl (subst (λ (x : std.Result Slots Refusal). Tells gives x after numbers) z tells)
        where
          by : (o : Result) → gives ≡ o → Tells o (std.Err refusal) after numbers → Tells whole (std.Err refusal) after lent
          by (ok o) g t = absurd t
          by (refused code) g t =
              subst (λ (o : Result). Tells o (std.Err refusal) after lent)
              (sym (bytes_refused frame (part_schema schema) (slot_at schema) whole end i w.st w.walk is-s n start size e code g))
              (record { number_is = t.number_is; past = t.past ∙ past_lent })
