-- What holds of a record that is written
use Prim.Native.Nat.{ℕ, ◌≤◌}
use mathlib.Core.Path.{◌≡◌, refl}
use mathlib.Core.Bool.{Bool, true, false, cond, ◌||◌}
use mathlib.Core.List.{List, []}
use native.Mathlib.Omega.{arith}
use borrow.Author.Tests.{eqb-true}
use lib.Dec.{eqb, leb, leb-zero}
use lib.ListN.{length, take, drop}
use lib.Seq.{take-append_seam}
use Rattle.fixed_header.specs.Header.{max_frame, CeilingOk}
use Rattle.laws.proofs.Booleans.{clash}
use Rattle.decoder.specs.Rows.{rows_in}
use Rattle.schema.specs.Kinds.{schema_of}
use Rattle.records.specs.Records.{attachment_size_of}
use Rattle.schema.specs.declared.Kind.{Kind}
use Rattle.schema.specs.declared.Kind.TheVariants as kinds
use Rattle.records.specs.declared.Record.{Record}
use Rattle.records.specs.Content.{kind_of, row_count, slots_of}
use Rattle.writer_checks.specs.Grounds.{has_map, body_ok}
use Rattle.writer_checks.proofs.Accepted as content
use Rattle.writer.specs.Writing.{frame_of, write_error, wrote, refused_with, written}
use Rattle.std.specs.Prelude.{Ok}
use Rattle.writer.proofs.Under.{no_content_error, accepted_within}
use Rattle.thm_round_trip.proofs.Said.{has_rows, kept_rows}

-- under the ceiling c
pub record WriteAccepted (c : ℕ) (r : Record) (source numbers body : List ℕ) : Type 0 where
  pub ceiling : CeilingOk c
  pub content : content.Accepted (kind_of r) (slots_of r) (row_count r) source numbers (length body)
  pub small : length (frame_of r source numbers body) ≤ c

write_accepted : (c : ℕ) (r : Record) (source numbers body : List ℕ) (room : ℕ) → write_error c r source numbers body room ≡ 0
    → WriteAccepted c r source numbers body
write_accepted c r source numbers body room e =
    let within = accepted_within c r source numbers body room e in
    record {
      ceiling = within.0;
      content =
          content.accepted (kind_of r) (slots_of r) (row_count r) source numbers (length body)
          (no_content_error c r source numbers body room e);
      small = within.1;
    }

-- and so under each that is larger
pub accepted_larger : (c d : ℕ) → c ≤ d → d ≤ max_frame → (r : Record) (source numbers body : List ℕ)
    → WriteAccepted c r source numbers body → WriteAccepted d r source numbers body
accepted_larger c d more most r source numbers body is =
    record { ceiling = (omega (arith, is.ceiling), most); content = is.content; small = omega (arith, is.small) }

-- ---- the answer that a frame was written
record Done (frame : List ℕ) (error size : ℕ) (output : List ℕ) : Type 0 where
  no_error : error ≡ 0
  is_frame : take size output ≡ frame

done : (frame output : List ℕ) (error size : ℕ)
    → (cond (eqb error 0) (wrote frame output) (refused_with error output)).answer ≡ Ok size
    → Done frame error size (cond (eqb error 0) (wrote frame output) (refused_with error output)).output
done frame output error size = by (eqb error 0) refl
  where
    by : (b : Bool) → eqb error 0 ≡ b → (cond b (wrote frame output) (refused_with error output)).answer ≡ Ok size
        → Done frame error size (cond b (wrote frame output) (refused_with error output)).output
    by true e a =
        let is : length frame ≡ size = cc in
        record { no_error = eqb-true error 0 e; is_frame = rw (← is) (take-append_seam frame (drop (length frame) output)) }
    by false e a = clash cc

-- the frame is in the output, and the record was accepted
pub record Framed (c : ℕ) (r : Record) (source numbers body output : List ℕ) (size : ℕ) : Type 0 where
  pub frame_is : take size (written c r source numbers body output).output ≡ frame_of r source numbers body
  pub accepted : WriteAccepted c r source numbers body

pub framed : (c : ℕ) (r : Record) (source numbers body output : List ℕ) (size : ℕ)
    → (written c r source numbers body output).answer ≡ Ok size → Framed c r source numbers body output size
framed c r source numbers body output size e =
    let d = done (frame_of r source numbers body) output (write_error c r source numbers body (length output)) size e in
    record { frame_is = d.is_frame; accepted = write_accepted c r source numbers body (length output) d.no_error }

-- ---- rows and body by the kind
no_rows : (count : ℕ) (numbers : List ℕ) → eqb count 0 ≡ true → [] ≡ rows_in count numbers
unfolding rows_in
no_rows count numbers e = rw (eqb-true count 0 e)

-- a kind with no map has no rows
pub rows_kept : (kind : Kind) (count : ℕ) (numbers : List ℕ) → has_map kind || eqb count 0 ≡ true
    → kept_rows (schema_of kind) (rows_in count numbers) ≡ rows_in count numbers
unfolding kept_rows has_rows has_map
rows_kept kinds.Request count numbers allowed = refl
rows_kept kinds.Response count numbers allowed = refl
rows_kept kinds.Init count numbers allowed = refl
rows_kept kinds.Data count numbers allowed = no_rows count numbers allowed
rows_kept kinds.Feedback count numbers allowed = no_rows count numbers allowed
rows_kept kinds.Close count numbers allowed = refl

pub attachment_fits : (kind : Kind) (slots : List ℕ) (size : ℕ) → body_ok kind slots size ≡ true
    → leb (attachment_size_of kind slots) size ≡ true
unfolding body_ok attachment_size_of
attachment_fits kinds.Request slots size ok = ok
attachment_fits kinds.Response slots size ok = ok
attachment_fits kinds.Init slots size ok = leb-zero size
attachment_fits kinds.Data slots size ok = leb-zero size
attachment_fits kinds.Feedback slots size ok = leb-zero size
attachment_fits kinds.Close slots size ok = leb-zero size
