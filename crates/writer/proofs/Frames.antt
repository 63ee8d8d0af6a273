-- The 16 bytes of a frame are stored last, in front of its message and its body; and what the fields of a message need
use Prim.Native.Nat.{ℕ, ◌+◌, ◌-◌, ◌≤◌}
use mathlib.Core.Path.{◌≡◌, refl, sym, ap, ◌∙◌}
use mathlib.Core.Bool.{true}
use mathlib.Core.List.{List, ◌++◌, append_assoc}
use lib.ListN.{length, take, drop, length-append, length-take}
use lib.Seq.{sets, sets-eq, length-sets, drop_at}
use native.Mathlib.Omega.{arith}
use borrow.Author.Tests.{leb-true, le-leb}
use Rattle.laws.proofs.Booleans.{both}
use Rattle.fixed_header.specs.Header.{max_frame}
use Rattle.fixed_header.specs.Put.{fixed_header, header_put}
use Rattle.fixed_header.specs.declared.FixedHeader.{FixedHeader}
use Rattle.fixed_header.specs.declared.FrameType.{FrameType}
use Rattle.fixed_header.proofs.RoundTrip.{sixteen_bytes}
use Rattle.schema.specs.Schema.{request, response, close, init, width}
use Rattle.schema.specs.Kinds.{schema_of}
use Rattle.schema.specs.declared.Kind.{Kind}
use Rattle.schema.specs.declared.Kind.TheVariants as kinds
use Rattle.writer_checks.specs.Grounds.{spans_within, rows_within}
use Rattle.writer.specs.Writing.{frame_type_of, header_size_of, header_for, size_error}
use Rattle.writer.specs.Straight.{Did, NamesIn, SpanIn, MetaIn, fours, size_by, small_tags, message_bytes, frame_with}
use Rattle.writer.proofs.Refusals.{no_error}
use Rattle.writer.proofs.Stores.{then}
use Rattle.writer.proofs.Measures.{sized_by}

module _ (h x out : List ℕ) (at : ℕ) (is_at : length h ≡ at) (room : at + length x ≤ length out) where
  sets_front : sets (sets out at x) 0 h ≡ sets out 0 (h ++ x)
  sets_front =
      let front : length (take at out) ≡ at = omega (arith, length-take at out) in
      let both = length-append h x in
      let end : 0 + length (h ++ x) ≡ at + length x = omega arith in
      let start : 0 + length h ≡ at = omega arith in
      let behind = drop_at (take at out) (x ++ drop (at + length x) out) at front in
      sets-eq h (sets out at x) 0 (omega (arith, length-sets out at x))
      ∙ rw (
        start,
        sets-eq x out at room,
        append_assoc (take at out) x (drop (at + length x) out),
        behind,
        sets-eq (h ++ x) out 0
            (omega arith),
        end,
      )
      (sym (append_assoc h x (drop (at + length x) out)))

  pub in_front : {next : ℕ} {after last : List ℕ} → Did x out at next after → last ≡ sets after 0 h → Did (h ++ x) out 0 next last
  in_front {next} {after} {last} p e =
      record {
        place = omega (arith, p.place, length-append h x);
        bytes = e ∙ ap (λ (o : List ℕ). sets o 0 h) p.bytes ∙ sets_front;
      }

-- what `put_header` stores where there is room
header_did : (h : FixedHeader) (out : List ℕ) → 16 ≤ length out → {after : List ℕ} → after ≡ (header_put h out).output
    → after ≡ sets out 0 (fixed_header h)
unfolding header_put fixed_header
header_did h out room e =
    let fits = le-leb 16 (length out) room in
    rw fits at e ∙ sym (sets-eq (fixed_header h) out 0 (omega arith))

-- a frame: its message, its body, and then its 16 bytes
module _ (kind : Kind) (id version : ℕ) (m body out : List ℕ) (room : 16 + length m + length body ≤ length out) where
  pub framed_message : {end total : ℕ} {out₁ out₂ out₃ : List ℕ} → Did m out 16 end out₁ → Did body out₁ end total out₂
      → (types : FrameType) → types ≡ frame_type_of kind → (size : ℕ) → size ≡ header_size_of types (end - 16)
      → out₃ ≡ (header_put (record { frame_type = types; total = total; header_size = size; id = id; version = version }) out₂).output
      → Did (frame_with kind id version m body) out 0 total out₃
  framed_message {end} {total} {out₁} {out₂} {out₃} p q types is-types size is_size e =
      let h = header_for kind id version m body in
      let is_total : total ≡ 16 + length m + length body = omega (arith, p.place, q.place) in
      let is_end : end - 16 ≡ length m = omega (arith, p.place) in
      let is_length : size ≡ header_size_of (frame_type_of kind) (length m) = is_size ∙ rw (is-types, is_end) in
      let whole = then p q in
      let long : 16 ≤ length out₂ = omega (arith, ap length whole.bytes, length-sets out 16 (m ++ body)) in
      rw (append_assoc (fixed_header h) m body)
      (in_front (fixed_header h) (m ++ body) out 16 (sixteen_bytes h) (omega (arith, length-append m body)) whole
      (header_did h out₂ long (rw (is-types, is_total, is_length) at e)))

-- every tag has one byte
small : (kind : Kind) → small_tags (schema_of kind) ≡ true
unfolding small_tags
small kinds.Request = refl
small kinds.Response = refl
small kinds.Init = refl
small kinds.Data = refl
small kinds.Feedback = refl
small kinds.Close = refl

-- the error of the sizes is that of the message, and where there is none the frame fits
module _ (kind : Kind) (slots : List ℕ) (rows : List (List ℕ)) (source : List ℕ) (in_source : rows_within (length source) (fours rows) ≡ true)
    (within : spans_within (length source) (schema_of kind) 0 slots ≡ true) (body room c : ℕ) {e : ℕ}
    (is_e : e ≡ size_error c (16 + size_by (fours rows) (schema_of kind) 0 slots + body) room) where
  pub of_message : e ≡ size_error c (16 + length (message_bytes kind slots rows source) + body) room
  of_message =
      is_e ∙ ap (λ (size : ℕ). size_error c (16 + size + body) room)
      (sym (sized_by source (fours rows) slots in_source (schema_of kind) 0 (small kind) within))

  pub ready : c ≤ max_frame → e ≡ 0
      → (16 + length (message_bytes kind slots rows source) + body ≤ max_frame)
      × (16 + length (message_bytes kind slots rows source) + body ≤ room)
  ready small h =
      let fits = no_error c (16 + length (message_bytes kind slots rows source) + body) room (sym of_message ∙ h) in
      (omega (arith, fits), fits.1)

-- the byte fields of each kind
module _ (size : ℕ) (slots : List ℕ) where
  pub request_in : spans_within size request 0 slots ≡ true → NamesIn size slots
  unfolding spans_within
  request_in h =
      let one = both _ _ h in
      let two = both _ _ one.1 in
      let three = both _ _ two.1 in
      (leb-true _ _ one.0, leb-true _ _ two.0, leb-true _ _ three.0)

  pub response_in : spans_within size response 0 slots ≡ true → SpanIn size slots 5
  unfolding spans_within
  response_in h = leb-true _ _ (both _ _ h).0

  pub close_in : spans_within size close 0 slots ≡ true → SpanIn size slots 2
  unfolding spans_within
  close_in h = leb-true _ _ (both _ _ h).0

  pub init_in : spans_within size init 0 slots ≡ true → MetaIn size slots × SpanIn size slots 10
  unfolding spans_within width
  init_in h =
      let parts = both _ _ h in
      let one = both _ _ parts.0 in
      let two = both _ _ one.1 in
      let three = both _ _ two.1 in
      let second = both _ _ parts.1 in
      let four = both _ _ second.0 in
      ((leb-true _ _ one.0, leb-true _ _ two.0, leb-true _ _ three.0), leb-true _ _ four.0)
