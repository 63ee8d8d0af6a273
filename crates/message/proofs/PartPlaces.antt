-- Where the parts of a whole frame are
use Prim.Native.Nat.{ℕ, ◌+◌, ◌-◌, ◌≤◌}
use mathlib.Core.Path.{◌≡◌, refl, sym, ◌∙◌}
use mathlib.Core.List.{List}
use native.Mathlib.Omega.{arith}
use lib.ListN.{length, drop, length-drop}
use lib.Seq.{drop-length}
use Rattle.fixed_header.specs.Header.{max_frame, header_size_of}
use Rattle.wire_read.specs.Part.{part}
use Rattle.decoder.proofs.PartEnds.{part_rest}
use Rattle.message.specs.Frames.{header_of, body_of, last_bytes}
use Rattle.message.specs.Parts.{body_at, Whole}
use Rattle.schema.specs.declared.Kind.{Kind}
use Rattle.schema.specs.declared.Kind.TheVariants as kinds
use Rattle.message.proofs.Headers.{good_size, good_whole}

module _ (kind : Kind) (f : List ℕ) (size id version : ℕ) (whole : Whole kind f size id version) where
  pub header_size_lem : 16 + size ≤ length f
  header_size_lem = omega (arith, whole.size_is, whole.total_is, good_size max_frame f whole.good, good_whole max_frame f whole.good)

  pub frame_size : (16 ≤ length f) × (length f ≤ max_frame)
  frame_size = omega (arith, whole.total_is, good_whole max_frame f whole.good)

-- the header ends, and the body starts, within the frame
body_within : (kind : Kind) (size n : ℕ) → 16 + size ≤ n → (16 ≤ body_at kind size n) × (body_at kind size n ≤ n)
unfolding body_at
body_within kinds.Request size n h = omega arith
body_within kinds.Response size n h = omega arith
body_within kinds.Init size n h = omega arith
body_within kinds.Data size n h = omega arith
body_within kinds.Feedback size n h = omega arith
body_within kinds.Close size n h = omega arith

pub within : (kind : Kind) (f : List ℕ) (size id version : ℕ) → Whole kind f size id version → (body : ℕ)
    → body ≡ body_at kind size (length f) → (16 ≤ body) × (body ≤ length f)
within kind f size id version whole body e = rw e (body_within kind size (length f) (header_size_lem kind f size id version whole))

-- "the last attachment_size bytes of the body", where it has as many
pub length_last : (n : ℕ) (body : List ℕ) → n ≤ length body → length (last_bytes n body) ≡ n
length_last n body h = length-drop (length body - n) body ∙ omega arith

-- the header up to the body
pub header_part : (kind : Kind) (f : List ℕ) → part f 16 (body_at kind (header_size_of f) (length f)) ≡ header_of kind f
unfolding body_at header_of
header_part kinds.Request f = let e : 16 + header_size_of f - 16 ≡ header_size_of f = omega arith in rw e
header_part kinds.Response f = let e : 16 + header_size_of f - 16 ≡ header_size_of f = omega arith in rw e
header_part kinds.Init f = part_rest f 16
header_part kinds.Data f = refl
header_part kinds.Feedback f = part_rest f 16
header_part kinds.Close f = part_rest f 16

-- the body up to the end
pub body_rest : (kind : Kind) (f : List ℕ) → body_of kind f ≡ drop (body_at kind (header_size_of f) (length f)) f
unfolding body_at body_of
body_rest kinds.Request f = refl
body_rest kinds.Response f = refl
body_rest kinds.Init f = sym (drop-length f)
body_rest kinds.Data f = refl
body_rest kinds.Feedback f = sym (drop-length f)
body_rest kinds.Close f = sym (drop-length f)
