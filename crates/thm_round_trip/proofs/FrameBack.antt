-- What the writer's frame says of itself: its fixed header is good under 65,536 and gives its sizes, its id, its version and its kind, and
-- its parts are the message and the body. The round trip of the 16 bytes is that of `fixed_header`.
use Prim.Native.Nat.{ℕ, ◌+◌, ◌-◌, ◌^◌, ◌<◌, ◌≤◌}
use mathlib.Core.Path.{◌≡◌, refl, sym, ◌∙◌}
use mathlib.Core.Bool.{true}
use mathlib.Core.List.{List, [], ◌∷◌, ◌++◌, append_assoc, append-nil}
use native.Mathlib.Omega.{arith}
use borrow.Author.Tests.{le-leb, eqb-true}
use lib.Dec.{eqb}
use lib.ListN.{length, take, drop, get_or, length-append}
use lib.Seq.{take_at, drop_at, take-append_seam, drop-append_seam, drop-drop}
use Rattle.fixed_header.specs.Header.{max_frame, be16_of, be32_of, total_of, header_size_of, total_ok, header_size_ok}
use Rattle.fixed_header.specs.Put.{data_type_of, stream_type_of, fixed_header}
use Rattle.fixed_header.specs.declared.FrameType.{FrameType}
use Rattle.fixed_header.specs.declared.FrameType.TheVariants.{Unary, Init, Data, Feedback, Close}
use Rattle.fixed_header.specs.Put.{Keeps}
use Rattle.fixed_header.proofs.Codes.{largest}
use Rattle.fixed_header.proofs.RoundTrip.{sixteen_bytes, total_back, size_back, id_back, version_back, header_good}
use Rattle.decoder.specs.Rows.{Row}
use Rattle.schema.specs.Kinds.{schema_of}
use Rattle.message.specs.Frames.{header_of, body_of, kind_fits}
use Rattle.message.specs.Parts.{Whole}
use Rattle.schema.specs.declared.Kind.{Kind}
use Rattle.schema.specs.declared.Kind.TheVariants as kinds
use Rattle.writer.specs.Encoding.{put_fields}
use Rattle.writer_checks.specs.Grounds.{body_ok}
use Rattle.writer.specs.Writing.{frame_type_of, header_size_of as header_size_for, header_for}

-- ---- the fixed header
-- a kind is that of its types
kind_fits_lem : (kind : Kind) → kind_fits kind (data_type_of (frame_type_of kind)) (stream_type_of (frame_type_of kind)) ≡ true
unfolding kind_fits
kind_fits_lem kinds.Request = refl
kind_fits_lem kinds.Response = refl
kind_fits_lem kinds.Init = refl
kind_fits_lem kinds.Data = refl
kind_fits_lem kinds.Feedback = refl
kind_fits_lem kinds.Close = refl

size_fits : (t : FrameType) (n total : ℕ) → n ≤ total - 16 → header_size_ok (data_type_of t) total (header_size_for t n) ≡ true
unfolding header_size_ok
size_fits Unary n total h = le-leb n (total - 16) h
size_fits Init n total h = refl
size_fits Data n total h = refl
size_fits Feedback n total h = refl
size_fits Close n total h = refl

-- ---- the frame of a message and a body
module _ (kind : Kind) (id version : ℕ) (message body : List ℕ) where
  abbrev total : ℕ
  total = 16 + length message + length body

  abbrev header : List ℕ
  header = fixed_header (header_for kind id version message body)

  sixteen : length header ≡ 16
  sixteen = sixteen_bytes (header_for kind id version message body)

  frame_splits : header ++ message ++ body ≡ header ++ (message ++ body)
  frame_splits = append_assoc header message body

  pub frame_length : length (header ++ message ++ body) ≡ total
  frame_length = omega (arith, length-append (header ++ message) body, length-append header message, sixteen)

  pub behind_header : drop 16 (header ++ message ++ body) ≡ message ++ body
  behind_header = rw frame_splits (drop_at header (message ++ body) 16 sixteen)

  kind_back : (rest : List ℕ) → kind_fits kind (get_or (header ++ rest) 2 0) (get_or (header ++ rest) 3 0) ≡ true
  unfolding fixed_header
  kind_back rest = kind_fits_lem kind

  module _ (small : total ≤ max_frame) (id_small : id < 2 ^ 32) (version_small : version < 2 ^ 8) where
    keeps : Keeps max_frame (header_for kind id version message body)
    unfolding total_ok
    keeps =
        record {
          in_range = largest;
          total_good = rw (le-leb 16 total (omega arith), le-leb total max_frame small);
          size_good = size_fits (frame_type_of kind) (length message) total (omega arith);
          id_small = id_small;
          version_small = version_small;
        }

    -- it is whole, of its kind, and has its id and its version
    pub frame_whole : Whole kind (header ++ message ++ body) (header_size_for (frame_type_of kind) (length message)) id version
    frame_whole =
        let h = header_for kind id version message body in
        rw frame_splits
        (record {
          good = rw (take_at header (message ++ body) 16 sixteen) (header_good max_frame h keeps);
          total_is = rw (← frame_splits) frame_length ∙ sym (total_back max_frame h keeps (message ++ body));
          fits = kind_back (message ++ body);
          size_is = sym (size_back max_frame h keeps (message ++ body));
          id_is = sym (id_back max_frame h keeps (message ++ body));
          version_is = sym (version_back max_frame h keeps (message ++ body));
        })

-- the total that it says is its length, whatever its id and its version are: they are in other bytes
pub total_said : (kind : Kind) (id version : ℕ) (message body : List ℕ) → 16 + length message + length body ≤ max_frame
    → total_of (fixed_header (header_for kind id version message body) ++ message ++ body) ≡ 16 + length message + length body
unfolding fixed_header total_of be32_of be16_of
total_said kind id version message body small =
    total_back max_frame (header_for kind 0 0 message body) (keeps kind 0 0 message body small (omega arith) (omega arith)) (message ++ body)

-- ---- the parts
empty_list : (l : List ℕ) → length l ≡ 0 → l ≡ []
empty_list [] e = refl
empty_list (x ∷ l) e = let z : ⊥ = omega arith in absurd z

-- by what comes after the fixed header
module _ (f message body : List ℕ) (behind : drop 16 f ≡ message ++ body) where
  unary : header_size_of f ≡ length message → (take (header_size_of f) (drop 16 f) ≡ message) × (drop (16 + header_size_of f) f ≡ body)
  unary size = (
    rw (size, behind) (take-append_seam message body),
    sym (drop-drop (header_size_of f) 16 f) ∙ rw (size, behind) (drop-append_seam message body),
  )

  stream : eqb (length body) 0 ≡ true → (drop 16 f ≡ message) × ([] ≡ body)
  stream e =
      let none : body ≡ [] = empty_list body (eqb-true (length body) 0 e) in
      (behind ∙ rw none (append-nil message), sym none)

module _ (source : List ℕ) (rows : List Row) (slots body f : List ℕ) where
  abbrev message_in : Kind → List ℕ
  message_in kind = put_fields source rows (schema_of kind) 0 slots

  -- only Data has no message, and only the unary kinds and Data have a body
  pub parts_back : (kind : Kind) → drop 16 f ≡ message_in kind ++ body
      → header_size_of f ≡ header_size_for (frame_type_of kind) (length (message_in kind))
      → body_ok kind slots (length body) ≡ true → (header_of kind f ≡ message_in kind) × (body_of kind f ≡ body)
  unfolding header_of body_of body_ok put_fields
  parts_back kinds.Request behind size ok = unary f (message_in kinds.Request) body behind size
  parts_back kinds.Response behind size ok = unary f (message_in kinds.Response) body behind size
  parts_back kinds.Init behind size ok = stream f (message_in kinds.Init) body behind ok
  parts_back kinds.Data behind size ok = (refl, behind)
  parts_back kinds.Feedback behind size ok = stream f (message_in kinds.Feedback) body behind ok
  parts_back kinds.Close behind size ok = stream f (message_in kinds.Close) body behind ok
