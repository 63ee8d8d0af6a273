-- For a user: nothing is lost with refusal 20.
--
-- Document 02: "A reader of our code asked how a header message can pass 65,535 when 19 has already held the frame to 65,536. Show that it
-- can't, for all inputs". Promised, for every ceiling and record, any source bytes, row numbers, body and output:
--   `over_every_ceiling`    a message over 65,535 bytes makes a frame over every ceiling of at most 65,536.
--   `no_twenty`             under any such ceiling the tests for 19 and for 20, whatever comes after them, give what that for 19 gives.
--   `without_twenty`        with 20's ground between 19 and 27 the answer and the whole output are what they are without it.
--   `with_twenty_exactly`   a call of `write`, by its contract, gives each number exactly on its ground in the list with 20, too: no call
--                           tells the two lists apart.
--   `message_fits`          of a frame that `write` wrote, by its contract: the message and the 16 bytes are at most the ceiling, so the
--                           message has 65,520 bytes at most, and bytes 9-10 are its size, or 0 in a stream frame.
-- Not promised: that no other entry gives 20, which `never_twenty` does (crate `thm_numbers`).
-- Ruled out: a writer that under 65,536 refuses a message of 65,520 bytes for its size, one that writes a message of 65,521 bytes, and one
-- whose bytes 9-10 hold only the low bits of the message's size.
-- Assumes nothing.
use Prim.Native.Nat.{ℕ, ◌+◌, ◌*◌, ◌<◌, ◌≤◌}
use mathlib.Core.Path.{◌≡◌, refl, sym, ap, subst, ◌∙◌}
use mathlib.Core.Bool.{Bool, true, false, cond}
use mathlib.Core.List.{List, [], ◌∷◌, ◌++◌, append_assoc}
use native.Mathlib.Omega.{arith}
use borrow.Author.Tests.{leb-true, leb-false}
use lib.Dec.{eqb, leb}
use lib.ListN.{length, take, get_or}
use Rattle.laws.specs.Chains as chain
use Rattle.fixed_header.specs.Header.{max_frame, ceiling_ok, WrongCeiling}
use Rattle.fixed_header.specs.Put.{fixed_header}
use Rattle.fixed_header.specs.declared.FixedHeader.{FixedHeader}
use Rattle.fixed_header.proofs.Codes.{ceiling_range}
use Rattle.fixed_header.proofs.Ceilings.{ceiling_tested}
use Rattle.schema.specs.declared.Kind.{Kind}
use Rattle.schema.specs.declared.Kind.TheVariants as kinds
use Rattle.records.specs.declared.Record.{Record}
use Rattle.records.specs.Content.{kind_of, record_id, record_version, row_count, slots_of}
use Rattle.writer_checks.specs.Grounds.{content_error}
use Rattle.writer.specs.Writing.{frame_type_of, header_size_of, header_for, message_of, frame_of, size_error, write_error}
use Rattle.writer.specs.Writing.{Writing, refused_with, wrote, written}
use Rattle.std.specs.Prelude.{Ok}
use Rattle.refusals.specs.Grounds.{Ground, ground_of, Entry, Exactly}
use Rattle.refusals.proofs.Tests.{at_most}
use Rattle.refusals.proofs.Order.{Outcome, Numbered, end, unless, unless_error, exactly}
use Rattle.thm_round_trip.specs.Calls.{Writes}
use Rattle.thm_round_trip.specs.MessageFits.{size_said, MessageFits}
use Rattle.thm_round_trip.specs.Refusals.{content_grounds, encoded_says}
use Rattle.thm_round_trip.proofs.Accepted.{framed}
use Rattle.thm_round_trip.proofs.CalledBack.{all_written}
use Rattle.thm_round_trip.proofs.Exactly.{content_outcome}
use Rattle.thm_round_trip.proofs.FrameBack.{frame_length}
use Rattle.thm_round_trip.proofs.EveryCeiling.{frame_size}
pub use Rattle.thm_round_trip.proofs.EveryCeiling.{max_header, over_every_ceiling}

-- ---- document 01's order, with 20: only here
-- "Writer 18's first three grounds, 17, 18's others, 15, 19, 20, 27." P11: "41 ceiling outside the range, before all others"
abbrev pub grounds_with_twenty : (c : ℕ) → Record → (source numbers body : List ℕ) → (room : ℕ) → List Ground
grounds_with_twenty c r source numbers body room =
    ground_of 41 (WrongCeiling c)
    ∷ content_grounds r source numbers body
    ++ ground_of 19 (c < length (frame_of r source numbers body))
    ∷ ground_of 20 (max_header < length (message_of r source numbers))
    ∷ ground_of 27 (room < length (frame_of r source numbers body))
    ∷ []

abbrev pub entry_with_twenty : (c : ℕ) → Record → (source numbers body output : List ℕ) → Entry Writing
entry_with_twenty c r source numbers body output =
    record {
      grounds = grounds_with_twenty c r source numbers body (length output);
      says = λ w. encoded_says w.answer;
      refusal = λ n. refused_with n output;
      work = wrote (frame_of r source numbers body) output;
    }

-- the same as tests
abbrev pub error_with_twenty : (c : ℕ) → Record → (source numbers body : List ℕ) → (room : ℕ) → ℕ
error_with_twenty c r source numbers body room =
    chain.unless (ceiling_ok c) 41
    (chain.unless (eqb (content_error (kind_of r) (slots_of r) (row_count r) source numbers (length body)) 0)
    (content_error (kind_of r) (slots_of r) (row_count r) source numbers (length body))
    (chain.unless (leb (length (frame_of r source numbers body)) c) 19
    (chain.unless (leb (length (message_of r source numbers)) max_header) 20
    (chain.unless (leb (length (frame_of r source numbers body)) room) 27 0))))

abbrev pub written_with_twenty : (c : ℕ) → Record → (source numbers body output : List ℕ) → Writing
written_with_twenty c r source numbers body output =
    cond (eqb (error_with_twenty c r source numbers body (length output)) 0)
    (wrote (frame_of r source numbers body) output)
    (refused_with (error_with_twenty c r source numbers body (length output)) output)

-- ---- the message and the frame around it
module _ (r : Record) (source numbers body : List ℕ) where
  abbrev message : List ℕ
  message = message_of r source numbers

  abbrev frame : List ℕ
  frame = frame_of r source numbers body

  -- where 19's ground does not hold, 20's does not, under any such ceiling
  pub no_twenty : (ceiling later : ℕ) → ceiling ≤ max_frame
      → chain.unless (leb (length frame) ceiling) 19 (chain.unless (leb (length message) max_header) 20 later)
      ≡ chain.unless (leb (length frame) ceiling) 19 later
  no_twenty ceiling later within = by (leb (length frame) ceiling) refl (leb (length message) max_header) refl
    where
      by : (small : Bool) → leb (length frame) ceiling ≡ small → (short : Bool) → leb (length message) max_header ≡ short
          → chain.unless small 19 (chain.unless short 20 later) ≡ chain.unless small 19 later
      by false e short f = refl
      by true e true f = refl
      by true e false f =
          let under = leb-true (length frame) ceiling e in
          absurd (omega (arith, over_every_ceiling r source numbers body ceiling within (leb-false (length message) max_header f)))

-- ---- the writer with 20 and the one without
-- what comes after a test counts only where it passes
after : (ok : Bool) (code : ℕ) {a b : ℕ} → (ok ≡ true → a ≡ b) → chain.unless ok code a ≡ chain.unless ok code b
after true code e = e refl
after false code e = refl

module _ (c : ℕ) (r : Record) (source numbers body : List ℕ) where
  same_error : (room : ℕ) → error_with_twenty c r source numbers body room ≡ write_error c r source numbers body room
  unfolding write_error size_error
  same_error room =
      let output_short_lem = chain.unless (leb (length (frame_of r source numbers body)) room) 27 0 in
      after (ceiling_ok c) 41 (λ ok. rw (no_twenty r source numbers body c output_short_lem (ceiling_range c ok).1))

  pub without_twenty : (output : List ℕ) → written_with_twenty c r source numbers body output ≡ written c r source numbers body output
  without_twenty output = rw (same_error (length output))

  -- ---- exactly on the grounds with 20
  outcome_with_twenty : (room : ℕ) → Outcome (grounds_with_twenty c r source numbers body room) (λ n. n) 0
      (error_with_twenty c r source numbers body room)
  outcome_with_twenty room =
      let total = length (frame_of r source numbers body) in
      unless (ceiling_tested c)
      (unless_error (content_grounds r source numbers body)
      (content_error (kind_of r) (slots_of r) (row_count r) source numbers (length body)) (search arith depth 20)
      (content_outcome r source numbers body)
      (unless (at_most total c)
      (unless (at_most (length (message_of r source numbers)) max_header)
      (unless (at_most total room)
      end))))

  pub numbered : (room : ℕ) → Numbered (grounds_with_twenty c r source numbers body room)
  numbered room = search arith depth 20

  pub with_twenty_exactly : (output : List ℕ) (w : Writing) → Writes c r source numbers body output w
      → Exactly (entry_with_twenty c r source numbers body output) w
  with_twenty_exactly output w writes =
      let room = length output in
      subst (Exactly (entry_with_twenty c r source numbers body output))
      (without_twenty output ∙ sym (all_written c r source numbers body output w writes))
      (exactly (entry_with_twenty c r source numbers body output) (written_with_twenty c r source numbers body output) (λ none. refl)
      (λ n f. refl)
      (unless_error (grounds_with_twenty c r source numbers body room) (error_with_twenty c r source numbers body room) (numbered room)
      (outcome_with_twenty room) end))

-- ---- bytes 9-10
size_said_lem : (kind : Kind) (n : ℕ) → header_size_of (frame_type_of kind) n ≡ size_said kind n
size_said_lem kinds.Request n = refl
size_said_lem kinds.Response n = refl
size_said_lem kinds.Init n = refl
size_said_lem kinds.Data n = refl
size_said_lem kinds.Feedback n = refl
size_said_lem kinds.Close n = refl

said_at_most : (kind : Kind) (n : ℕ) → size_said kind n ≤ n
said_at_most kinds.Request n = omega arith
said_at_most kinds.Response n = omega arith
said_at_most kinds.Init n = omega arith
said_at_most kinds.Data n = omega arith
said_at_most kinds.Feedback n = omega arith
said_at_most kinds.Close n = omega arith

size_held : (h : FixedHeader) (rest : List ℕ) → h.header_size < 65536
    → get_or (fixed_header h ++ rest) 8 0 * 256 + get_or (fixed_header h ++ rest) 9 0 ≡ h.header_size
unfolding fixed_header
size_held h rest small = omega arith

pub message_fits : (c : ℕ) (r : Record) (source numbers body output : List ℕ) (w : Writing) → Writes c r source numbers body output w
    → (size : ℕ) → w.answer ≡ Ok size → MessageFits c (kind_of r) (message_of r source numbers) (take size w.output)
unfolding frame_of
message_fits c r source numbers body output w writes size is =
    let m = message_of r source numbers in
    let h = header_for (kind_of r) (record_id r) (record_version r) m body in
    let d = framed c r source numbers body output size (sym writes.0 ∙ is) in
    let small = d.accepted.small in
    let most = d.accepted.ceiling.1 in
    let long = frame_size r source numbers body in
    let said = size_said_lem (kind_of r) (length m) in
    let frame_is : take size w.output ≡ fixed_header h ++ (m ++ body) =
    ap (take size) writes.1 ∙ d.frame_is ∙ append_assoc (fixed_header h) m body in
    record {
      under_ceiling = omega (arith, long);
      at_most = omega (arith, long);
      bytes_hold =
          ap (λ (f : List ℕ). get_or f 8 0 * 256 + get_or f 9 0) frame_is
          ∙ size_held h (m ++ body) (omega (arith, long, said, said_at_most (kind_of r) (length m)))
          ∙ said;
    }
