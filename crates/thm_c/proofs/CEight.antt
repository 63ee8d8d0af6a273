-- For a user in C (document 02, P2): "a state that holds 8 is not known".
--
-- Promised, of any call of `trpc_deframe` or `trpc_finish` under a ceiling from 16 to 65,536 that gave what its contract ensures, where
-- `error` is 8, whatever `held` is and whatever a buffer of at least as many bytes as the ceiling holds: it returns 2. `trpc_deframe`
-- leaves `held`, `error` and the buffer as they were, and 0 in `taken` and `size`; `trpc_finish` leaves 0 in `short_by`.
-- Not promised: anything where the ceiling is out of range, which is 41 before (proofs/CCeiling), or the buffer is shorter than it, which
-- is 1 before.
-- Ruled out: a deframer that returns 8 again for a state that was left before 8 was retired, and one that goes on from it.
-- Assumes nothing.
use Prim.Native.Nat.{ℕ, ◌≤◌}
use mathlib.Core.Path.{◌≡◌, ap, ◌∙◌}
use mathlib.Core.List.{List, []}
use lib.ListN.{length}
use Rattle.fixed_header.specs.Header.{CeilingOk}
use Rattle.deframer.proofs.Eight.{state_of_eight}
use Rattle.thm_c.specs.Calls.{CDeframed, CFinished, CDeframes, CFinishes}
use Rattle.thm_c.specs.Entries.{deframed_C, finished_C}
use Rattle.thm_c.proofs.Given.{all_deframed, all_finished}

module _ (c : ℕ) (in_range : CeilingOk c) (held : ℕ) (buffer : List ℕ) (big : c ≤ length buffer) where
  pub c_state_of_eight : (piece : List ℕ) (d : CDeframed) → CDeframes c held 8 buffer piece d
      → d ≡ record { code = 2; held = held; error = 8; buffer = buffer; taken = 0; size = 0 }
  c_state_of_eight piece d is =
      all_deframed c held 8 buffer piece d is ∙ ap deframed_C (state_of_eight c in_range held buffer piece big).0

  pub c_end_of_eight : (f : CFinished) → CFinishes c held 8 buffer f → f ≡ record { code = 2; short_by = 0 }
  c_end_of_eight f is = all_finished c held 8 buffer f is ∙ ap finished_C (state_of_eight c in_range held buffer [] big).1
