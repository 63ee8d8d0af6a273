-- Promised (document 02, P2): "a state that holds 8 is not known", under every ceiling in range. A call with such a state is refused with
-- 2, and leaves the state as given and the buffer as it was, with nothing taken; the end of the stream is refused with 2.
-- Not promised: anything where the ceiling is out of range, which is 41 before, or the buffer is shorter than it, which is 1 before.
-- Ruled out: a deframer that answers 8 again for a state that it left before 8 was retired.
-- Assumes nothing.
use Prim.Native.Nat.{ℕ, ◌≤◌}
use mathlib.Core.Path.{◌≡◌}
use mathlib.Core.List.{List}
use native.Mathlib.Omega.{arith}
use borrow.Author.Tests.{le-ltb}
use lib.ListN.{length}
use Rattle.fixed_header.specs.Header.{CeilingOk}
use Rattle.fixed_header.proofs.Codes.{ceiling_ok_lem}
use Rattle.deframer.specs.Deframe.{unmoved, deframed, ended}
use Rattle.deframer.specs.declared.Deframer.{Deframer}
use Rattle.deframer.specs.End as end
use Rattle.deframer.proofs.Known.{unknown_past}
use Rattle.deframer.proofs.Advance.{call_unknown}

abbrev eight : (held : ℕ) → Deframer
eight held = record { held = held; error = 8 }

pub state_of_eight : (c : ℕ) → CeilingOk c → (held : ℕ) (buffer piece : List ℕ) → c ≤ length buffer
    → (deframed c (eight held) buffer piece ≡ unmoved 2 (eight held) buffer) × (ended c (eight held) buffer ≡ end.Refused 2)
unfolding ended
state_of_eight c in_range held buffer piece big =
    let unknown = unknown_past c (eight held) buffer (λ e. omega arith) (omega arith) in
    (call_unknown c (eight held) buffer piece in_range big unknown, simp (ceiling_ok_lem c in_range, le-ltb _ _ big, unknown))
