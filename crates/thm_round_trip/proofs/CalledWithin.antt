-- For a user: what `read_spans` and `read` hand out lies within the frame, by their contracts only.
--
-- Promised, of any call, under any ceiling, that gave what its contract ensures (for `read` that is `Reads` of `thm_stream`): every start
-- and length that it gave lies within the frame that it was given.
-- Not promised: anything of a frame that the caller changes after the call.
-- Ruled out: a contract that leaves open where a byte field lies, or the row numbers.
-- Assumes nothing.
use Prim.Native.Nat.{ℕ}
use mathlib.Core.Path.{sym, subst}
use mathlib.Core.List.{List}
use lib.ListN.{length}
use Rattle.message.specs.Frames.{Reading}
use Rattle.message.specs.Spans.{Spans, spans_given, spans_of}
use Rattle.schema.specs.declared.Kind.{Kind}
use Rattle.message.specs.declared.Located.{Located}
use Rattle.thm_stream.specs.Trace.{Reads}
use Rattle.thm_stream.proofs.Traced.{all_read}
use Rattle.thm_round_trip.specs.ReadWithin.{ReadWithin}
use Rattle.thm_round_trip.specs.Calls.{Locates}
use Rattle.thm_round_trip.proofs.ReadWithin.{read_within}

pub located_within : (c : ℕ) (kind : Kind) (frame lent : List ℕ) (x : Located) (rows : List ℕ) → Locates c kind frame lent x rows
    → ReadWithin frame (spans_given x) rows
located_within c kind frame lent x rows e =
    subst (λ (y : Spans). ReadWithin frame y rows) (sym e.0) (subst (ReadWithin frame _) (sym e.1) (read_within c frame kind lent))

pub called_within : (c : ℕ) (kind : Kind) (frame lent : List ℕ) (x : Reading) → Reads c kind frame lent x
    → ReadWithin frame (spans_of x (length frame)) x.rows
called_within c kind frame lent x e =
    subst (λ (y : Reading). ReadWithin frame (spans_of y (length frame)) y.rows) (sym (all_read c kind frame lent x e))
    (read_within c frame kind lent)
