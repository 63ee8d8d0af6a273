-- What the theorems here take a call to ensure is the `ensures` of that function's contract: the two are the same by computation. Both
-- name the records of `bekurapi` (`ParsedAs`, `DeframedAs`, `ReadAs`, `WrittenAs`), so a weaker record is refused by the theorems
-- (CHeader, CFaithful, CReadBack) and not here. That the contracts ask for nothing is `AsksNothing` of `bekurapi`.
-- Assumes nothing.
use Prim.Native.Nat.{ℕ}
use mathlib.Core.Path.{◌≡◌, refl}
use mathlib.Core.List.{List}
use seplogic.Ra.Ura.{Ura}
use base.Logic.{SProp}
use base.Fml.{Lft}
use prog.Memory.{Memory}
use prog.Routine.{Routine}
use types.Logic.{Logic}
use contract.Monad.{Fun, fact}
use denote.Ref.{Bor, MutBor}
use denote.Triple.Clauses.{at_exit}
use Rattle.schema.specs.declared.Kind.TheVariants as kinds
use Rattle.bekurapi.specs.contracts.trpc_header_check as header_check_lem
use Rattle.bekurapi.specs.contracts.trpc_header_parse as header_parse
use Rattle.bekurapi.specs.contracts.trpc_deframe as deframe
use Rattle.bekurapi.specs.contracts.trpc_finish as finish
use Rattle.bekurapi.specs.contracts.trpc_read_request as read_request
use Rattle.bekurapi.specs.contracts.trpc_read_response as read_response
use Rattle.bekurapi.specs.contracts.trpc_read_init as read_init
use Rattle.bekurapi.specs.contracts.trpc_read_data as read_data
use Rattle.bekurapi.specs.contracts.trpc_read_feedback as read_feedback
use Rattle.bekurapi.specs.contracts.trpc_read_close as read_close
use Rattle.bekurapi.specs.contracts.trpc_write_request as write_request
use Rattle.bekurapi.specs.contracts.trpc_write_response as write_response
use Rattle.bekurapi.specs.contracts.trpc_write_init as write_init
use Rattle.bekurapi.specs.contracts.trpc_write_data as write_data
use Rattle.bekurapi.specs.contracts.trpc_write_feedback as write_feedback
use Rattle.bekurapi.specs.contracts.trpc_write_close as write_close
use Rattle.thm_c.specs.Header.{CParsed, CChecks, CParses}
use Rattle.thm_c.specs.Readings.{CRead, CReads}
use Rattle.thm_c.specs.Calls.{CDeframed, CFinished, CDeframes, CFinishes}
use Rattle.thm_c.specs.RoundTrip.{CWritten, CWrites}

-- what is lent, and what is in it afterwards
module _ {M : Type 1} {𝓤 : Ura M} (𝓛 : Logic 𝓤) (mem : Memory → SProp 𝓤) (run : Routine → Fun 𝓤) (a b c d e f : Lft) where
  pub trpc_header_check_ensures : (bytes : Bor (List ℕ)) (ceiling code : ℕ)
      → (header_check_lem.clauses 𝓛 mem run (a, tt) (bytes, (ceiling, tt))).ensures tt code
      (at_exit header_check_lem.ended (a, tt) (bytes, (ceiling, tt)) (tt, (tt, tt)))
      ≡ fact 𝓤 (CChecks ceiling bytes.now code)
  trpc_header_check_ensures bytes ceiling code = refl

  pub trpc_header_parse_ensures : (bytes : Bor (List ℕ)) (ceiling : ℕ) (frame_type total header_size id version : MutBor ℕ) (x : CParsed)
      → (header_parse.clauses 𝓛 mem run (a, (b, (c, (d, (e, (f, tt))))))
      (bytes, (ceiling, (frame_type, (total, (header_size, (id, (version, tt)))))))).ensures tt x.code
      (at_exit header_parse.ended (a, (b, (c, (d, (e, (f, tt))))))
      (bytes, (ceiling, (frame_type, (total, (header_size, (id, (version, tt)))))))
      (tt, (tt, (x.frame_type, (x.total, (x.header_size, (x.id, (x.version, tt))))))))
      ≡ fact 𝓤 (CParses ceiling bytes.now x)
  trpc_header_parse_ensures bytes ceiling frame_type total header_size id version x = refl

  pub trpc_deframe_ensures : (held error : MutBor ℕ) (buffer : MutBor (List ℕ)) (ceiling : ℕ) (piece : Bor (List ℕ)) (taken size : MutBor ℕ)
      (x : CDeframed)
      → (deframe.clauses 𝓛 mem run (a, (b, (c, (d, (e, (f, tt))))))
      (held, (error, (buffer, (ceiling, (piece, (taken, (size, tt)))))))).ensures tt x.code
      (at_exit deframe.ended (a, (b, (c, (d, (e, (f, tt)))))) (held, (error, (buffer, (ceiling, (piece, (taken, (size, tt)))))))
      (x.held, (x.error, (x.buffer, (tt, (tt, (x.taken, (x.size, tt))))))))
      ≡ fact 𝓤 (CDeframes ceiling held.now error.now buffer.now piece.now x)
  trpc_deframe_ensures held error buffer ceiling piece taken size x = refl

  pub trpc_finish_ensures : (held error : ℕ) (buffer : Bor (List ℕ)) (ceiling : ℕ) (short : MutBor ℕ) (x : CFinished)
      → (finish.clauses 𝓛 mem run (a, (b, tt)) (held, (error, (buffer, (ceiling, (short, tt)))))).ensures tt x.code
      (at_exit finish.ended (a, (b, tt)) (held, (error, (buffer, (ceiling, (short, tt))))) (tt, (tt, (tt, (tt, (x.short_by, tt))))))
      ≡ fact 𝓤 (CFinishes ceiling held error buffer.now x)
  trpc_finish_ensures held error buffer ceiling short x = refl

  -- the six readers, which lend one frame, row numbers and the record
  module _ (frame : Bor (List ℕ)) (ceiling : ℕ) (rows numbers : MutBor (List ℕ)) (x : CRead) where
    pub trpc_read_request_ensures :
        (read_request.clauses 𝓛 mem run (a, (b, (c, tt))) (frame, (ceiling, (rows, (numbers, tt))))).ensures tt x.code
        (at_exit read_request.ended (a, (b, (c, tt))) (frame, (ceiling, (rows, (numbers, tt)))) (tt, (tt, (x.rows, (x.numbers, tt)))))
        ≡ fact 𝓤 (CReads ceiling kinds.Request frame.now rows.now x)
    trpc_read_request_ensures = refl

    pub trpc_read_response_ensures :
        (read_response.clauses 𝓛 mem run (a, (b, (c, tt))) (frame, (ceiling, (rows, (numbers, tt))))).ensures tt x.code
        (at_exit read_response.ended (a, (b, (c, tt))) (frame, (ceiling, (rows, (numbers, tt)))) (tt, (tt, (x.rows, (x.numbers, tt)))))
        ≡ fact 𝓤 (CReads ceiling kinds.Response frame.now rows.now x)
    trpc_read_response_ensures = refl

    pub trpc_read_init_ensures :
        (read_init.clauses 𝓛 mem run (a, (b, (c, tt))) (frame, (ceiling, (rows, (numbers, tt))))).ensures tt x.code
        (at_exit read_init.ended (a, (b, (c, tt))) (frame, (ceiling, (rows, (numbers, tt)))) (tt, (tt, (x.rows, (x.numbers, tt)))))
        ≡ fact 𝓤 (CReads ceiling kinds.Init frame.now rows.now x)
    trpc_read_init_ensures = refl

    pub trpc_read_data_ensures :
        (read_data.clauses 𝓛 mem run (a, (b, (c, tt))) (frame, (ceiling, (rows, (numbers, tt))))).ensures tt x.code
        (at_exit read_data.ended (a, (b, (c, tt))) (frame, (ceiling, (rows, (numbers, tt)))) (tt, (tt, (x.rows, (x.numbers, tt)))))
        ≡ fact 𝓤 (CReads ceiling kinds.Data frame.now rows.now x)
    trpc_read_data_ensures = refl

    pub trpc_read_feedback_ensures :
        (read_feedback.clauses 𝓛 mem run (a, (b, (c, tt))) (frame, (ceiling, (rows, (numbers, tt))))).ensures tt x.code
        (at_exit read_feedback.ended (a, (b, (c, tt))) (frame, (ceiling, (rows, (numbers, tt)))) (tt, (tt, (x.rows, (x.numbers, tt)))))
        ≡ fact 𝓤 (CReads ceiling kinds.Feedback frame.now rows.now x)
    trpc_read_feedback_ensures = refl

    pub trpc_read_close_ensures :
        (read_close.clauses 𝓛 mem run (a, (b, (c, tt))) (frame, (ceiling, (rows, (numbers, tt))))).ensures tt x.code
        (at_exit read_close.ended (a, (b, (c, tt))) (frame, (ceiling, (rows, (numbers, tt)))) (tt, (tt, (x.rows, (x.numbers, tt)))))
        ≡ fact 𝓤 (CReads ceiling kinds.Close frame.now rows.now x)
    trpc_read_close_ensures = refl

  -- the six writers
  module _ (numbers source rows body : Bor (List ℕ)) (out : MutBor (List ℕ)) (ceiling : ℕ) (size : MutBor ℕ) (x : CWritten) where
    pub trpc_write_request_ensures : (write_request.clauses 𝓛 mem run (a, (b, (c, (d, (e, (f, tt))))))
        (numbers, (source, (rows, (body, (out, (ceiling, (size, tt)))))))).ensures tt x.code
        (at_exit write_request.ended (a, (b, (c, (d, (e, (f, tt)))))) (numbers, (source, (rows, (body, (out, (ceiling, (size, tt)))))))
        (tt, (tt, (tt, (tt, (x.out, (tt, (x.size, tt))))))))
        ≡ fact 𝓤 (CWrites ceiling kinds.Request numbers.now source.now rows.now body.now out.now x)
    trpc_write_request_ensures = refl

    pub trpc_write_response_ensures : (write_response.clauses 𝓛 mem run (a, (b, (c, (d, (e, (f, tt))))))
        (numbers, (source, (rows, (body, (out, (ceiling, (size, tt)))))))).ensures tt x.code
        (at_exit write_response.ended (a, (b, (c, (d, (e, (f, tt)))))) (numbers, (source, (rows, (body, (out, (ceiling, (size, tt)))))))
        (tt, (tt, (tt, (tt, (x.out, (tt, (x.size, tt))))))))
        ≡ fact 𝓤 (CWrites ceiling kinds.Response numbers.now source.now rows.now body.now out.now x)
    trpc_write_response_ensures = refl

    pub trpc_write_init_ensures : (write_init.clauses 𝓛 mem run (a, (b, (c, (d, (e, (f, tt))))))
        (numbers, (source, (rows, (body, (out, (ceiling, (size, tt)))))))).ensures tt x.code
        (at_exit write_init.ended (a, (b, (c, (d, (e, (f, tt)))))) (numbers, (source, (rows, (body, (out, (ceiling, (size, tt)))))))
        (tt, (tt, (tt, (tt, (x.out, (tt, (x.size, tt))))))))
        ≡ fact 𝓤 (CWrites ceiling kinds.Init numbers.now source.now rows.now body.now out.now x)
    trpc_write_init_ensures = refl

    pub trpc_write_data_ensures : (write_data.clauses 𝓛 mem run (a, (b, (c, (d, (e, (f, tt))))))
        (numbers, (source, (rows, (body, (out, (ceiling, (size, tt)))))))).ensures tt x.code
        (at_exit write_data.ended (a, (b, (c, (d, (e, (f, tt)))))) (numbers, (source, (rows, (body, (out, (ceiling, (size, tt)))))))
        (tt, (tt, (tt, (tt, (x.out, (tt, (x.size, tt))))))))
        ≡ fact 𝓤 (CWrites ceiling kinds.Data numbers.now source.now rows.now body.now out.now x)
    trpc_write_data_ensures = refl

    pub trpc_write_feedback_ensures : (write_feedback.clauses 𝓛 mem run (a, (b, (c, (d, (e, (f, tt))))))
        (numbers, (source, (rows, (body, (out, (ceiling, (size, tt)))))))).ensures tt x.code
        (at_exit write_feedback.ended (a, (b, (c, (d, (e, (f, tt)))))) (numbers, (source, (rows, (body, (out, (ceiling, (size, tt)))))))
        (tt, (tt, (tt, (tt, (x.out, (tt, (x.size, tt))))))))
        ≡ fact 𝓤 (CWrites ceiling kinds.Feedback numbers.now source.now rows.now body.now out.now x)
    trpc_write_feedback_ensures = refl

    pub trpc_write_close_ensures : (write_close.clauses 𝓛 mem run (a, (b, (c, (d, (e, (f, tt))))))
        (numbers, (source, (rows, (body, (out, (ceiling, (size, tt)))))))).ensures tt x.code
        (at_exit write_close.ended (a, (b, (c, (d, (e, (f, tt)))))) (numbers, (source, (rows, (body, (out, (ceiling, (size, tt)))))))
        (tt, (tt, (tt, (tt, (x.out, (tt, (x.size, tt))))))))
        ≡ fact 𝓤 (CWrites ceiling kinds.Close numbers.now source.now rows.now body.now out.now x)
    trpc_write_close_ensures = refl
