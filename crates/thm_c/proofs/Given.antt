-- A contract that gives each number gives all that C has after the call.
use Prim.Native.Nat.{ℕ}
use mathlib.Core.Path.{◌≡◌, ap}
use mathlib.Core.List.{List}
use Rattle.fixed_header.specs.Header.{parsed}
use Rattle.deframer.specs.Deframe.{ended}
use Rattle.deframer.specs.declared.Deframer.{Deframer}
use Rattle.message.specs.Frames.{read_frame}
use Rattle.schema.specs.declared.Kind.{Kind}
use Rattle.bekurapi.specs.Answers.{deframer_of, deframed_from}
use Rattle.bekurapi.specs.Kinds.{written_from}
use Rattle.thm_c.specs.Header.{CParsed, CParses}
use Rattle.thm_c.specs.Readings.{CRead, CReads}
use Rattle.thm_c.specs.Calls.{CDeframed, CDeframes, CFinished, CFinishes}
use Rattle.thm_c.specs.RoundTrip.{CWritten, CWrites}
use Rattle.thm_c.specs.Entries.{parsed_C, deframed_C, finished_C, read_C, written_C}

pub all_parsed : (c : ℕ) (bytes : List ℕ) (x : CParsed) → CParses c bytes x → x ≡ parsed_C (parsed c bytes)
all_parsed c bytes x is = by is.code_is is.type_is is.total_is is.header_size_is is.id_is is.version_is
  where
    by : {code frame_type total header_size id version : ℕ} → x.code ≡ code → x.frame_type ≡ frame_type → x.total ≡ total
        → x.header_size ≡ header_size → x.id ≡ id → x.version ≡ version
        → x ≡ record { code = code; frame_type = frame_type; total = total; header_size = header_size; id = id; version = version }
    by a b c d e f = rw (← a, ← b, ← c, ← d, ← e, ← f)

pub all_deframed : (c held error : ℕ) (buffer piece : List ℕ) (x : CDeframed) → CDeframes c held error buffer piece x
    → x ≡ deframed_C (deframed_from c held error buffer piece)
all_deframed c held error buffer piece x is =
    by is.code_is (ap (λ (s : Deframer). s.held) is.state_is) (ap (λ (s : Deframer). s.error) is.state_is) is.buffer_is
    is.taken_is is.size_is
  where
    by : {code held error taken size : ℕ} {buffer : List ℕ} → x.code ≡ code → x.held ≡ held → x.error ≡ error → x.buffer ≡ buffer
        → x.taken ≡ taken → x.size ≡ size
        → x ≡ record { code = code; held = held; error = error; buffer = buffer; taken = taken; size = size }
    by a b c d e f = rw (← a, ← b, ← c, ← d, ← e, ← f)

pub all_finished : (c held error : ℕ) (buffer : List ℕ) (x : CFinished) → CFinishes c held error buffer x
    → x ≡ finished_C (ended c (deframer_of held error) buffer)
all_finished c held error buffer x is = by is.0 is.1
  where
    by : {code short_by : ℕ} → x.code ≡ code → x.short_by ≡ short_by → x ≡ record { code = code; short_by = short_by }
    by a b = rw (← a, ← b)

pub all_read : (c : ℕ) (kind : Kind) (frame lent : List ℕ) (x : CRead) → CReads c kind frame lent x
    → x ≡ read_C frame (read_frame c kind frame lent)
all_read c kind frame lent x is = by is.code_is is.rows_are is.numbers_are
  where
    by : {code : ℕ} {rows numbers : List ℕ} → x.code ≡ code → x.rows ≡ rows → x.numbers ≡ numbers
        → x ≡ record { code = code; rows = rows; numbers = numbers }
    by a b c = rw (← a, ← b, ← c)

pub all_written : (c : ℕ) (kind : Kind) (numbers source rows body output : List ℕ) (x : CWritten)
    → CWrites c kind numbers source rows body output x → x ≡ written_C (written_from c kind numbers source rows body output)
all_written c kind numbers source rows body output x is = by is.code_is is.output_is is.size_is
  where
    by : {code size : ℕ} {out : List ℕ} → x.code ≡ code → x.out ≡ out → x.size ≡ size
        → x ≡ record { code = code; out = out; size = size }
    by a b c = rw (← a, ← b, ← c)
