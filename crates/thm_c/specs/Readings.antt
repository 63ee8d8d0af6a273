-- What a caller in C has after a call of one of the six readers, and what its numbers say. They are read as include/bekurapi.h says.
use Rattle.std.specs.Prelude.{ℕ, ◌+◌, ◌<◌, ◌^◌, ◌≡◌, cond, List, eqb, get_or, replicate}
use Rattle.std.specs.Int.Signed.{mag}
use Rattle.fixed_header.specs.Header.{version_of}
use Rattle.message.specs.Frames.{Reading, read_frame}
use Rattle.schema.specs.declared.Kind.{Kind}
use Rattle.records.specs.declared.Record.{Record}
use Rattle.records.specs.declared.Record.TheVariants as records
use Rattle.records.specs.Content.{record_version}
use Rattle.message.specs.Frames.{Answer}
use Rattle.std.specs.Prelude.{Ok, Err}
use Rattle.bekurapi.specs.Kinds.{ReadAs}
use Rattle.bekurapi.specs.Numbers.{record_from}
use Rattle.message.specs.Meaning.{Bytes, bytes_from, all_of}

-- the number returned, and what is in the row numbers and in the record afterwards
pub record CRead : Type 0 where
  pub code : ℕ
  pub rows : List ℕ
  pub numbers : List ℕ

-- the `ensures` of the reader of a kind, of what a call of it gave
abbrev pub CReads : (c : ℕ) → Kind → (frame lent : List ℕ) → CRead → Type 0
CReads c kind frame lent x = ReadAs c kind frame lent x.code x.rows x.numbers

-- ---- what the numbers say

-- the length and the bytes of a part, whose start is the number at a place, and whose length is the next
abbrev pub part_at : (frame numbers : List ℕ) → (place : ℕ) → Bytes
part_at frame numbers place = bytes_from frame (get_or numbers place 0) (get_or numbers (place + 1) 0)

-- a reading as C has it: each part is a length and the bytes there
pub record CReading : Type 0 where
  pub answer : Answer
  pub header : Bytes
  pub body : Bytes
  pub attachment : Bytes
  pub rows : List ℕ

-- the error code, or the record; "id, row count, start and length of header, body and attachment", then the fields and the version
abbrev pub said_by : Kind → (frame : List ℕ) → CRead → CReading
said_by kind frame x =
    record {
      answer = cond (eqb x.code 0) (Ok (record_from kind x.numbers)) (Err x.code);
      header = part_at frame x.numbers 2;
      body = part_at frame x.numbers 4;
      attachment = part_at frame x.numbers 6;
      rows = x.rows;
    }

-- a reading, with the length of each part beside its bytes
abbrev pub whole_of : Reading → CReading
whole_of x =
    record { answer = x.answer; header = all_of x.header; body = all_of x.body; attachment = all_of x.attachment; rows = x.rows }

-- What a call of the reader of a kind gave of a frame.
pub record CReadOf (c : ℕ) (kind : Kind) (frame lent : List ℕ) (x : CRead) : Type 0 where
  -- each number, so the places of the parts, too
  pub numbers : CReads c kind frame lent x
  -- the record or the error code, header, body and attachment as bytes of the frame, and the row numbers
  pub says : said_by kind frame x ≡ whole_of (read_frame c kind frame lent)
  -- "A refused record .. is all zero", and the parts are "empty if refused"
  pub zero : (x.code ≡ 0 → ⊥) → x.numbers ≡ replicate 25 0
  -- "Every record carries the version": the last number is byte 15, so its unused bytes are 0
  pub version : x.code ≡ 0 → get_or x.numbers 24 0 ≡ version_of frame

-- A record whose int32 fields have 32 bits, as those of every record in a program have: `mag` is n for n and for -1 - n.
abbrev pub SignedFit : Record → Type 0
SignedFit (records.Request r) = Unit {0}
SignedFit (records.Response r) = (mag r.ret < 2 ^ 31) × (mag r.func_ret < 2 ^ 31)
SignedFit (records.Init r) = mag r.response_meta.ret < 2 ^ 31
SignedFit (records.Data r) = Unit {0}
SignedFit (records.Feedback r) = Unit {0}
SignedFit (records.Close r) = (mag r.close_type < 2 ^ 31) × (mag r.ret < 2 ^ 31) × (mag r.func_ret < 2 ^ 31)

-- and a version of a byte
abbrev pub Fit : Record → Type 0
Fit r = (record_version r < 2 ^ 8) × SignedFit r
