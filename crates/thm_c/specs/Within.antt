-- What the numbers say that a reader hands out: the record, its rows, and the parts of the frame as starts and lengths
use Rattle.std.specs.Prelude.{ℕ, List}
use Rattle.records.specs.Records.{span_at}
use Rattle.schema.specs.declared.Kind.{Kind}
use Rattle.std.specs.Prelude.{Ok}
use Rattle.message.specs.Spans.{Spans}
use Rattle.bekurapi.specs.Numbers.{record_from}

-- "id, row count, start and length of header, body and attachment", then the fields and the version
abbrev pub located_from : Kind → (numbers : List ℕ) → Spans
located_from kind numbers =
    record {
      answer = Ok (record_from kind numbers);
      header = span_at numbers 2;
      body = span_at numbers 4;
      attachment = span_at numbers 6;
    }
