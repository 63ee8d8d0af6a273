-- `read` meets its contract: `read_spans` gives the record, the row numbers and the parts' spans, and `bytes_at` the bytes
-- there, which are the parts (`spans_stand`).
use Rattle.std.proofs.Common.{◌≡◌, ℕ, ◌-◌, min, List, length, refl, ap, ◌∙◌}
use Rattle.schema.specs.declared.Kind.{Kind}
use Rattle.message.specs.Frames.{read_frame}
use Rattle.message.specs.Spans.{Spans, bytes_at, place_after, spans_of}
use Rattle.message.proofs.SpansStand.{spans_stand}
use Rattle.reader.specs.Places.{PartsStand}
use Rattle.reader.proofs.Starts.{starts_within}
use Rattle.reader.proofs.read.Goals as goal

-- the bytes at the spans of a reading are its parts
at_spans : (c : ℕ) (k : Kind) (f lent : List ℕ) {p : Spans} → p ≡ spans_of (read_frame c k f lent) (length f)
    → (p.answer ≡ (read_frame c k f lent).answer) × (bytes_at f p.header ≡ (read_frame c k f lent).header)
    × (bytes_at f p.body ≡ (read_frame c k f lent).body) × (bytes_at f p.attachment ≡ (read_frame c k f lent).attachment)
at_spans c k f lent e =
    let stands = spans_stand c f k lent in
    rw e (refl, stands.header_stands, stands.body_stands, stands.attachment_stands)

-- and they start within the frame
at_starts : (c : ℕ) (k : Kind) (f lent : List ℕ) (place : ℕ × ℕ) {p : Spans} → p ≡ spans_of (read_frame c k f lent) (length f)
    → PartsStand place (spans_of (read_frame c k f lent) (length f))
    (place_after place (min p.header.start (length f))) (place_after place (min p.body.start (length f)))
    (place_after place (min p.attachment.start (length f)))
at_starts c k f lent place e =
    let stands = spans_stand c f k lent in
    let x = read_frame c k f lent in
    rw e (
      ap (place_after place) (starts_within f x.header 16 stands.header_stands),
      ap (place_after place) (starts_within f x.body (length f - length x.body) stands.body_stands),
      ap (place_after place) (starts_within f x.attachment (length f - length x.attachment) stands.attachment_stands),
    )

pub returns : goal.returns
returns c =
    let args = c.args in
    let located = c.read_spans-located.ensures in
    let parts = at_spans args.ceiling args.kind args.frame.now args.rows.now located.0 in
    let starts = at_starts args.ceiling args.kind args.frame.now args.rows.now args.frame.ref_ptr located.0 in
    let header = c.bytes_at.ensures in
    let body = c.bytes_at-2.ensures in
    let attachment = c.bytes_at-3.ensures in (
      (parts.0, header.0 ∙ parts.1, body.0 ∙ parts.2, attachment.0 ∙ parts.3, located.1),
      (header.1 ∙ starts.0, body.1 ∙ starts.1, attachment.1 ∙ starts.2),
    )
