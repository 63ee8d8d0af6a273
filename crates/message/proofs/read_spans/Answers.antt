-- The places that `read_parts` answers are those of the definition's spans; a refusal has none (`PartsOf`).
use Prim.Native.Nat.{ℕ}
use mathlib.Core.Path.{◌≡◌, refl, sym, subst, ◌∙◌}
use mathlib.Core.List.{List}
use lib.ListN.{length}
use Rattle.std.specs.Prelude.{Result}
use Rattle.refusals.specs.declared.Refusal.{Refusal}
use Rattle.records.specs.declared.Record.{Record}
use Rattle.records.specs.declared.Span.{Span}
use Rattle.message.specs.Frames.{Reading, read_frame}
use Rattle.message.specs.Spans.{Spans, spans_of}
use Rattle.message.specs.Parts.{PartsOf}
use Rattle.message.specs.declared.frames.Parts.{Parts}
use Rattle.message.proofs.read_spans.Goals as goal

together : (x : Reading) (size : ℕ) {r : Result Record ℕ} {h b a : Span} → r ≡ x.answer → h ≡ (spans_of x size).header
    → b ≡ (spans_of x size).body → a ≡ (spans_of x size).attachment
    → ◌≡◌ {A = Spans} (record { answer = r; header = h; body = b; attachment = a }) (spans_of x size)
together x size e f g h = rw (e, f, g, h) refl

of_case : (x : Reading) (size : ℕ) (numbers : List ℕ) {r q : Result Parts Refusal} → r ≡ q → PartsOf x size r numbers
    → PartsOf x size q numbers
of_case x size numbers e = subst (λ (r : Result Parts Refusal). PartsOf x size r numbers) e

pub span-requires : goal.span-requires
span-requires c =
    let args = c.args in
    (of_case (read_frame args.ceiling args.kind args.frame.now args.rows.now) (length args.frame.now) _ c.in-Ok.is c.read_parts.ensures).small.0

pub span-requires-in-Ok : goal.span-requires-in-Ok
span-requires-in-Ok c =
    let args = c.args in
    (of_case (read_frame args.ceiling args.kind args.frame.now args.rows.now) (length args.frame.now) _ c.in-Ok.is c.read_parts.ensures).small.1

pub span-requires-in-Ok-2 : goal.span-requires-in-Ok-2
span-requires-in-Ok-2 c =
    let args = c.args in
    (of_case (read_frame args.ceiling args.kind args.frame.now args.rows.now) (length args.frame.now) _ c.in-Ok.is c.read_parts.ensures).small.1

pub returns-in-Ok : goal.returns-in-Ok
returns-in-Ok c =
    let args = c.args in
    let x = read_frame args.ceiling args.kind args.frame.now args.rows.now in
    let read = of_case x (length args.frame.now) _ c.in-Ok.is c.read_parts.ensures in (
      together x (length args.frame.now) (sym read.answer_is) (c.span.ensures ∙ read.header_at)
          (c.span-in-Ok.ensures ∙ read.body_at_is)
          (c.span-in-Ok-2.ensures ∙ read.attachment_at),
      read.rows_are,
    )

pub returns-in-Err : goal.returns-in-Err
returns-in-Err c =
    let args = c.args in
    let x = read_frame args.ceiling args.kind args.frame.now args.rows.now in
    let refused = of_case x (length args.frame.now) _ c.in-Err.is c.read_parts.ensures in
    rw refused (refl, refl)
