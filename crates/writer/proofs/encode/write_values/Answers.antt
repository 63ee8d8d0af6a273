-- The ceiling is looked at first. Slots with an error are refused with it, and those without keep what the rest needs (`Accepted`).
use Prim.Native.Nat.{◌*◌, ◌≤◌}
use mathlib.Core.Path.{refl, sym, ap, ◌∙◌}
use mathlib.Core.List.{List}
use lib.ListN.{length, length-take}
use native.Mathlib.Omega.{arith}
use Rattle.std.proofs.lemmas.Result.{err_from_is_err_and}
use Rattle.refusals.proofs.Answers.{number_not_0}
use Rattle.schema.specs.Kinds.{schema_of}
use Rattle.decoder.specs.Rows.{Row}
use Rattle.writer_checks.proofs.RowFours.{fours_lent}
use Rattle.writer.specs.Encoding.{put_fields}
use Rattle.writer.specs.Straight.{written_with}
use Rattle.laws.proofs.Tests.{holds}
use Rattle.fixed_header.proofs.Codes.{ceiling_range}
use Rattle.writer_checks.proofs.Accepted.{accepted}
use Rattle.writer.specs.Writing.{Writing}
use Rattle.writer.proofs.Refusals.{refused_ceiling, refused_content, accepted_content}
use Rattle.writer.proofs.encode.write_values.Goals as goal

pub returns-then-not-ceiling_ok : goal.returns-then-not-ceiling_ok
returns-then-not-ceiling_ok c =
    refused_ceiling c.args.ceiling c.args.outline.kind c.args.outline.id c.args.outline.header_version c.args.slots.now c.args.outline.rows c.args.source.now
    c.args.rows.now c.args.body.now c.args.out.now c.ceiling_ok.ensures c.if-not-ceiling_ok.true-raw

pub returns-in_err-content_error : goal.returns-in_err-content_error
returns-in_err-content_error c =
    let p = err_from_is_err_and c.from_residual.result c.from_residual.ensures.1 in
    rw (p.1, p.2)
    (refused_content c.args.ceiling c.args.outline.kind c.args.outline.id c.args.outline.header_version c.args.slots.now c.args.outline.rows
    c.args.source.now c.args.rows.now c.args.body.now c.args.out.now c.ceiling_ok.ensures c.if-not-ceiling_ok.false-raw _
    c.in_err-content_error.ensures (number_not_0 _))

pub slice_bounds-as_chunks-end : goal.slice_bounds-as_chunks-end
slice_bounds-as_chunks-end c =
    let ok = accepted c.args.outline.kind c.args.slots.now c.args.outline.rows c.args.source.now c.args.rows.now (length c.args.body.now)
    (sym c.in_ok-content_error.ensures) in
    let lent : c.args.outline.rows * 4 ≤ length c.args.rows.now = ok.lent in
    omega (arith, length-take (c.args.outline.rows * 4) c.args.rows.now)

pub invariant_of-m : goal.invariant_of-m
invariant_of-m c =
    let ok = accepted c.args.outline.kind c.args.slots.now c.args.outline.rows c.args.source.now c.args.rows.now (length c.args.body.now)
    (sym c.in_ok-content_error.ensures) in
    let rows = fours_lent c.args.outline.rows c.args.rows.now ok.lent _ c.as_chunks.ensures.front in
    record {
      few =
          let few : c.args.outline.rows ≤ 64 = ok.few in
          let lent : c.args.outline.rows * 4 ≤ length c.args.rows.now = ok.lent in
          omega (arith, c.as_chunks.ensures.front_len, length-take (c.args.outline.rows * 4) c.args.rows.now);
      rows_in = rw rows ok.rows_within_lem;
      spans_in = ok.spans_within_lem;
    }

pub write_frame-requires : goal.write_frame-requires
write_frame-requires c = (ceiling_range c.args.ceiling (holds c.ceiling_ok.ensures c.if-not-ceiling_ok.false-raw)).1

pub returns : goal.returns
returns c =
    let ok = accepted c.args.outline.kind c.args.slots.now c.args.outline.rows c.args.source.now c.args.rows.now (length c.args.body.now)
    (sym c.in_ok-content_error.ensures) in
    let kind = c.args.outline.kind in
    let rows = fours_lent c.args.outline.rows c.args.rows.now ok.lent _ c.as_chunks.ensures.front in
    let same =
    ap (λ (t : List Row). written_with c.args.ceiling kind c.args.outline.id c.args.outline.header_version
    (put_fields c.args.source.now t (schema_of kind) 0 c.args.slots.now) c.args.body.now c.args.out.now) rows
    ∙ accepted_content c.args.ceiling kind c.args.outline.id c.args.outline.header_version c.args.slots.now c.args.outline.rows
    c.args.source.now c.args.rows.now c.args.body.now c.args.out.now c.ceiling_ok.ensures c.if-not-ceiling_ok.false-raw _
    c.in_ok-content_error.ensures refl in
    let wrote = c.write_frame.ensures in
    (wrote.0 ∙ ap (λ (w : Writing). w.answer) same, wrote.1 ∙ ap (λ (w : Writing). w.output) same)
