-- `read_entry` meets its contract: what is left to read is what is left of the whole entry (`ReadingEntry`), and each field takes bytes
-- of it.
use mathlib.Core.Path.{sym, ap, ◌∙◌}
use Rattle.std.specs.Prelude.{Ok}
use Rattle.wire_read.proofs.Answers.{found_as, refused_as, refused_by}
use native.Mathlib.Omega.{arith}
use Rattle.decoder.specs.DecoderState.{entry_of}
use Rattle.decoder.proofs.Walk.{walk_end, walk_error, bytes_bounds, bytes_place}
use Rattle.decoder.proofs.EntryLaws.{entry_start, entry_passed, entry_bytes}
use Rattle.decoder.proofs.entry.read_entry.Goals as goal

pub loop-step-init : goal.loop-step-init
loop-step-init c =
    let pre = c.requires in entry_start _ _ _ pre.0 pre.1 pre.2

pub step_in-requires : goal.step_in-requires
step_in-requires c =
    c.loop-step.invariant.walk.long

pub set_span-e-requires : goal.set_span-e-requires
set_span-e-requires c =
    let inv = c.loop-step.invariant in
    let is-s = found_as c.step_in.ensures (c.in_ok-step.was ∙ ap Ok c.in-Some.is) in
    omega (arith, inv.small, inv.walk.long, bytes_bounds _ _ _ _ _ _ _ inv.walk is-s _ _ _ c.in-Bytes.is)

pub loop-step-smaller-in-Bytes : goal.loop-step-smaller-in-Bytes
loop-step-smaller-in-Bytes c =
    let inv = c.loop-step.invariant in
    let is-s = found_as c.step_in.ensures (c.in_ok-step.was ∙ ap Ok c.in-Some.is) in
    let found = c.in-Bytes.is in
    omega (arith, bytes_bounds _ _ _ _ _ _ _ inv.walk is-s _ _ _ found, bytes_place _ _ _ _ _ _ _ inv.walk is-s _ _ _ found)

pub loop-step-preserved-in-Bytes : goal.loop-step-preserved-in-Bytes
loop-step-preserved-in-Bytes c =
    let inv = c.loop-step.invariant in
    let is-s = found_as c.step_in.ensures (c.in_ok-step.was ∙ ap Ok c.in-Some.is) in
    entry_bytes _ _ _ _ _ inv is-s _ _ _ c.in-Bytes.is _ c.set_span-e.ensures

pub loop-step-smaller : goal.loop-step-smaller
loop-step-smaller c =
    let inv = c.loop-step.invariant in
    omega (arith, entry_passed _ _ _ _ _ inv (found_as c.step_in.ensures (c.in_ok-step.was ∙ ap Ok c.in-Some.is)) c.in-Varint.is)

pub loop-step-preserved : goal.loop-step-preserved
loop-step-preserved c =
    let inv = c.loop-step.invariant in
    (entry_passed _ _ _ _ _ inv (found_as c.step_in.ensures (c.in_ok-step.was ∙ ap Ok c.in-Some.is)) c.in-Varint.is).2

pub returns : goal.returns
returns c =
    let inv = c.loop-step.invariant in
    sym (ap entry_of (walk_end _ _ _ _ _ _ _ inv.walk (found_as c.step_in.ensures (c.in_ok-step.was ∙ ap Ok c.in_default.is))))

pub returns-in_err-step : goal.returns-in_err-step
returns-in_err-step c =
    let inv = c.loop-step.invariant in
    refused_by _ _ c.from_residual.ensures
    ∙ sym (ap entry_of (walk_error _ _ _ _ _ _ _ inv.walk (refused_as c.step_in.ensures c.in_err-step.was)))
