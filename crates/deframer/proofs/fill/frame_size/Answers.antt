-- A bad header, a frame of which all is held (`known_total`), or a size.
use mathlib.Core.Path.{◌≡◌, refl, ◌∙◌}
use native.Mathlib.Omega.{arith}
use borrow.Author.Tests.{lt-ltb, le-ltb, eqb-true, eqb-false}
use lib.ListN.{take}
use lib.Seq.{length-take-le}
use mathlib.Core.Path.{sym}
use Rattle.laws.proofs.Tests.{fails, holds}
use Rattle.fixed_header.specs.Header.{header_error, total_of}
use Rattle.fixed_header.proofs.Codes.{declared}
use Rattle.deframer.proofs.Known.{known_total, unknown_header}
use Rattle.deframer.proofs.fill.frame_size.Goals as goal

pub slice_bounds-header_good-end : goal.slice_bounds-header_good-end
slice_bounds-header_good-end c = sym (length-take-le 16 c.args.bytes.now (omega arith))

pub returns-then-not-header_good-clause-bytes_value : goal.returns-then-not-header_good-clause-bytes_value
returns-then-not-header_good-clause-bytes_value c =
    let args = c.args in
    λ h l. unknown_header args.ceiling (record { held = args.held; error = 0 }) args.bytes.now refl h
    (eqb-false _ 0 (fails c.header_good.ensures c.if-not-header_good.true-raw))

pub returns-then-total-held-clause-bytes_value : goal.returns-then-total-held-clause-bytes_value
returns-then-total-held-clause-bytes_value c =
    let bytes = c.args.bytes.now in
    let good : header_error c.args.ceiling (take 16 bytes) ≡ 0
    = eqb-true _ 0 (holds c.header_good.ensures c.if-not-header_good.false-raw) in
    let is = c.declared_size-total.ensures ∙ declared bytes (omega arith) in
    λ h l. known_total c.args.ceiling (record { held = c.args.held; error = 0 }) bytes refl h good
    ∙ le-ltb c.args.held (total_of (take 16 bytes)) (omega (arith, is))

pub returns-clause-in_bounds : goal.returns-clause-in_bounds
returns-clause-in_bounds c =
    let bytes = c.args.bytes.now in
    let good : header_error c.args.ceiling (take 16 bytes) ≡ 0
    = eqb-true _ 0 (holds c.header_good.ensures c.if-not-header_good.false-raw) in
    (omega arith, good, c.declared_size-total.ensures ∙ declared bytes (omega arith), omega arith)

pub returns-clause-bytes_value : goal.returns-clause-bytes_value
returns-clause-bytes_value c =
    let bytes = c.args.bytes.now in
    let good : header_error c.args.ceiling (take 16 bytes) ≡ 0
    = eqb-true _ 0 (holds c.header_good.ensures c.if-not-header_good.false-raw) in
    let is = c.declared_size-total.ensures ∙ declared bytes (omega arith) in
    λ h l. known_total c.args.ceiling (record { held = c.args.held; error = 0 }) bytes refl h good
    ∙ lt-ltb c.args.held (total_of (take 16 bytes)) (omega (arith, is))
