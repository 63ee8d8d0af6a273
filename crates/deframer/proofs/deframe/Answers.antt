-- The definition's outcomes of a call: a ceiling out of range, a small buffer, a held code, and the moves by how much is held.
use Prim.Native.Nat.{ℕ}
use mathlib.Core.Path.{ap, ◌∙◌}
use borrow.Author.Rules.{rules}
use Rattle.laws.proofs.Tests.{fails, holds}
use Rattle.fixed_header.proofs.Codes.{ceiling_range}
use Rattle.deframer.specs.Deframe.{refuse}
use Rattle.deframer.proofs.Advance.{call_ceiling, call_small, call_held, call_moves, called_refused, called_moved}
use Rattle.deframer.proofs.Known.{known_short}
use Rattle.deframer.proofs.deframe.Goals as goal

pub returns-then-not-ceiling_ok : goal.returns-then-not-ceiling_ok
returns-then-not-ceiling_ok c =
    let m = called_refused c.args.ceiling c.args.state c.args.buffer.now c.args.piece.now 41 _ c.refused.ensures
    (call_ceiling c.args.ceiling c.args.state c.args.buffer.now c.args.piece.now
    (fails c.ceiling_ok.ensures c.if-not-ceiling_ok.true-raw)) in
    record { value = m.0; buffer_after = m.1 }

pub returns-then-buffer-ceiling : goal.returns-then-buffer-ceiling
returns-then-buffer-ceiling c =
    let in_range = ceiling_range c.args.ceiling (holds c.ceiling_ok.ensures c.if-not-ceiling_ok.false-raw) in
    let m = called_refused c.args.ceiling c.args.state c.args.buffer.now c.args.piece.now 1 _ c.refused-then-buffer-ceiling.ensures
    (call_small c.args.ceiling c.args.state c.args.buffer.now c.args.piece.now in_range c.if-buffer-ceiling.true) in
    record { value = m.0; buffer_after = m.1 }

pub held_refusal-requires : goal.held_refusal-requires
held_refusal-requires c =
    let in_range = ceiling_range c.args.ceiling (holds c.ceiling_ok.ensures c.if-not-ceiling_ok.false-raw) in
    search rules

pub returns-then-state-ne0 : goal.returns-then-state-ne0
returns-then-state-ne0 c =
    let in_range = ceiling_range c.args.ceiling (holds c.ceiling_ok.ensures c.if-not-ceiling_ok.false-raw) in
    let m = called_refused c.args.ceiling c.args.state c.args.buffer.now c.args.piece.now _ _ (c.refused-then-state-ne0.ensures ∙ ap (λ (n : ℕ). refuse n c.args.state) (c.held_refusal.ensures c.if-state-ne0.true))
    (call_held c.args.ceiling c.args.state c.args.buffer.now c.args.piece.now in_range c.if-buffer-ceiling.false c.if-state-ne0.true) in
    record { value = m.0; buffer_after = m.1 }

pub start-requires : goal.start-requires
start-requires c =
    let in_range = ceiling_range c.args.ceiling (holds c.ceiling_ok.ensures c.if-not-ceiling_ok.false-raw) in
    search rules

pub returns-then-state-lt-HEADER : goal.returns-then-state-lt-HEADER
returns-then-state-lt-HEADER c =
    let in_range = ceiling_range c.args.ceiling (holds c.ceiling_ok.ensures c.if-not-ceiling_ok.false-raw) in
    let known = known_short c.args.ceiling c.args.state c.args.buffer.now c.if-state-ne0.false c.if-state-lt-HEADER.true in
    let m = called_moved c.args.ceiling c.args.state c.args.buffer.now c.args.piece.now _ _
    (call_moves c.args.ceiling c.args.state c.args.buffer.now c.args.piece.now in_range c.if-buffer-ceiling.false known c.if-state-ne0.false)
    (c.start.ensures.value, c.start.ensures.buffer_after) in
    record { value = m.0; buffer_after = m.1 }

pub more-requires : goal.more-requires
more-requires c =
    let in_range = ceiling_range c.args.ceiling (holds c.ceiling_ok.ensures c.if-not-ceiling_ok.false-raw) in
    search rules
