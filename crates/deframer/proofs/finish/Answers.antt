-- Branch by branch, the definition's tests.
use mathlib.Core.Path.{◌≡◌, ap, ◌∙◌}
use mathlib.Core.Bool.{Bool, true, false, not, cond}
use Prim.Native.Nat.{ℕ}
use borrow.Author.Rules.{rules}
use borrow.Author.Tests.{le-ltb, ne_eqb}
use Rattle.fixed_header.proofs.Codes.{ceiling_range}
use Rattle.deframer.specs.Deframe.{ended}
use Rattle.deframer.specs.End.{Refused}
use Rattle.laws.proofs.Tests.{tests, fails, holds}
use Rattle.deframer.proofs.Known.{known_by}
use Rattle.deframer.proofs.finish.Goals as goal

pub returns-then-not-ceiling_ok : goal.returns-then-not-ceiling_ok
unfolding ended
returns-then-not-ceiling_ok c = rw (fails c.ceiling_ok.ensures c.if-not-ceiling_ok.true-raw) (search (rules, tests))

pub returns-then-buffer-ceiling : goal.returns-then-buffer-ceiling
unfolding ended
returns-then-buffer-ceiling c =
    rw (holds c.ceiling_ok.ensures c.if-not-ceiling_ok.false-raw) (search (rules, tests))

pub held_refusal-requires : goal.held_refusal-requires
held_refusal-requires c =
    (ceiling_range c.args.ceiling (holds c.ceiling_ok.ensures c.if-not-ceiling_ok.false-raw), c.if-buffer-ceiling.false)

-- a known state's refusal, or 2
held : (known : Bool) (error n : ℕ) → n ≡ cond known error 2 → Refused n ≡ cond (not known) (Refused 2) (Refused error)
held true error n e = ap Refused e
held false error n e = ap Refused e

pub returns-then-error-ne0 : goal.returns-then-error-ne0
unfolding ended
returns-then-error-ne0 c =
    rw (
      holds c.ceiling_ok.ensures c.if-not-ceiling_ok.false-raw,
      le-ltb _ _ c.if-buffer-ceiling.false,
      ne_eqb _ _ c.if-error-ne0.true,
    )
    (held _ _ _ (c.held_refusal.ensures c.if-error-ne0.true))

pub known-requires : goal.known-requires
known-requires c =
    (ceiling_range c.args.ceiling (holds c.ceiling_ok.ensures c.if-not-ceiling_ok.false-raw), c.if-buffer-ceiling.false)

pub returns-then-not-known : goal.returns-then-not-known
unfolding ended
returns-then-not-known c =
    let in_range = holds c.ceiling_ok.ensures c.if-not-ceiling_ok.false-raw in
    let unknown = known_by c.args.ceiling c.args.state c.args.buffer.now c.if-error-ne0.false (fails c.known.ensures c.if-not-known.true-raw) in
    rw (in_range, unknown) (search (rules, tests))

pub returns-then-held-eq0 : goal.returns-then-held-eq0
unfolding ended
returns-then-held-eq0 c =
    let in_range = holds c.ceiling_ok.ensures c.if-not-ceiling_ok.false-raw in
    let known = known_by c.args.ceiling c.args.state c.args.buffer.now c.if-error-ne0.false (holds c.known.ensures c.if-not-known.false-raw) in
    rw (in_range, known) (search (rules, tests))

pub returns : goal.returns
unfolding ended
returns c =
    let in_range = holds c.ceiling_ok.ensures c.if-not-ceiling_ok.false-raw in
    let known = known_by c.args.ceiling c.args.state c.args.buffer.now c.if-error-ne0.false (holds c.known.ensures c.if-not-known.false-raw) in
    rw (in_range, known) (search (rules, tests))
