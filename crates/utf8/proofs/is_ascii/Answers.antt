use Rattle.std.proofs.Common.{rules}
use Rattle.std.proofs.lemmas.Iterator.{cases_from_all, YieldsList-from_slice}
use Prim.Native.Nat.{◌<◌, ◌≤◌, ◌-◌}
use mathlib.Core.Path.{◌≡◌}
use mathlib.Core.Bool.{true, false}
use lib.ListN.{length, drop}
use Rattle.utf8.specs.Ascii.{ascii}
use borrow.Author.Tests.{tests}
use Rattle.utf8.proofs.AsciiLaws.{one_by_one, eight_stops, last_eight}
use Rattle.utf8.proofs.is_ascii.Goals as goal

pub returns-in_default : goal.returns-in_default
returns-in_default c =
    one_by_one _ c.args.s.now
    (cases_from_all _ _ _ (λ x. x < 0x80) (λ x. 0x80 ≤ x) c.all.ensures.ran (YieldsList-from_slice c.args.s.now c.iter.ensures.rest)
    (λ x q k. search (rules, tests)) (λ x q k. search (rules, tests)))

pub returns-then-all : goal.returns-then-all
returns-then-all c =
    let last : c.in-Some.last.now ≡ drop (length c.args.s.now - 8) c.args.s.now = c.in-Some.ensures.cases.1.same in
    rw (c.ascii_8.ensures, last)
    (last_eight c.args.s.now c.as_chunks.ensures.front c.as_chunks.ensures.front_len
    (cases_from_all _ _ _ (λ x. ascii x ≡ true) (λ x. ascii x ≡ false) c.all-2.ensures.ran
    (YieldsList-from_slice c.as_chunks.result.0.now c.iter-2.ensures.rest) (λ x q k. search rules) (λ x q k. search rules))
    c.if-all.true c.in-Some.ensures.cases.0)

pub returns-else-all : goal.returns-else-all
returns-else-all c =
    rw c.if-all.false
    (eight_stops c.args.s.now c.as_chunks.ensures.front c.as_chunks.ensures.front_len
    (cases_from_all _ _ _ (λ x. ascii x ≡ true) (λ x. ascii x ≡ false) c.all-2.ensures.ran
    (YieldsList-from_slice c.as_chunks.result.0.now c.iter-2.ensures.rest) (λ x q k. search rules) (λ x q k. search rules))
    c.if-all.false)
