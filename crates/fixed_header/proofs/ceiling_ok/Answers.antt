-- Branch by branch, the definition's tests.
use borrow.Author.Rules.{rules}
use Rattle.fixed_header.specs.Header.{ceiling_ok}
use Rattle.laws.proofs.Tests.{tests}
use Rattle.fixed_header.proofs.ceiling_ok.Goals as goal

pub returns-then-most-lt-HEADER : goal.returns-then-most-lt-HEADER
unfolding ceiling_ok
returns-then-most-lt-HEADER c =
    search (rules, tests)

pub returns : goal.returns
unfolding ceiling_ok
returns c =
    search (rules, tests)
