-- Branch by branch, the definition's tests.
use borrow.Author.Rules.{rules}
use Rattle.fixed_header.specs.Header.{stream_type_ok}
use Rattle.laws.proofs.Tests.{tests}
use Rattle.fixed_header.proofs.header.stream_type_ok.Goals as goal

pub returns-then-stream_type-ge1 : goal.returns-then-stream_type-ge1
unfolding stream_type_ok
returns-then-stream_type-ge1 c = search (rules, tests)

pub returns-else-stream_type-ge1 : goal.returns-else-stream_type-ge1
unfolding stream_type_ok
returns-else-stream_type-ge1 c = search (rules, tests)
