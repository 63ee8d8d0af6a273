-- Case by case, the definition's tests.
use borrow.Author.Rules.{rules}
use Rattle.fixed_header.specs.Header.{type_of}
use Rattle.laws.proofs.Tests.{tests}
use Rattle.fixed_header.proofs.FrameType.of_types.Goals as goal

pub returns-in-0-default : goal.returns-in-0-default
unfolding type_of
returns-in-0-default c = search (rules, tests)

pub returns-in_default-eq1 : goal.returns-in_default-eq1
unfolding type_of
returns-in_default-eq1 c = search (rules, tests)

pub returns-in_default-eq2 : goal.returns-in_default-eq2
unfolding type_of
returns-in_default-eq2 c = search (rules, tests)

pub returns-in_default-eq3 : goal.returns-in_default-eq3
unfolding type_of
returns-in_default-eq3 c = search (rules, tests)

pub returns-in_default : goal.returns-in_default
unfolding type_of
returns-in_default c = search (rules, tests)
