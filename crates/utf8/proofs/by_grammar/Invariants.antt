-- At each turn the bytes from the next on are judged as all of them are.
use Rattle.utf8.proofs.Judged.{Judged}
use Rattle.utf8.proofs.by_grammar.Given as goal

abbrev pub invariant-loop-b : goal.invariant-loop-b
invariant-loop-b l = Judged l.s l.begun.need l.begun.lo l.begun.hi l.b-index
