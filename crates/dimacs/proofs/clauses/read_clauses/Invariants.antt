-- `dimacs::clauses::read_clauses` meets its contract. Assumes nothing.
use Rattle.dimacs.proofs.KeptLaws.{ClausesSoFar}
use Rattle.dimacs.proofs.clauses.read_clauses.Given as goal

abbrev pub invariant-loop : goal.invariant-loop
invariant-loop l = ClausesSoFar l.s l.v l.count l.from l.kept.items l.next l.counter
