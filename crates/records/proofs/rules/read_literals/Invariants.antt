-- `records::rules::read_literals` meets its contract. Assumes nothing.
use Rattle.records.proofs.LiteralLaws.{Gathered}
use Rattle.records.proofs.rules.read_literals.Given as goal

abbrev pub invariant-loop-b : goal.invariant-loop-b
invariant-loop-b l = Gathered l.n l.s l.set l.last l.b-index
