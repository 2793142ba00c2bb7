-- `dimacs::numbers::capped_value` meets its contract. Assumes nothing.
use Rattle.dimacs.proofs.NumberLaws.{Summed}
use Rattle.dimacs.proofs.numbers.capped_value.Given as goal

abbrev pub invariant-loop-b : goal.invariant-loop-b
invariant-loop-b l = Summed l.digits l.n l.b-index
