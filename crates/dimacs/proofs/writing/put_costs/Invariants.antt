-- `dimacs::writing::put_costs` meets its contract. The invariant: the CS of the choices below this one are put. Assumes nothing.
use Rattle.dimacs.proofs.WritingLaws.{CostsPut}
use Rattle.dimacs.proofs.writing.put_costs.Given as goal

abbrev pub invariant-loop-choice : goal.invariant-loop-choice
invariant-loop-choice l = CostsPut l.initial.out l.at l.choices l.out l.next l.choice
