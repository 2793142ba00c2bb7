-- `step::weigh` meets its contract. The invariant: the weights of the variables gone over. Assumes nothing.
use Rattle.step.specs.Laws.Costs.{WeighedTo}
use Rattle.step.proofs.weigh.Given as goal

abbrev pub invariant-loop-i : goal.invariant-loop-i
invariant-loop-i l = WeighedTo l.costs l.known.yes l.known.no l.weights l.i
