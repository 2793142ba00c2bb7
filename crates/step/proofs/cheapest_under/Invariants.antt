-- `step::cheapest_under` meets its contract. The invariant: the least under the bound, but for the goals left. Assumes nothing.
use Rattle.problem.specs.Masked.{of_rules}
use Rattle.step.specs.Promises.{Searching}
use Rattle.step.proofs.cheapest_under.Given as goal

abbrev pub invariant-loop-v : goal.invariant-loop-v
invariant-loop-v l = of_rules Searching l.problem l.problem.costs l.consequence l.known l.bound l.v-iterator.left l.pool l.best
