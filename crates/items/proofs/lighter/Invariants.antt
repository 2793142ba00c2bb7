-- `items::lighter` meets its contract. Assumes nothing.
use Rattle.items.specs.Laws.Weighing.{LighterGone}
use Rattle.items.proofs.lighter.Given as goal

abbrev pub invariant-loop-v : goal.invariant-loop-v
invariant-loop-v l = LighterGone l.weights l.set l.than l.v-iterator.left l.kept
