-- `items::cheapest_item` meets its contract. Assumes nothing.
use Rattle.items.specs.Laws.Weighing.{ItemGone}
use Rattle.items.proofs.cheapest_item.Given as goal

abbrev pub invariant-loop-v : goal.invariant-loop-v
invariant-loop-v l = ItemGone l.weights l.set l.v-iterator.left l.item
