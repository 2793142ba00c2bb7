-- `items::take_off` meets its contract. Assumes nothing.
use Rattle.items.specs.Laws.Weighing.{TakenOffGone}
use Rattle.items.proofs.take_off.Given as goal

abbrev pub invariant-loop-v : goal.invariant-loop-v
invariant-loop-v l = TakenOffGone l.initial.left l.set l.amount l.left l.v-iterator.left
