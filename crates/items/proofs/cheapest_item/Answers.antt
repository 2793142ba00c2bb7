-- `items::cheapest_item` meets its contract: of two items the lighter stays in hand. Assumes nothing.
use Rattle.std.proofs.Common.{refl, arith}
use Rattle.items.specs.Laws.Weighing.{item_kept, item_other}
use Rattle.items.proofs.cheapest_item.Goals as goal

pub loop-v-preserved-then-weights-v : goal.loop-v-preserved-then-weights-v
loop-v-preserved-then-weights-v c = item_other c.loop-v.invariant c.in-Some.ensures.steps.0 (omega arith) refl c.in-Some.ensures.steps.1

pub loop-v-preserved : goal.loop-v-preserved
loop-v-preserved c = item_kept c.loop-v.invariant c.in-Some.ensures.steps.0 c.if-weights-v.false refl c.in-Some.ensures.steps.1
