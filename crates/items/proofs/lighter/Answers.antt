-- `items::lighter` meets its contract: an item that weighs too much goes, and any other stays. Assumes nothing.
use Rattle.std.proofs.Common.{refl}
use Rattle.items.specs.Laws.Weighing.{lighter_on, lighter_off}
use Rattle.items.proofs.lighter.Goals as goal

pub loop-v-preserved-then-than-weights : goal.loop-v-preserved-then-than-weights
loop-v-preserved-then-than-weights c = lighter_off c.loop-v.invariant c.in-Some.ensures.steps.0 c.if-than-weights.true c.remove-kept.ensures c.in-Some.ensures.steps.1

pub loop-v-preserved : goal.loop-v-preserved
loop-v-preserved c = lighter_on c.loop-v.invariant c.in-Some.ensures.steps.0 c.if-than-weights.false refl c.in-Some.ensures.steps.1
