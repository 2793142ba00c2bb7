-- `items::take_off` meets its contract: the amount goes off one item more. Assumes nothing.
use Rattle.std.proofs.Common.{refl}
use Rattle.items.specs.Laws.Weighing.{take_more, take_all}
use Rattle.items.proofs.take_off.Goals as goal

pub loop-v-preserved-then-less-eq0 : goal.loop-v-preserved-then-less-eq0
loop-v-preserved-then-less-eq0 c = take_more c.loop-v.invariant c.in-Some.ensures.steps.0 c.requires refl c.in-Some.ensures.steps.1

pub loop-v-preserved : goal.loop-v-preserved
loop-v-preserved c = take_more c.loop-v.invariant c.in-Some.ensures.steps.0 c.requires refl c.in-Some.ensures.steps.1

pub returns : goal.returns
returns c = take_all c.loop-v.invariant c.in-None.ensures.steps.0
