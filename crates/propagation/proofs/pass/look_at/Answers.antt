-- `propagation::pass::look_at` meets its contract, by the laws of a look at one rule. Assumes nothing.
use Rattle.std.proofs.Common.{arith}
use Rattle.propagation.specs.Laws.Looks.{look_met, look_several, look_quick, look_conflict, look_unit}
use Rattle.propagation.proofs.pass.look_at.Goals as goal

pub returns-then-met-eq0 : goal.returns-then-met-eq0
returns-then-met-eq0 c = look_quick c.difference.ensures c.difference-2.ensures _ c.if-quiet-ne0.true c.if-met-eq0.true

pub returns-else-met-eq0 : goal.returns-else-met-eq0
returns-else-met-eq0 c = look_met c.if-met-eq0.false

pub returns-then-left-eq0 : goal.returns-then-left-eq0
returns-then-left-eq0 c = look_conflict c.difference.ensures c.difference-2.ensures c.if-left-eq0.true

pub returns-then-left-single : goal.returns-then-left-single
returns-then-left-single c = look_several c.difference.ensures c.difference-2.ensures _ c.if-quiet-ne0.false c.if-left-eq0.false

pub returns : goal.returns
returns c = look_unit c.difference.ensures c.difference-2.ensures _ c.lowest.result c.if-quiet-ne0.false
    (omega (arith, c.if-left-single.false, c.single.ensures))
    (omega (arith, c.if-left-both-ne0.false))
