-- `dimacs::writing::put_costs` meets its contract: there is room for the next CS, and at the end all are put. Assumes nothing.
use Rattle.std.proofs.Common.{◌+◌, ◌<◌, arith}
use Rattle.dimacs.proofs.WritingLaws.{cost_room, costs_more, costs_all}
use Rattle.dimacs.proofs.writing.put_costs.Goals as goal

pub put_cost-next-requires : goal.put_cost-next-requires
put_cost-next-requires c = cost_room _ _ _ c.loop-choice.invariant c.loop-choice-test.true c.requires

pub returns : goal.returns
returns c = costs_all _ _ _ c.loop-choice.invariant c.loop-choice-test.false

-- where the range ends with its last choice
pub returns-2 : goal.returns-2
returns-2 c =
    let last : c.args.choices < c.loop-choice.choice + 1 = omega arith in
    costs_all _ _ _ (costs_more _ _ _ c.loop-choice.invariant c.loop-choice-test.true c.put_cost-next.ensures) last
