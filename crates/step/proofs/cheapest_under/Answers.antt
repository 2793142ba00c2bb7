-- `step::cheapest_under` meets its contract. Assumes nothing.
use Rattle.std.proofs.Common.{◌≡◌, rules}
use Rattle.step.specs.Promises.{open_goals}
use Rattle.step.specs.Laws.AllGoals.{searching_start, searching_row, searching_explore, searching_more}
use Rattle.step.proofs.cheapest_under.Goals as goal

pub loop-v-init : goal.loop-v-init
loop-v-init c =
    let all : c.into_iter-v-iterator.result.left ≡ open_goals c.args.consequence c.args.known = search rules in
    searching_start all c.new-pool.ensures

pub aim_at-aim-requires : goal.aim_at-aim-requires
aim_at-aim-requires c = searching_row c.requires.ready c.loop-v.invariant c.in-Some.ensures.steps.0

pub explore-best-requires-clause-exploring : goal.explore-best-requires-clause-exploring
explore-best-requires-clause-exploring c =
    rw (c.formula-formula.ensures.variables, c.formula-formula.ensures.rules)
    (searching_explore c.requires.ready c.loop-v.invariant c.in-Some.ensures.steps.0 c.requires.weighed c.has.ensures c.aim_at-aim.ensures
    c.all_sets.ensures)

pub loop-v-preserved : goal.loop-v-preserved
loop-v-preserved c =
    searching_more c.requires.ready c.loop-v.invariant c.in-Some.ensures.steps.0 c.requires.weighed c.has.ensures c.aim_at-aim.ensures
    c.all_sets.ensures (rw (c.formula-formula.ensures.variables, c.formula-formula.ensures.rules) at c.explore-best.ensures) c.in-Some.ensures.steps.1
