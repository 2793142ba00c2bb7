-- `step::cheapest` meets its contract. Assumes nothing.
use Rattle.step.specs.Laws.AllGoals.{bound_row, bound_least}
use Rattle.step.proofs.cheapest.Goals as goal

pub aim_at-aim-requires : goal.aim_at-aim-requires
aim_at-aim-requires c = bound_row c.requires c.open_goals.ensures c.lowest-v.ensures

pub returns : goal.returns
returns c =
    bound_least c.requires c.open_goals.ensures c.lowest-v.ensures c.weigh-weights.ensures c.has.ensures c.aim_at-aim.ensures c.known_key-bound.ensures
    c.cheapest_under.ensures
