-- `step::next_step` meets its contract. Assumes nothing.
use Rattle.step.proofs.Steps.{asked_goal, answer_chosen}
use Rattle.step.proofs.next_step.Goals as goal

pub cheapest-best-requires : goal.cheapest-best-requires
cheapest-best-requires c = asked_goal c.requires c.open_goals-goals.ensures c.if-goals-eq0.false

pub step_of-requires : goal.step_of-requires
step_of-requires c = answer_chosen c.requires c.cheapest-best.ensures
