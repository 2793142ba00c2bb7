-- `step::step_of` meets its contract. Assumes nothing.
use Rattle.std.proofs.Common.{arith, rules}
use Rattle.step.proofs.Signed.{same_literal}
use Rattle.step.proofs.Steps.{chosen_reasons, chosen_step}
use Rattle.step.proofs.step_of.Goals as goal

pub learn-new-requires : goal.learn-new-requires
learn-new-requires c = search (rules, chosen_reasons)

pub returns : goal.returns
returns c =
    chosen_step c.requires c.args.consequence c.difference-goals.ensures c.has.ensures (same_literal _ _ _ c.literal-goal.ensures (omega arith))
    c.intersection.ensures c.intersection-2.ensures c.learn-new.ensures
