-- The cycle of `explore`. A call adds an item to the chosen set, within a limit that is no larger: the measure is the distance from the one to the
-- other. The invariant of the loop: the least of what is left of the part is the least of the whole. Each turn takes an item from the limit. Assumes
-- nothing.
use Rattle.std.proofs.Common.{◌-◌}
use Rattle.reasons.specs.Promises.{of_goal, Remaining}
use Rattle.reasons.proofs.+explore.Given as goal

abbrev pub decreases-explore : goal.decreases-explore
decreases-explore l = l.part.limit - l.part.chosen

abbrev pub invariant-loop-cut : goal.invariant-loop-cut
invariant-loop-cut l = of_goal Remaining l.goal l.initial.rest l.initial.least l.pool l.rest l.least

abbrev pub decreases-loop-cut : goal.decreases-loop-cut
decreases-loop-cut l = l.rest.limit
