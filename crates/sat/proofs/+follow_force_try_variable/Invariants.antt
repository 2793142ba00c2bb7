-- The cycle of calls {follow, force, try_variable}. With k variables not set the measure is 3k + 2 for `follow`, 3k + 1 for
-- `try_variable` and 3k for `force`: a call sets a variable, or goes from `follow` to the others or from `try_variable` to
-- `force`. Assumes nothing.
use Rattle.std.proofs.Common.{◌+◌, ◌*◌}
use Rattle.sat.specs.Promises.{unset}
use Rattle.sat.proofs.+follow_force_try_variable.Given as goal

abbrev pub decreases-follow : goal.decreases-follow
decreases-follow l = 3 * unset l.f.variables l.p.yes l.p.no + 2

abbrev pub decreases-force : goal.decreases-force
decreases-force l = 3 * unset l.f.variables l.p.yes l.p.no

abbrev pub decreases-try_variable : goal.decreases-try_variable
decreases-try_variable l = 3 * unset l.f.variables l.p.yes l.p.no + 1
