-- The step of the loop past a rule that is no conflict and forces nothing. Assumes nothing.
use Rattle.std.proofs.Common.{arith}
use Rattle.propagation.specs.Laws.Scans.{rule_there, range_quiet}
use Rattle.propagation.proofs.pass.scan_range.Goals as goal

pub loop-i-preserved : goal.loop-i-preserved
loop-i-preserved c = range_quiet c.loop-i.invariant (rule_there _ c.loop-i.i _ (omega arith)) c.look_at.ensures c.in-Quiet.is c.union-all.ensures
