-- The text of a log, record by record. Assumes nothing.
use Rattle.std.proofs.Common.{◌-◌, length}
use Rattle.printing.proofs.WalkLaws.{Walking}
use Rattle.printing.proofs.lines.put_log.Given as goal

-- The loop's invariant: the log is put up to the byte `from`.
abbrev pub invariant-loop-out : goal.invariant-loop-out
invariant-loop-out l = Walking l.initial.out l.log l.out l.at l.from l.number

abbrev pub decreases-loop-out : goal.decreases-loop-out
decreases-loop-out l = length l.log - l.from
