-- `problem::rules_in_force` meets its contract. The invariant: the rules gone over that are in force. Assumes nothing.
use Rattle.problem.proofs.InForceLaws.{Picked}
use Rattle.problem.proofs.rules_in_force.Given as goal

abbrev pub invariant-loop-rule : goal.invariant-loop-rule
invariant-loop-rule l = Picked l.moment l.b.rules l.rules l.rule-index
