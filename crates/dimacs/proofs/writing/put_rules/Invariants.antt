-- `dimacs::writing::put_rules` meets its contract. The invariant: the first i RL are put. Assumes nothing.
use Rattle.dimacs.proofs.WritingLaws.{RulesPut}
use Rattle.dimacs.proofs.writing.put_rules.Given as goal

abbrev pub invariant-loop-set : goal.invariant-loop-set
invariant-loop-set l = RulesPut l.initial.out l.at l.rules l.out l.next l.set-index
