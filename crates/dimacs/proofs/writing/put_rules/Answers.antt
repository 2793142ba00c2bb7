-- `dimacs::writing::put_rules` meets its contract: there is room for the next RL, and at the end all are put. Assumes nothing.
use Rattle.dimacs.proofs.WritingLaws.{rule_room, rules_all}
use Rattle.dimacs.proofs.writing.put_rules.Goals as goal

pub put_rule-next-requires : goal.put_rule-next-requires
put_rule-next-requires c = rule_room _ _ _ c.loop-set.invariant c.loop-set-test.true _ c.requires

pub returns : goal.returns
returns c = rules_all _ _ _ c.loop-set.invariant c.loop-set-test.false
