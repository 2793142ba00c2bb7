-- `consequence::propagate` meets its contract. Assumes nothing.
use Rattle.consequence.proofs.NarrowLaws.{yes_below, no_below, round_last, round_less}
use Rattle.consequence.proofs.propagate.Goals as goal

pub deny-next-requires-clause-yes_bound : goal.deny-next-requires-clause-yes_bound
deny-next-requires-clause-yes_bound c = yes_below c.loop-m.invariant

pub deny-next-requires-clause-no_bound : goal.deny-next-requires-clause-no_bound
deny-next-requires-clause-no_bound c = no_below c.loop-m.invariant

pub returns-in_default : goal.returns-in_default
returns-in_default c = round_last c.requires.choices_bound c.loop-m.invariant c.deny-next.ensures c.search.ensures c.in_ok-m.was c.in_default.is

pub loop-m-smaller : goal.loop-m-smaller
loop-m-smaller c =
    round_less c.requires.choices_bound c.loop-m.invariant c.deny-next.ensures c.in-Some.is c.over_choices.ensures c.intersection-kept.ensures
