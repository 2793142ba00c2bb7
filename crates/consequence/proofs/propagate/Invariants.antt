-- `consequence::propagate` meets its contract. The invariant: the models found so far, and that what is kept is what they have in common.
-- Assumes nothing.
use Rattle.propagation.specs.Promises.{yes_masks, no_masks}
use Rattle.consequence.specs.Algorithm2.{size}
use Rattle.consequence.proofs.NarrowLaws.{Round}
use Rattle.consequence.proofs.propagate.Given as goal

abbrev pub invariant-loop-m : goal.invariant-loop-m
invariant-loop-m l = Round l.f.variables (yes_masks l.f.rules.now) (no_masks l.f.rules.now) l.choices l.p.yes l.p.no l.models l.kept

abbrev pub decreases-loop-m : goal.decreases-loop-m
decreases-loop-m l = size l.kept
