-- `sat::search` meets its contract. The loop's invariant: the partial filling has the models that it had. The measure is how many variables are
-- not set. Assumes nothing.
use Rattle.propagation.specs.Promises.{yes_masks, no_masks}
use Rattle.sat.specs.Promises.{unset, Keeps}
use Rattle.sat.proofs.search.Given as goal

abbrev pub invariant-loop-m : goal.invariant-loop-m
invariant-loop-m l = Keeps l.f.variables (yes_masks l.f.rules.now) (no_masks l.f.rules.now) l.initial.q.yes l.initial.q.no l.q.yes l.q.no

abbrev pub decreases-loop-m : goal.decreases-loop-m
decreases-loop-m l = unset l.f.variables l.q.yes l.q.no
