-- `propagation::pass::shortest` meets its contract. The loop's invariant: there are variables to try in hand. Assumes nothing.
use Rattle.propagation.specs.Promises.{yes_masks, no_masks, ToTry}
use Rattle.propagation.proofs.pass.shortest.Given as goal

abbrev pub invariant-loop-rule : goal.invariant-loop-rule
invariant-loop-rule l = ToTry (yes_masks l.rules) (no_masks l.rules) l.p.yes l.p.no l.pick
