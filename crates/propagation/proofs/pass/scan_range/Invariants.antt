-- `propagation::pass::scan_range` meets its contract. The loop's invariant says what the rules gone over leave open. Assumes nothing.
use Rattle.propagation.specs.Promises.{yes_masks, no_masks, LeftBetween}
use Rattle.propagation.proofs.pass.scan_range.Given as goal

abbrev pub invariant-loop-i : goal.invariant-loop-i
invariant-loop-i l = LeftBetween l.start l.i (yes_masks l.rules) (no_masks l.rules) l.p.yes l.p.no l.pending l.all
