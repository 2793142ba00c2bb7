-- `first_model::lowest` meets its contract. The invariant: the model is the first as far as the variables before `v` go. Assumes nothing.
use Rattle.std.proofs.Common.{◌≤◌}
use Rattle.propagation.specs.Promises.{yes_masks, no_masks}
use Rattle.first_model.specs.Promises.{FirstUpTo}
use Rattle.first_model.proofs.lowest.Given as goal

abbrev pub invariant-loop-v : goal.invariant-loop-v
invariant-loop-v l = (l.v ≤ l.f.variables) × FirstUpTo l.f.variables (yes_masks l.f.rules.now) (no_masks l.f.rules.now) l.p.yes l.p.no l.v l.first
