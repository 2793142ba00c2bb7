-- `witnesses::bound::charge` meets its contract. Assumes nothing.
use Rattle.std.proofs.Common.{rules}
use Rattle.witnesses.specs.Laws.Bounds.{charge_fits}
use Rattle.witnesses.proofs.bound.charge.Goals as goal

pub overflow_add-result : goal.overflow_add-result
overflow_add-result c = search (rules, charge_fits)
