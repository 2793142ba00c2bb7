-- `witnesses::bound::bound_part` meets its contract. The invariant: the bound after the witnesses gone over. Assumes nothing.
use Rattle.witnesses.specs.Promises.{Charging}
use Rattle.witnesses.proofs.bound.bound_part.Given as goal

abbrev pub invariant-loop-model : goal.invariant-loop-model
invariant-loop-model l = Charging l.initial.left l.aim l.part l.models l.left l.b
