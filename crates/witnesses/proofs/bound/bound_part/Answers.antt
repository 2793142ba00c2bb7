-- `witnesses::bound::bound_part` meets its contract. The invariant: the bound after the witnesses gone over. Assumes nothing.
use Rattle.std.proofs.Common.{rules, refl, arith}
use Rattle.witnesses.specs.Laws.Bounds.{shown_opens, charging_none, charging_laws}
use Rattle.witnesses.proofs.bound.bound_part.Goals as goal

pub returns-then-among-eq0 : goal.returns-then-among-eq0
returns-then-among-eq0 c = charging_none c.loop-model.invariant c.loop-model-test.true (shown_opens c.open_witness.ensures c.in-Some.is)
    c.if-among-eq0.true
    (omega arith) refl

pub loop-model-init : goal.loop-model-init
loop-model-init c = search (rules, charging_laws)

pub charge-b-requires : goal.charge-b-requires
charge-b-requires c = search (rules, charging_laws)

pub loop-model-preserved : goal.loop-model-preserved
loop-model-preserved c = search (rules, charging_laws)
