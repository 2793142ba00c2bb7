-- The step of the loop, by the laws of the search. Assumes nothing.
use Rattle.sat.specs.Laws.Searches.{search_forced, search_less}
use Rattle.sat.proofs.search.Goals as goal

pub loop-m-smaller : goal.loop-m-smaller
loop-m-smaller c =
    search_less c.loop-m.invariant c.follow.ensures c.in-Err.is c.unset_of-left.ensures c.if-left-eq0.false c.lowest-v.ensures c.has.ensures
    c.assign-q.ensures

pub loop-m-preserved : goal.loop-m-preserved
loop-m-preserved c =
    search_forced c.loop-m.invariant c.follow.ensures c.in-Err.is c.unset_of-left.ensures c.if-left-eq0.false c.lowest-v.ensures c.has.ensures
    c.assign-q.ensures
