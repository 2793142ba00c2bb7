-- The steps of `explore`, by the laws of the search. Assumes nothing.
use Rattle.reasons.specs.Laws.Explores.{remaining_done, split_pooled, split_fits, split_with, split_with_less, split_without, split_less}
use Rattle.reasons.proofs.+explore.Goals as goal

pub returns : goal.returns
returns t c = remaining_done c.loop-cut.invariant (rw c.in_default.is at c.next_cut.ensures)

pub with_item-with-requires : goal.with_item-with-requires
with_item-with-requires t c = split_fits c.loop-cut.invariant c.in-Some.ensures

pub explore-least-requires : goal.explore-least-requires
explore-least-requires t c = (
  split_with_less c.loop-cut.invariant c.in-Some.ensures c.with_item-with.ensures c.decreases,
  (split_with c.loop-cut.invariant c.in-Some.ensures c.with_item-with.ensures, split_pooled c.loop-cut.invariant c.in-Some.ensures),
)

pub loop-cut-smaller : goal.loop-cut-smaller
loop-cut-smaller t c = split_less c.loop-cut.invariant c.in-Some.ensures c.remove.ensures

pub loop-cut-preserved : goal.loop-cut-preserved
loop-cut-preserved t c =
    split_without c.loop-cut.invariant c.in-Some.ensures c.with_item-with.ensures c.explore-least.ensures c.remove.ensures
