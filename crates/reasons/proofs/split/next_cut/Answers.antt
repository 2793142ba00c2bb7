-- `reasons::split::next_cut` meets its contract. Assumes nothing.
use Rattle.reasons.specs.Laws.Splits.{cut_limit, cut_found}
use Rattle.reasons.proofs.split.next_cut.Goals as goal

pub cut_at-requires : goal.cut_at-requires
cut_at-requires c = cut_limit (rw c.in_ok-open.was at c.look_with_pool.ensures) c.requires.exploring

pub cut_at-requires-2 : goal.cut_at-requires-2
cut_at-requires-2 c = cut_limit (rw c.in_ok-open.was at c.look_with_pool.ensures) c.requires.exploring

pub returns-in_default-ask : goal.returns-in_default-ask
returns-in_default-ask c = cut_found (rw c.in_ok-open.was at c.look_with_pool.ensures) c.requires.exploring c.ask.ensures c.in_default-ask.is
