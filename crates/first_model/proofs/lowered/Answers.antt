-- `first_model::lowered` meets its contract: what `search` is asked, and the model that is kept. Assumes nothing.
use Rattle.std.proofs.Common.{rules}
use Rattle.first_model.proofs.Laws.Searches.{lower_posed, lower_kept}
use Rattle.first_model.proofs.lowered.Goals as goal

pub search-requires : goal.search-requires
search-requires c = search (rules, lower_posed)

pub returns : goal.returns
returns c = lower_kept c.requires.up_to c.fixed.ensures c.assign-q.ensures c.search.ensures c.unwrap_or.ensures
