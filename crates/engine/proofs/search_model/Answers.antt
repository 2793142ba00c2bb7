-- `engine::search_model` meets its contract. Assumes nothing.
use Rattle.std.proofs.Common.{rules}
use Rattle.engine.proofs.AnswerLaws.{model_found}
use Rattle.engine.proofs.search_model.Goals as goal

pub search-requires : goal.search-requires
search-requires c = search rules

pub returns : goal.returns
returns c =
    model_found c.args.p.now _ (rw (c.formula.ensures.variables, c.formula.ensures.rules) at c.search.ensures) c.at.ensures c.ok_or.ensures.value
