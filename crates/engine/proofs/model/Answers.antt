-- `engine::model` meets its contract. Assumes nothing.
use Rattle.std.proofs.lemmas.Result.{err_from_is_err_and}
use Rattle.engine.proofs.ProblemLaws.{taken, not_taken, taken_searchable}
use Rattle.engine.proofs.AnswerLaws.{model_refused, model_taken}
use Rattle.engine.proofs.model.Goals as goal

pub search_model-requires : goal.search_model-requires
search_model-requires c = taken_searchable (taken c.in_ok-p.ensures)

pub returns-in_err-p : goal.returns-in_err-p
returns-in_err-p c =
    let e = err_from_is_err_and c.from_residual.result c.from_residual.ensures.1 in
    rw (e.1, e.2) (model_refused (not_taken c.in_err-p.ensures))

pub returns : goal.returns
returns c = model_taken (taken c.in_ok-p.ensures) c.search_model.ensures
