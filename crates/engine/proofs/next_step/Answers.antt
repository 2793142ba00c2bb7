-- `engine::next_step` meets its contract. Assumes nothing.
use Rattle.std.proofs.lemmas.Result.{err_from_is_err_and}
use Rattle.engine.proofs.ProblemLaws.{taken, not_taken, taken_steppable}
use Rattle.engine.proofs.StepLaws.{step_refused, step_taken}
use Rattle.engine.proofs.next_step.Goals as goal

pub step_from-requires : goal.step_from-requires
step_from-requires c = taken_steppable (taken c.in_ok-p.ensures)

pub returns-in_err-p : goal.returns-in_err-p
returns-in_err-p c =
    let e = err_from_is_err_and c.from_residual.result c.from_residual.ensures.1 in
    rw (e.1, e.2) (step_refused (not_taken c.in_err-p.ensures))

pub returns : goal.returns
returns c = step_taken (taken c.in_ok-p.ensures) c.step_from.ensures
