-- `engine::propagate` meets its contract. Assumes nothing.
use Rattle.engine.proofs.AnswerLaws.{forced_found, none_found}
use Rattle.engine.proofs.propagate.Goals as goal

pub returns-in-Some : goal.returns-in-Some
returns-in-Some c = forced_found _ c.of_problem.ensures c.in-Some.is

pub returns-in-None : goal.returns-in-None
returns-in-None c = rw c.at.ensures (none_found _ c.of_problem.ensures c.in-None.is)
