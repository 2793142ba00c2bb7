-- `witnesses::question::against` meets its contract. Assumes nothing.
use Rattle.witnesses.specs.Laws.Questions.{against_said}
use Rattle.witnesses.proofs.question.against.Goals as goal

pub returns : goal.returns
returns c = against_said c.assign.ensures c.intersection.ensures c.intersection-2.ensures
