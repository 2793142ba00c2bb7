-- `step::learn` meets its contract: the reasons have a model. Assumes nothing.
use Rattle.step.proofs.Steps.{learn_absurd}
use Rattle.step.proofs.learn.Goals as goal

pub returns-in-None : goal.returns-in-None
returns-in-None c = learn_absurd c.requires (rw (c.formula.ensures.variables, c.formula.ensures.rules) at c.propagate.ensures) c.in-None.is
