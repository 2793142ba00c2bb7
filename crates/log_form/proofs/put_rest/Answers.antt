-- `log_form::put_rest` meets its contract: at the end the whole log stands in the buffer. Assumes nothing.
use Rattle.log_form.specs.Laws.Restarts.{writing_whole}
use Rattle.log_form.proofs.put_rest.Goals as goal

pub returns : goal.returns
returns c = writing_whole c.loop-i.invariant c.loop-i-test.false
