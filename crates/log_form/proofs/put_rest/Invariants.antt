-- `log_form::put_rest` meets its contract. The invariant, at each turn: the buffer holds the log's first i bytes and then its old contents. Assumes nothing.
use Rattle.log_form.specs.Laws.Restarts.{Writing}
use Rattle.log_form.proofs.put_rest.Given as goal

abbrev pub invariant-loop-i : goal.invariant-loop-i
invariant-loop-i l = Writing l.log l.initial.buffer l.buffer l.i
