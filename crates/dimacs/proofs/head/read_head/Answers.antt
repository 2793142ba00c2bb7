-- `dimacs::head::read_head` meets its contract. Assumes nothing.
use Rattle.records.proofs.RowLaws.{stopped, passed_ok}
use Rattle.dimacs.specs.Text.{head_of}
use Rattle.dimacs.specs.Promises.{head_read}
use Rattle.dimacs.proofs.head.read_head.Goals as goal

pub returns-in_err-skipped : goal.returns-in_err-skipped
unfolding head_of
returns-in_err-skipped c = stopped _ _ head_read c.in_err-skipped.ensures c.from_residual.ensures.1 _

pub returns-in_err-marked : goal.returns-in_err-marked
unfolding head_of
returns-in_err-marked c = rw (passed_ok _ c.in_ok-skipped.ensures) (stopped _ _ head_read c.in_err-marked.ensures c.from_residual-in_err-marked.ensures.1 _)

pub returns-in_err-named : goal.returns-in_err-named
unfolding head_of
returns-in_err-named c =
    rw (passed_ok _ c.in_ok-skipped.ensures, passed_ok _ c.in_ok-marked.ensures) (stopped _ _ head_read c.in_err-named.ensures c.from_residual-in_err-named.ensures.1 _)

pub returns : goal.returns
unfolding head_of
returns c = rw (passed_ok _ c.in_ok-skipped.ensures, passed_ok _ c.in_ok-marked.ensures, passed_ok _ c.in_ok-named.ensures) c.read_counts.ensures
