-- `dimacs::head::read_counts` meets its contract. Assumes nothing.
use Rattle.std.proofs.Common.{refl}
use Rattle.records.specs.Promises.{read_answer}
use Rattle.records.proofs.RowLaws.{stopped, passed_ok}
use Rattle.dimacs.specs.Text.{counts_from, count_from, limited}
use Rattle.dimacs.specs.Promises.{head_read}
use Rattle.dimacs.proofs.ReadLaws.{number_ok}
use Rattle.dimacs.proofs.head.read_counts.Goals as goal

pub returns-in_err-variables : goal.returns-in_err-variables
unfolding counts_from count_from limited
returns-in_err-variables c = stopped _ _ head_read c.in_err-variables.ensures c.from_residual.ensures.1 _

pub returns-in_err-place : goal.returns-in_err-place
unfolding counts_from count_from limited
returns-in_err-place c = rw (number_ok _ c.in_ok-variables.ensures) (stopped _ _ head_read c.in_err-place.ensures c.from_residual-in_err-place.ensures.1 _)

pub returns-in_err-clauses : goal.returns-in_err-clauses
unfolding counts_from count_from limited
returns-in_err-clauses c =
    rw (number_ok _ c.in_ok-variables.ensures, passed_ok _ c.in_ok-place.ensures) (stopped _ _ head_read c.in_err-clauses.ensures c.from_residual-in_err-clauses.ensures.1 _)

pub returns : goal.returns
unfolding counts_from count_from limited read_answer
returns c = rw (number_ok _ c.in_ok-variables.ensures, passed_ok _ c.in_ok-place.ensures, number_ok _ c.in_ok-clauses.ensures) refl
