-- `dimacs::clauses::read_clause` meets its contract. Assumes nothing.
use Rattle.std.proofs.Common.{refl, sym}
use Rattle.records.specs.Promises.{read_answer}
use Rattle.records.proofs.RowLaws.{stopped}
use Rattle.dimacs.specs.Text.{clause_from}
use Rattle.dimacs.specs.Promises.{clause_read}
use Rattle.dimacs.proofs.ClauseLaws.{judged_large, judged_fine}
use Rattle.dimacs.proofs.clauses.read_clause.Goals as goal

pub returns-in_err-clause : goal.returns-in_err-clause
unfolding clause_from
returns-in_err-clause c = stopped _ _ clause_read c.in_err-clause.ensures c.from_residual.ensures.1 _

pub returns-then-not-is_allowed : goal.returns-then-not-is_allowed
unfolding read_answer
returns-then-not-is_allowed c =
    rw (judged_large _ _ _ c.in_ok-clause.ensures c.is_allowed.ensures c.if-not-is_allowed.true, c.at.ensures, c.run_end.ensures) refl

pub returns : goal.returns
returns c = sym (judged_fine _ _ _ c.in_ok-clause.ensures c.is_allowed.ensures c.if-not-is_allowed.false)
