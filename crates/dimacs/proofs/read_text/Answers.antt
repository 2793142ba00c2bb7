-- `dimacs::read_text` meets its contract. Assumes nothing.
use Rattle.records.proofs.RowLaws.{stopped}
use Rattle.dimacs.specs.Text.{formula_of}
use Rattle.dimacs.specs.Promises.{formula_read}
use Rattle.dimacs.proofs.Good.{head_good}
use Rattle.dimacs.proofs.ReadLaws.{head_ok}
use Rattle.dimacs.proofs.read_text.Goals as goal

pub returns-in_err-head : goal.returns-in_err-head
unfolding formula_of
returns-in_err-head c = stopped _ _ formula_read c.in_err-head.ensures c.from_residual.ensures.1 _

pub read_body-requires : goal.read_body-requires
read_body-requires c =
    let good = head_good _ (head_ok _ c.in_ok-head.ensures) in
    record { variables_le_max_variables = good.few_variables; count_le_max_rules = good.few_clauses }

pub returns : goal.returns
unfolding formula_of
returns c = rw (head_ok _ c.in_ok-head.ensures) c.read_body.ensures
