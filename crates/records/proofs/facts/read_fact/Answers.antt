-- `records::facts::read_fact` meets its contract where the beginning of the record fails. Assumes nothing.
use mathlib.Core.Path.{refl}
use Rattle.records.specs.Format.{fact_at, fact_values}
use Rattle.records.specs.Promises.{what}
use Rattle.records.proofs.CheckLaws.{residual_err, opened_err}
use Rattle.records.proofs.facts.read_fact.Goals as goal

pub returns-in_err-opened : goal.returns-in_err-opened
unfolding fact_at
returns-in_err-opened c = residual_err _ c.from_residual.ensures.1 (opened_err _ _ _ what (fact_values _ _ _) c.in_err-opened.ensures refl)
