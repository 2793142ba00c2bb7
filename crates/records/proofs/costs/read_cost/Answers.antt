-- `records::costs::read_cost` meets its contract where the beginning of the record fails. Assumes nothing.
use mathlib.Core.Path.{refl}
use Rattle.records.specs.Format.{cost_at, cost_values}
use Rattle.records.specs.Promises.{row}
use Rattle.records.proofs.CheckLaws.{residual_err, opened_err}
use Rattle.records.proofs.costs.read_cost.Goals as goal

pub returns-in_err-opened : goal.returns-in_err-opened
unfolding cost_at
returns-in_err-opened c = residual_err _ c.from_residual.ensures.1 (opened_err _ _ _ (λ c len. row c) (cost_values _ _) c.in_err-opened.ensures refl)
