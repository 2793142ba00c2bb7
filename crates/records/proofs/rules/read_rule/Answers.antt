-- `records::rules::read_rule` meets its contract where the beginning of the record fails. Assumes nothing.
use mathlib.Core.Path.{refl}
use Rattle.records.specs.Format.{rule_at, rule_values}
use Rattle.records.specs.Promises.{masks_and_length}
use Rattle.records.proofs.CheckLaws.{residual_err, opened_err}
use Rattle.records.proofs.rules.read_rule.Goals as goal

pub returns-in_err-opened : goal.returns-in_err-opened
unfolding rule_at
returns-in_err-opened c = residual_err _ c.from_residual.ensures.1 (opened_err _ _ _ masks_and_length (rule_values _ _) c.in_err-opened.ensures refl)
