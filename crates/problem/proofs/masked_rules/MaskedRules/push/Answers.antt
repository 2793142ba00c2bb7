-- `MaskedRules::push` meets its contract. Assumes nothing.
use Rattle.records.specs.Laws.Rows.{row_free, rows_more}
use Rattle.problem.proofs.masked_rules.MaskedRules.push.Goals as goal

pub invariant_of-self : goal.invariant_of-self
invariant_of-self c = rows_more c.self.invariant _ (row_free c.self.invariant c.self.view_is c.requires)
