-- `MaskedRules::new` meets its contract. Assumes nothing.
use Rattle.std.proofs.Common.{arith}
use Rattle.records.specs.Laws.Rows.{rows_blank}
use Rattle.problem.proofs.masked_rules.MaskedRules.new.Goals as goal

pub invariant_of-result : goal.invariant_of-result
invariant_of-result c = rows_blank (omega arith)
