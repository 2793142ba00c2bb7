-- `c_interface::pass_rules` meets its contract. The invariant: the rows of the first i rules stand in each array. Assumes nothing.
use Rattle.dates.specs.declared.Applies.TheVariants as Applies
use Rattle.records.specs.Limits.{max_rules}
use Rattle.records.specs.declared.Rule.{Rule}
use Rattle.c_interface.specs.Seen.{window_row}
use Rattle.c_interface.proofs.RowLaws.{Rows}
use Rattle.c_interface.proofs.pass_rules.Given as goal

abbrev pub invariant-loop-i : goal.invariant-loop-i
invariant-loop-i l = record {
  yes : Rows 0 (λ (r : Rule). r.literals.yes) max_rules l.rules l.yes l.i;
  no : Rows 0 (λ (r : Rule). r.literals.no) max_rules l.rules l.no l.i;
  windows : Rows (window_row Applies.Always) (λ (r : Rule). window_row r.applies) max_rules l.rules l.windows l.i;
}
