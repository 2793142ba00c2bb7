-- `c_interface::pass_rules` meets its contract. Assumes nothing.
use Rattle.std.proofs.Common.{refl}
use Rattle.c_interface.specs.Seen.{window_row}
use Rattle.c_interface.proofs.RowLaws.{rows_none, rows_more, rows_all}
use Rattle.c_interface.proofs.pass_rules.Goals as goal

pub loop-i-init : goal.loop-i-init
unfolding window_row
loop-i-init c = record { yes = rows_none _ _ _ _; no = rows_none _ _ _ _; windows = rows_none _ _ _ _ }

pub loop-i-preserved : goal.loop-i-preserved
loop-i-preserved c = record {
  yes = rows_more _ _ _ _ _ c.loop-i.invariant.yes c.loop-i-test.true c.requires refl;
  no = rows_more _ _ _ _ _ c.loop-i.invariant.no c.loop-i-test.true c.requires refl;
  windows = rows_more _ _ _ _ _ c.loop-i.invariant.windows c.loop-i-test.true c.requires c.window_row.ensures;
}

pub returns : goal.returns
returns c = record {
  yes_are = rows_all _ _ _ _ c.loop-i.invariant.yes c.loop-i-test.false;
  no_are = rows_all _ _ _ _ c.loop-i.invariant.no c.loop-i-test.false;
  windows_are = rows_all _ _ _ _ c.loop-i.invariant.windows c.loop-i-test.false;
}
