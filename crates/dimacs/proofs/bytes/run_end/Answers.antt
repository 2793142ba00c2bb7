-- `dimacs::bytes::run_end` meets its contract. Assumes nothing.
use Rattle.std.proofs.Common.{ap, sym, ◌∙◌, ◌≡◌, ◌+◌, ◌-◌, drop, take, min, length, arith}
use Rattle.std.proofs.lemmas.List.{drop_min, take_all, length-drop}
use Rattle.dimacs.specs.Text.{after, run}
use Rattle.dimacs.specs.Promises.{belongs}
use Rattle.dimacs.proofs.ByteLaws.{run_stops, run_goes, run_out, run_left}
use Rattle.dimacs.proofs.bytes.run_end.Goals as goal

pub returns-then-not-belongs : goal.returns-then-not-belongs
unfolding after
returns-then-not-belongs c =
    omega (
      arith,
      c.loop-b.invariant.0,
      c.loop-b.invariant.1,
      run_stops (belongs c.args.class) _ _ c.loop-b-test.true (sym c.belongs.ensures ∙ c.if-not-belongs.true),
      run_left (belongs c.args.class) c.args.s.now c.args.from c.min.ensures,
    )

pub loop-b-preserved : goal.loop-b-preserved
loop-b-preserved c = (
  omega (arith, c.loop-b.invariant.0),
  omega (
    arith,
    c.loop-b.invariant.1,
    run_goes (belongs c.args.class) _ _ c.loop-b-test.true (sym c.belongs.ensures ∙ c.if-not-belongs.false),
  ),
)

pub returns : goal.returns
unfolding after
returns c =
    omega (
      arith,
      c.loop-b.invariant.0,
      c.loop-b.invariant.1,
      run_out (belongs c.args.class) _ _ c.loop-b-test.false,
      run_left (belongs c.args.class) c.args.s.now c.args.from c.min.ensures,
    )
