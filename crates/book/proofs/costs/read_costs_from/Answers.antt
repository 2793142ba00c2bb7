-- `book::costs::read_costs_from` meets its contract. Assumes nothing.
use Rattle.std.proofs.Common.{ap, arith, rules, ◌+◌}
use Rattle.records.specs.Format.{cost_at}
use Rattle.records.specs.Promises.{row}
use Rattle.records.proofs.CheckLaws.{residual_err}
use Rattle.records.proofs.ReadLaws.{at_place, refused_answer, value_answer, begin_fails, begin_ok}
use Rattle.book.specs.Answer.{table}
use Rattle.book.proofs.CostLaws.{cost_said, cost_refused}
use Rattle.book.proofs.ManyLaws.{walked_none, many_begun, many_more, many_refused, many_all}
use Rattle.book.proofs.PaddedLaws.{filled_none, filled_more}
use Rattle.book.proofs.costs.read_costs_from.Goals as goal

pub loop-i-init : goal.loop-i-init
loop-i-init c = walked_none (many_begun _ _ _) filled_none c.requires.from_in_bounds

pub returns-in_err-table : goal.returns-in_err-table
returns-in_err-table c =
    let e = at_place (λ k len. row k) (cost_at (c.loop-i.i + 1)) c.args.s.now c.loop-i.place c.read_cost.ensures in
    let f = begin_fails _ _ e _ c.in_err-table.ensures.cases (λ kind p. search rules) in
    residual_err _ c.from_residual.ensures.1 (refused_answer _ (many_refused _ _ _ _ _ _ c.loop-i.invariant c.loop-i-test.true (cost_refused _ _ _ f.1)) f.2)

pub loop-i-preserved : goal.loop-i-preserved
loop-i-preserved c =
    let e = at_place (λ k len. row k) (cost_at (c.loop-i.i + 1)) c.args.s.now c.loop-i.place c.read_cost.ensures in
    let p = begin_ok _ _ e c.in_ok-table.ensures.cases in
    let read = cost_said _ _ _ c.loop-i.invariant.within p.2 p.3 in
    let l = c.loop-i-test.true in
    many_more _ _ _ _ _ _ c.loop-i.invariant l read (λ done k. filled_more k (omega (arith, l, c.requires.choices_le_max_choices)) read.holds)

pub returns : goal.returns
unfolding table
returns c =
    let g = c.loop-i.invariant in
    value_answer (λ cs next. (table cs, next)) (many_all _ _ _ _ _ _ g c.loop-i-test.false) (ap (λ t. (t, c.loop-i.place)) g.so_far.kept.stored)
