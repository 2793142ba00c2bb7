-- `book::facts::read_facts` meets its contract. Assumes nothing.
use Rattle.std.proofs.Common.{refl, ap, ap₂, ◌∙◌, ◌+◌, arith, rules}
use lib.ListN.{length-drop}
use Rattle.records.specs.Format.{fact_at, end_at, opened, EN}
use Rattle.records.specs.Promises.{what, nothing, masks}
use Rattle.records.proofs.CheckLaws.{residual_err}
use Rattle.records.proofs.LiteralLaws.{masks_none}
use Rattle.records.proofs.ReadLaws.{at_place, refused_answer, value_answer, begin_fails, begin_ok}
use Rattle.book.proofs.FactLaws.{handed, fact_whole, fact_refused, fact_more, end_refused, end_passed}
use Rattle.book.proofs.ManyLaws.{walked_none}
use Rattle.book.proofs.facts.read_facts.Goals as goal

pub loop-place-init : goal.loop-place-init
loop-place-init c =
    let e = c.default-set.ensures in
    walked_none refl (ap₂ (λ y n. record { yes = y; no = n }) e.0 e.1 ∙ masks_none) c.requires.from_in_bounds

pub returns-in_err-l : goal.returns-in_err-l
returns-in_err-l c =
    let e = at_place what (fact_at _ _) c.args.s.now c.loop-place.place c.read_fact.ensures in
    let f = begin_fails _ _ e _ c.in_err-l.ensures.cases (λ kind p. search rules) in
    residual_err _ c.from_residual.ensures.1 (refused_answer _ (fact_refused _ _ _ _ _ c.loop-place.invariant c.begins.ensures c.loop-place-test.true f.1) f.2)

pub with-set-requires : goal.with-set-requires
with-set-requires c =
    let e = at_place what (fact_at _ _) c.args.s.now c.loop-place.place c.read_fact.ensures in
    let p = begin_ok _ _ e c.in_ok-l.ensures.cases in
    let w = rw (← p.3) at ((fact_whole _ _ _ p.2).1.good) in
    let same = handed c.in_ok-l.l (omega (arith, w.upto, c.requires.u_le_width)) in
    rw same (record { l_nonzero = omega (arith, w.above); l_bound = omega (arith, w.upto, c.requires.u_le_width) })

pub loop-place-smaller : goal.loop-place-smaller
loop-place-smaller c =
    let e = at_place what (fact_at _ _) c.args.s.now c.loop-place.place c.read_fact.ensures in
    let p = begin_ok _ _ e c.in_ok-l.ensures.cases in
    let w = fact_whole _ _ _ p.2 in
    omega (arith, w.0, w.1.within, length-drop c.loop-place.place c.args.s.now)

pub loop-place-preserved : goal.loop-place-preserved
loop-place-preserved c =
    let e = at_place what (fact_at _ _) c.args.s.now c.loop-place.place c.read_fact.ensures in
    let p = begin_ok _ _ e c.in_ok-l.ensures.cases in
    let w = rw (← p.3) at ((fact_whole _ _ _ p.2).1.good) in
    let same = handed c.in_ok-l.l (omega (arith, w.upto, c.requires.u_le_width)) in
    fact_more _ _ _ _ _ c.loop-place.invariant c.begins.ensures c.loop-place-test.true p.2 (rw (same ∙ p.3) at c.with-set.ensures) (rw (same ∙ p.3) at c.variable-last.ensures)

pub returns-in_err-map_err : goal.returns-in_err-map_err
unfolding end_at
returns-in_err-map_err c =
    let e = at_place nothing (opened EN 2) c.args.s.now c.loop-place.place c.opened.ensures in
    let f = begin_fails _ _ e _ c.in_err-map_err.ensures.cases (λ kind p. search rules) in
    residual_err _ c.from_residual-in_err-map_err.ensures.1
    (refused_answer _ (end_refused _ _ _ _ _ c.loop-place.invariant c.begins.ensures c.loop-place-test.false f.1) f.2)

pub returns : goal.returns
unfolding end_at
returns c =
    let e = at_place nothing (opened EN 2) c.args.s.now c.loop-place.place c.opened.ensures in
    let p = begin_ok _ _ e c.in_ok-map_err.ensures.cases in
    value_answer (λ ls next. (masks ls, next)) (end_passed _ _ _ _ _ c.loop-place.invariant c.begins.ensures c.loop-place-test.false p.2)
    (ap (λ set. (set, c.loop-place.place + 2)) c.loop-place.invariant.so_far.kept)
