-- `book::rules::read_window_from` meets its contract. Assumes nothing.
use Rattle.std.proofs.Common.{refl, ap, ◌+◌, rules}
use Rattle.dates.specs.declared.Applies.TheVariants as Applies
use Rattle.records.specs.Format.{window_at}
use Rattle.records.specs.Promises.{what}
use Rattle.records.proofs.CheckLaws.{residual_err}
use Rattle.records.proofs.ReadLaws.{at_place, value_answer, begin_err, begin_ok}
use Rattle.book.proofs.WindowLaws.{window_absent, window_due, window_said}
use Rattle.book.proofs.rules.read_window_from.Goals as goal

pub returns-then-not-begins : goal.returns-then-not-begins
returns-then-not-begins c = value_answer (λ applies next. (applies, next)) (window_absent _ _ c.begins.ensures c.if-not-begins.true) refl

pub returns-in_err-window : goal.returns-in_err-window
returns-in_err-window c =
    let e = at_place what window_at c.args.s.now c.args.from c.read_window.ensures in
    residual_err _ c.from_residual.ensures.1 (rw (window_due _ _ c.begins.ensures c.if-not-begins.false)
    (begin_err _ _ e _ c.in_err-window.ensures.cases (λ kind p. search rules) _ _))

pub returns : goal.returns
returns c =
    let e = at_place what window_at c.args.s.now c.args.from c.read_window.ensures in
    let p = begin_ok _ _ e c.in_ok-window.ensures.cases in
    value_answer (λ applies next. (applies, next)) (window_said _ _ c.begins.ensures c.if-not-begins.false p.2) (ap (λ w. (Applies.During w, c.args.from + 15)) p.3)
