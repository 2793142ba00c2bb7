-- `book::rules::read_rule_from` meets its contract. Assumes nothing.
use Rattle.std.proofs.Common.{ap, ap₂, arith, rules}
use lib.ListN.{length-drop}
use Rattle.records.specs.Format.{rule_at, rule_from}
use Rattle.records.specs.Promises.{masks_and_length}
use Rattle.records.proofs.CheckLaws.{residual_err}
use Rattle.records.proofs.ReadLaws.{at_place, value_answer, begin_err, begin_ok, then_err, then_ok}
use Rattle.book.specs.Answer.{kept_rule}
use Rattle.book.proofs.RuleLaws.{rule_whole, rule_then}
use Rattle.book.proofs.rules.read_rule_from.Goals as goal

pub returns-in_err-rule : goal.returns-in_err-rule
unfolding rule_from
returns-in_err-rule c =
    let e = at_place masks_and_length (rule_at _) c.args.s.now c.args.from c.read_rule.ensures in
    residual_err _ c.from_residual.ensures.1 (begin_err _ _ e _ c.in_err-rule.ensures.cases (λ kind p. search rules) _ _)

-- the place after the rule is one of the bytes
pub overflow_add-from : goal.overflow_add-from
overflow_add-from c =
    let e = at_place masks_and_length (rule_at _) c.args.s.now c.args.from c.read_rule.ensures in
    let p = begin_ok _ _ e c.in_ok-rule.ensures.cases in
    omega (arith, (rule_whole _ _ p.2).1.within, c.requires.from_in_bounds, length-drop c.args.from c.args.s.now, ap (λ k. k.len) p.3)

pub read_window_from-requires : goal.read_window_from-requires
read_window_from-requires c =
    let e = at_place masks_and_length (rule_at _) c.args.s.now c.args.from c.read_rule.ensures in
    let p = begin_ok _ _ e c.in_ok-rule.ensures.cases in
    omega (arith, (rule_whole _ _ p.2).1.within, c.requires.from_in_bounds, length-drop c.args.from c.args.s.now, ap (λ k. k.len) p.3)

pub returns-in_err-applies : goal.returns-in_err-applies
unfolding rule_from
returns-in_err-applies c =
    let e = at_place masks_and_length (rule_at _) c.args.s.now c.args.from c.read_rule.ensures in
    let p = begin_ok _ _ e c.in_ok-rule.ensures.cases in
    residual_err _ c.from_residual-in_err-applies.ensures.1 (rw p.2 (then_err (λ applies next. (applies, next)) _ _ _ (rw p.3 at c.in_err-applies.ensures)))

pub returns : goal.returns
returns c =
    let e = at_place masks_and_length (rule_at _) c.args.s.now c.args.from c.read_rule.ensures in
    let p = begin_ok _ _ e c.in_ok-rule.ensures.cases in
    let q = then_ok (λ applies next. (applies, next)) _ (rw p.3 at c.in_ok-applies.ensures) in
    value_answer (λ r next. (kept_rule r, next)) (rule_then _ _ _ p.2 q.2) (ap₂ (λ k t. (record { literals = k.set; applies = t.0 }, t.1)) p.3 q.3)
