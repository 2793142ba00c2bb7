-- `book::rules::read_rules` meets its contract. Assumes nothing.
use Rattle.std.proofs.Common.{ap, ◌∙◌, ◌+◌, [], ◌∷◌}
use lib.ListN.{length-append}
use Rattle.records.specs.Format.{rule_from}
use Rattle.records.proofs.CheckLaws.{residual_err}
use Rattle.records.proofs.ReadLaws.{refused_answer, value_answer, then_fails, then_ok}
use Rattle.book.specs.Answer.{kept_rule, kept_rules}
use Rattle.book.proofs.ManyLaws.{many_more, many_refused, many_all}
use Rattle.book.proofs.RuleLaws.{rule_said, rules_more}
use Rattle.book.proofs.rules.read_rules.Goals as goal

pub returns-in_err-rule : goal.returns-in_err-rule
returns-in_err-rule c =
    let f = then_fails (λ r next. (kept_rule r, next)) _ c.in_err-rule.ensures in
    residual_err _ c.from_residual.ensures.1 (refused_answer _ (many_refused (λ i. rule_from _ _) _ _ _ _ _ c.loop.invariant c.loop-test.true f.2) f.3)

pub loop-preserved : goal.loop-preserved
loop-preserved c =
    let p = then_ok (λ r next. (kept_rule r, next)) _ c.in_ok-rule.ensures in
    let g = c.loop.invariant in
    let read = rule_said _ _ _ g.within p.2 p.3 in
    many_more (λ i. rule_from _ _) _ _ _ _ _ g c.loop-test.true read
    (λ done k. (length-append done (read.item ∷ []) ∙ ap (λ m. m + 1) k.0, rules_more done read.item k.1 c.push.ensures read.holds))

pub returns : goal.returns
returns c =
    let g = c.loop.invariant in
    value_answer (λ rs next. (kept_rules rs, next)) (many_all (λ i. rule_from _ _) _ _ _ _ _ g c.loop-test.false) (ap (λ rules. (rules, c.loop.place)) g.so_far.kept.1)
