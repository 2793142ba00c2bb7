-- `book::read` meets its contract. Assumes nothing.
use Rattle.std.proofs.Common.{arith, rules}
use Rattle.records.specs.Format.{read_book}
use Rattle.records.specs.Promises.{counts}
use Rattle.records.proofs.CheckLaws.{residual_err}
use Rattle.records.proofs.ReadLaws.{begin_err}
use Rattle.book.specs.Answer.{book_answer}
use Rattle.book.proofs.BookLaws.{header_says, refused_at_cost, rules_within, refused_at_rule, facts_within, refused_at_fact, refused_at_end, accepted}
use Rattle.book.proofs.read.Goals as goal

pub returns-in_err-counts : goal.returns-in_err-counts
unfolding read_book book_answer
returns-in_err-counts c =
    residual_err _ c.from_residual.ensures.1 (begin_err counts _ c.read_header.ensures _ c.in_err-counts.ensures.cases (λ kind p. search rules) _ _)

pub read_costs_from-requires : goal.read_costs_from-requires
read_costs_from-requires c =
    let h = header_says _ c.read_header.ensures c.in_ok-counts.ensures.cases in
    record { choices_le_max_choices = h.few.few_choices; from_in_bounds = h.within }

pub returns-in_err-costs : goal.returns-in_err-costs
returns-in_err-costs c =
    let h = header_says _ c.read_header.ensures c.in_ok-counts.ensures.cases in
    residual_err _ c.from_residual-in_err-costs.ensures.1 (refused_at_cost _ h c.in_err-costs.ensures)

pub read_rules-requires : goal.read_rules-requires
read_rules-requires c =
    let h = header_says _ c.read_header.ensures c.in_ok-counts.ensures.cases in
    record { n_le_width = omega (arith, h.few.few_variables); count_le_max_rules = h.few.few_rules; from_in_bounds = rules_within _ h c.in_ok-costs.ensures }

pub returns-in_err-rules : goal.returns-in_err-rules
returns-in_err-rules c =
    let h = header_says _ c.read_header.ensures c.in_ok-counts.ensures.cases in
    residual_err _ c.from_residual-in_err-rules.ensures.1 (refused_at_rule _ h c.in_ok-costs.ensures c.in_err-rules.ensures)

pub read_facts-requires : goal.read_facts-requires
read_facts-requires c =
    let h = header_says _ c.read_header.ensures c.in_ok-counts.ensures.cases in
    record { u_le_width = omega (arith, h.few.few_choices); from_in_bounds = facts_within _ h c.in_ok-costs.ensures c.in_ok-rules.ensures }

pub returns-in_err-facts : goal.returns-in_err-facts
returns-in_err-facts c =
    let h = header_says _ c.read_header.ensures c.in_ok-counts.ensures.cases in
    residual_err _ c.from_residual-in_err-facts.ensures.1
    (refused_at_fact _ h c.in_ok-costs.ensures c.in_ok-rules.ensures c.in_err-facts.ensures)

pub returns-then-end-s : goal.returns-then-end-s
returns-then-end-s c =
    let h = header_says _ c.read_header.ensures c.in_ok-counts.ensures.cases in
    refused_at_end _ h c.in_ok-costs.ensures c.in_ok-rules.ensures c.in_ok-facts.ensures c.if-end-s.true c.at.ensures

pub returns : goal.returns
returns c =
    let h = header_says _ c.read_header.ensures c.in_ok-counts.ensures.cases in
    accepted _ h c.in_ok-costs.ensures c.in_ok-rules.ensures c.in_ok-facts.ensures c.if-end-s.false
