-- What holds of every accepted book: its counts are within the limits, its rules and facts rise, its costs are costs.
-- Assumes nothing.
use mathlib.Core.Path.{◌≡◌, refl, ◌∙◌}
use mathlib.Core.Bool.{Bool, true, false, cond}
use mathlib.Core.List.{List, []}
use Prim.Native.Nat.{ℕ, zero, suc, ◌≤◌}
use native.Mathlib.Omega.{arith}
use lib.ListN.{length, drop}
use Rattle.literals.specs.Literal.{Literal, variable}
use Rattle.records.specs.Limits.{max_variables, max_choices, max_rules}
use Rattle.records.specs.Format.{value, with_item, begin, rising, Rule, OrderBook, cost_from, rule_from, fact_at, begins, FA, end_at, facts_from, read_book}
use Rattle.book.proofs.CostLaws.{GoodCost, cost_read}
use Rattle.book.proofs.FactLaws.{fact_whole}
use Rattle.records.proofs.LiteralLaws.{rising_none, rising_more}
use Rattle.book.proofs.PartLaws.{parts}
use Rattle.book.proofs.RuleLaws.{LiteralsRise, rule_read}
use Rattle.book.proofs.ValueLaws.{Each, many_good, begin_value, first_of}

-- ---- the facts

facts_good : (s : List ℕ) (u turns last place : ℕ) (ls : List Literal) (end : ℕ) → facts_from s u turns last place ≡ value ls end → rising u last ls ≡ true
unfolding facts_from
facts_good s u zero last place ls end e = let z : ◌≡◌ {A = ℕ} 0 1 = cc in absurd (omega arith)
facts_good s u (suc turns) last place ls end e = go (begins FA (drop place s)) e (λ v p rest. facts_good s u turns v p rest end)
  where
    go : (a : Bool)
        → cond a (begin place (fact_at u last (drop place s)) (λ l p. with_item l (facts_from s u turns (variable l) p)))
        (begin place (end_at (drop place s)) (λ e p. value [] p)) ≡ value ls end
        → ((v p : ℕ) (rest : List Literal) → facts_from s u turns v p ≡ value rest end → rising u v rest ≡ true) → rising u last ls ≡ true
    go false g ih =
        let f = begin_value place (end_at (drop place s)) _ g in
        let none : [] ≡ ls = cc in
        rw (← none) (rising_none u last)
    go true g ih =
        let f = first_of place (fact_at u last (drop place s)) (λ l p. facts_from s u turns (variable l) p) g in
        let w = (fact_whole u last (drop place s) f.said).1.good in
        rw (← f.all) (rising_more u last f.item f.rest refl w.above w.upto ∙ ih _ _ _ f.others)

-- ---- the book

pub record WellFormed (b : OrderBook) : Type 0 where
  pub few_variables : b.header.variables ≤ max_variables
  pub few_choices : b.header.choices ≤ max_choices
  pub choices_among : b.header.choices ≤ b.header.variables
  pub few_rules : b.header.rules ≤ max_rules
  pub cost_count : length b.costs ≡ b.header.choices
  pub costs_good : Each GoodCost b.costs
  pub rule_count : length b.rules ≡ b.header.rules
  pub rules_rise : Each (λ (r : Rule). LiteralsRise b.header.variables r.literals) b.rules
  pub facts_rise : LiteralsRise b.header.choices b.facts

pub well_formed : (s : List ℕ) {b : OrderBook} {end : ℕ} → read_book s ≡ value b end → WellFormed b
well_formed s {b} e =
    let p = parts s e in
    let h = p.header_good.good in
    let n = b.header.variables in
    let cs = many_good (cost_from s) s GoodCost (λ i place c next h e. (cost_read s i place h e).1) b.header.choices 1 5 p.header_good.within
    p.costs_read in
    let rs = many_good (λ i. rule_from s n) s (λ (r : Rule). LiteralsRise n r.literals) (λ i place r next h e. (rule_read s n place h e).1) b.header.rules
    1
    p.at_rules cs.within p.rules_read in
    record {
      few_variables = h.few_variables;
      few_choices = h.few_choices;
      choices_among = h.choices_among;
      few_rules = h.few_rules;
      facts_rise = record { rises = facts_good s b.header.choices _ 0 p.at_facts b.facts p.at_end p.facts_read };
      cost_count = cs.counted;
      costs_good = cs.each;
      rule_count = rs.counted;
      rules_rise = rs.each;
    }
