-- No book that is read has more bytes than the longest one: HD has 5, each CS 7, each RL 3 and at most a byte for each literal, each WN 15, each FA 3,
-- and EN 2.
-- Assumes nothing.
use mathlib.Core.Path.{◌≡◌}
use mathlib.Core.Bool.{Bool, true, false, cond}
use mathlib.Core.List.{List, []}
use Prim.Native.Nat.{ℕ, zero, suc, ◌+◌, ◌*◌, ◌-◌, ◌≤◌}
use native.Mathlib.Omega.{arith}
use lib.ListN.{length, drop}
use Rattle.literals.specs.Literal.{Literal, variable}
use Rattle.records.specs.Limits.{max_literals, window_size, max_book}
use Rattle.records.specs.Format.{Read, value, with_item, begin, FA, EN, OrderBook}
use Rattle.records.specs.Format.{cost_from, rule_from, fact_at, begins, end_at, many, facts_from, read_book}
use Rattle.records.proofs.CheckLaws.{opened_says}
use Rattle.book.proofs.CostLaws.{cost_read}
use Rattle.book.proofs.FactLaws.{fact_whole}
use Rattle.book.proofs.PartLaws.{parts}
use Rattle.book.proofs.RuleLaws.{rule_read}
use Rattle.book.proofs.ValueLaws.{GoodItem, begin_value, first_of, first_item}

-- Items of one kind, each of at most so many bytes.
module _ {A : Type 0} {P : A → Type 0} (item_from : ℕ → ℕ → Read A) (s : List ℕ) (most : ℕ)
    (each-short : (i place : ℕ) (a : A) (next : ℕ) → place ≤ length s → item_from i place ≡ value a next → (next ≤ place + most) × GoodItem P s a next) where
  many_short : (left i place : ℕ) {items : List A} {end : ℕ} → place ≤ length s → many item_from left i place ≡ value items end
      → (end ≤ place + left * most) × (end ≤ length s)
  unfolding many
  many_short zero i place {items} {end} h e = let here : place ≡ end = cc in (omega arith, omega arith)
  many_short (suc left) i place {items} {end} h e =
      let f = first_item (item_from i place) (λ a next. many item_from left (suc i) next) e in
      let w = each-short i place f.item f.next h f.said in
      let g = many_short left (suc i) f.next w.1.within f.others in
      (omega (arith, w.0, g.0), g.1)

-- The facts rise over the choices after `last`, so that there is at most one for each of these.
facts_short : (s : List ℕ) (u turns last place : ℕ) (ls : List Literal) (end : ℕ) → last ≤ u → facts_from s u turns last place ≡ value ls end
    → end ≤ place + (u - last) * 3 + 2
unfolding facts_from end_at
facts_short s u zero last place ls end h e = let z : ◌≡◌ {A = ℕ} 0 1 = cc in absurd (omega arith)
facts_short s u (suc turns) last place ls end h e = go (begins FA (drop place s)) e (λ v p rest. facts_short s u turns v p rest end)
  where
    go : (a : Bool)
        → cond a (begin place (fact_at u last (drop place s)) (λ l p. with_item l (facts_from s u turns (variable l) p)))
        (begin place (end_at (drop place s)) (λ e p. value [] p)) ≡ value ls end
        → ((v p : ℕ) (rest : List Literal) → v ≤ u → facts_from s u turns v p ≡ value rest end → end ≤ p + (u - v) * 3 + 2)
        → end ≤ place + (u - last) * 3 + 2
    go false g ih =
        let f = begin_value place (end_at (drop place s)) _ g in
        let here : place + f.1 ≡ end = cc in
        omega (arith, (opened_says EN 2 (drop place s) f.2).1, here)
    go true g ih =
        let f = first_of place (fact_at u last (drop place s)) (λ l p. facts_from s u turns (variable l) p) g in
        let w = fact_whole u last (drop place s) f.said in
        let more = ih _ _ _ w.1.good.upto f.others in
        omega (arith, w.0, w.1.good.above, w.1.good.upto, more)

-- A book that is read has at most `max_book` bytes.
pub read_short : (s : List ℕ) {b : OrderBook} {end : ℕ} → read_book s ≡ value b end → length s ≤ max_book
read_short s {b} e =
    let p = parts s e in
    let h = p.header_good.good in
    let u = b.header.choices in
    let r = b.header.rules in
    let v = b.header.variables in
    let cs = many_short (cost_from s) s 7 (λ i place c next h q. let k = cost_read s i place h q in (omega (arith, k.0), k.1)) u 1 5 p.header_good.within
    p.costs_read in
    let rs = many_short (λ i. rule_from s v) s (3 + max_literals + window_size) (λ i place k next h q. rule_read s v place h q) r 1 p.at_rules cs.1
    p.rules_read in
    let fs = facts_short s u _ 0 p.at_facts b.facts p.at_end (omega arith) p.facts_read in
    omega (arith, p.nothing_after, h.few_choices, h.few_rules, cs.0, rs.0, fs)
