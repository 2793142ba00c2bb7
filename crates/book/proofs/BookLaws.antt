-- The whole book: where one of its parts is refused, so is the book; and how they are put together.
-- Assumes nothing.
use mathlib.Core.Path.{◌≡◌, refl, sym, ap, ◌∙◌}
use mathlib.Core.List.{List}
use Prim.Native.Nat.{ℕ, suc, ◌≤◌, ◌<◌}
use borrow.Author.Tests.{lt-ltb, le-ltb}
use lib.ListN.{length}
use Rattle.std.specs.Prelude.{Result, Ok, Err, MatchResult}
use Rattle.literals.specs.Literal.{Literal}
use Rattle.literals.specs.declared.LiteralSet.{LiteralSet}
use Rattle.records.specs.Format.{says, Read, value, refused, and_then, Header, Cost, Rule, OrderBook, book_ends, header_at, cost_from, many, facts_from, rule_from, from_rules, read_book}
use Rattle.records.specs.Promises.{record_answer, read_answer, counts, masks}
use Rattle.records.specs.Refusals.{refusal_of}
use Rattle.records.specs.declared.Rule as kept
use Rattle.records.specs.declared.header.Header as kept_counts
use Rattle.records.specs.declared.refusal.RefusalKind.{RefusalKind}
use Rattle.records.specs.declared.refusal.Refusal.{Refusal}
use Rattle.records.proofs.ReadLaws.{refused_answer, value_answer, begin_ok, then_ok, then_err}
use Rattle.book.specs.Answer.{book_answer, masked_book, table, kept_rules}
use Rattle.book.proofs.CostLaws.{GoodCost, cost_read}
use Rattle.book.proofs.HeaderLaws.{GoodHeader, header_whole}
use Rattle.book.proofs.RuleLaws.{LiteralsRise, rule_read}
use Rattle.book.proofs.ValueLaws.{many_good}

-- The header that the code has read.
pub record HeaderSaid (s : List ℕ) (k : kept_counts.Header) : Type 0 where
  pub header : Header
  pub said : header_at s ≡ says header 5
  pub within : 5 ≤ length s
  pub few : GoodHeader (record { variables = k.variables; choices = k.choices; rules = k.rules })
  pub keeps : k ≡ counts header 5

pub header_says : (s : List ℕ) {r : Result kept_counts.Header RefusalKind} {k : kept_counts.Header} → r ≡ record_answer counts (header_at s)
    → MatchResult r (λ y. ◌≡◌ {A = Result kept_counts.Header Refusal} (Ok k) (Ok y)) (λ kind. ⊥) → HeaderSaid s k
header_says s e m =
    let p = begin_ok counts (header_at s) e m in
    let w = header_whole s p.2 in
    record { header = p.0; said = rw w.0 at p.2; within = rw w.0 at w.1.within; few = rw p.3 w.1.good; keeps = p.3 }

-- a byte after EN, or none
ends_late : (s : List ℕ) (b : OrderBook) {end : ℕ} → end < length s → book_ends s end b ≡ refused 7 end
ends_late s b l = rw (lt-ltb _ _ l) refl

ends_well : (s : List ℕ) (b : OrderBook) {end : ℕ} → length s ≤ end → book_ends s end b ≡ value b end
ends_well s b l = rw (le-ltb _ _ l) refl

-- the book that is kept, from its parts
kept_parts : (h : Header) (cs : List Cost) (rs : List Rule) (fs : List Literal) {k : kept_counts.Header} {costs : List (List ℕ)} {rules : List kept.Rule}
    {facts : LiteralSet} → k ≡ counts h 5 → costs ≡ table cs → rules ≡ kept_rules rs → facts ≡ masks fs
    → record { variables = k.variables; choices = k.choices; costs = costs; rules = rules; facts = facts }
    ≡ masked_book (record { header = h; costs = cs; rules = rs; facts = fs })
kept_parts h cs rs fs a b c d = rw (a, b, c, d) refl

-- what follows the header, by the counts that the code has read
past_header : (s : List ℕ) (h : Header) {k : kept_counts.Header} → header_at s ≡ says h 5 → k ≡ counts h 5
    → read_book s
    ≡ and_then (many (cost_from s) k.choices 1 5) (λ cs place.
    and_then (many (λ i. rule_from s k.variables) k.rules 1 place) (λ rs place.
    and_then (facts_from s k.choices (suc (length s)) 0 place) (λ fs place.
    book_ends s place (record { header = h; costs = cs; rules = rs; facts = fs }))))
unfolding read_book from_rules
past_header s h e f = rw (e, f) refl

-- The book after its header, as the code has read it: refused at a cost, at a rule, at a fact, after EN, or accepted.
module _ (s : List ℕ) {k : kept_counts.Header} (h : HeaderSaid s k) where
  -- What the costs come to, the rules from a place on, and the facts from a place on.
  abbrev pub costs_answer : Result (List (List ℕ) × ℕ) Refusal
  costs_answer = read_answer (λ cs next. (table cs, next)) (many (cost_from s) k.choices 1 5)

  abbrev pub rules_answer : ℕ → Result (List kept.Rule × ℕ) Refusal
  rules_answer place = read_answer (λ rs next. (kept_rules rs, next)) (many (λ i. rule_from s k.variables) k.rules 1 place)

  abbrev pub facts_answer : ℕ → Result (LiteralSet × ℕ) Refusal
  facts_answer place = read_answer (λ ls next. (masks ls, next)) (facts_from s k.choices (suc (length s)) 0 place)

  -- What follows the costs, the rules and the facts.
  after_rules : List Cost → List Rule → ℕ → Read OrderBook
  after_rules cs rs place =
      and_then (facts_from s k.choices (suc (length s)) 0 place) (λ fs place.
      book_ends s place (record { header = h.header; costs = cs; rules = rs; facts = fs }))

  after_costs : List Cost → ℕ → Read OrderBook
  after_costs cs place = and_then (many (λ i. rule_from s k.variables) k.rules 1 place) (after_rules cs)

  after_header : read_book s ≡ and_then (many (cost_from s) k.choices 1 5) after_costs
  unfolding after_costs after_rules
  after_header = past_header s h.header h.said h.keeps

  pub refused_at_cost : {d : Refusal} → Err d ≡ costs_answer → Err d ≡ book_answer (read_book s)
  unfolding book_answer
  refused_at_cost e = rw after_header (then_err (λ cs next. (table cs, next)) _ _ _ e)

  module _ {costs : List (List ℕ)} {at_rules : ℕ} (c : Ok (costs, at_rules) ≡ costs_answer) where
    costs_said : (cs : List Cost) × (many (cost_from s) k.choices 1 5 ≡ value cs at_rules) × (costs ≡ table cs)
    costs_said =
        let p = then_ok (λ cs next. (table cs, next)) _ c in
        let place : p.1 ≡ at_rules = sym (ap (λ t. t.1) p.3) in
        (p.0, rw place at p.2, ap (λ t. t.0) p.3)

    pub rules_within : at_rules ≤ length s
    rules_within = (many_good (cost_from s) s GoodCost (λ i place a next l e. (cost_read s i place l e).1) k.choices 1 5 h.within costs_said.1).within

    past_costs : read_book s ≡ after_costs costs_said.0 at_rules
    past_costs = after_header ∙ ap (λ m. and_then m after_costs) costs_said.1

    pub refused_at_rule : {d : Refusal} → Err d ≡ rules_answer at_rules → Err d ≡ book_answer (read_book s)
    unfolding book_answer after_costs
    refused_at_rule e = rw past_costs (then_err (λ rs next. (kept_rules rs, next)) _ _ _ e)

    module _ {rules : List kept.Rule} {at_facts : ℕ} (r : Ok (rules, at_facts) ≡ rules_answer at_rules) where
      rules_said : (rs : List Rule) × (many (λ i. rule_from s k.variables) k.rules 1 at_rules ≡ value rs at_facts) × (rules ≡ kept_rules rs)
      rules_said =
          let p = then_ok (λ rs next. (kept_rules rs, next)) _ r in
          let place : p.1 ≡ at_facts = sym (ap (λ t. t.1) p.3) in
          (p.0, rw place at p.2, ap (λ t. t.0) p.3)

      pub facts_within : at_facts ≤ length s
      facts_within = (many_good (λ i. rule_from s k.variables) s (λ (item : Rule). LiteralsRise k.variables item.literals)
          (λ i place a next l e. (rule_read s k.variables place l e).1) k.rules 1 at_rules rules_within rules_said.1).within

      past_rules : read_book s ≡ after_rules costs_said.0 rules_said.0 at_facts
      unfolding after_costs
      past_rules = past_costs ∙ ap (λ m. and_then m (after_rules costs_said.0)) rules_said.1

      pub refused_at_fact : {d : Refusal} → Err d ≡ facts_answer at_facts → Err d ≡ book_answer (read_book s)
      unfolding book_answer after_rules
      refused_at_fact e = rw past_rules (then_err (λ ls next. (masks ls, next)) _ _ _ e)

      module _ {facts : LiteralSet} {end : ℕ} (f : Ok (facts, end) ≡ facts_answer at_facts) where
        facts_said : (fs : List Literal) × (facts_from s k.choices (suc (length s)) 0 at_facts ≡ value fs end) × (facts ≡ masks fs)
        facts_said =
            let p = then_ok (λ ls next. (masks ls, next)) _ f in
            let place : p.1 ≡ end = sym (ap (λ t. t.1) p.3) in
            (p.0, rw place at p.2, ap (λ t. t.0) p.3)

        -- The book that the records say.
        said : OrderBook
        said = record { header = h.header; costs = costs_said.0; rules = rules_said.0; facts = facts_said.0 }

        past_facts : read_book s ≡ book_ends s end said
        unfolding after_rules said
        past_facts =
            past_rules ∙ ap (λ m. and_then m (λ fs place. book_ends s place (record { header = h.header; costs = costs_said.0; rules = rules_said.0; facts = fs }))) facts_said.1

        pub refused_at_end : {d : Refusal} → end < length s → d ≡ refusal_of 7 end → Err d ≡ book_answer (read_book s)
        unfolding book_answer
        refused_at_end l d = refused_answer (λ b end. masked_book b) (past_facts ∙ ends_late s said l) d

        pub accepted : length s ≤ end
            → Ok (record { variables = k.variables; choices = k.choices; costs = costs; rules = rules; facts = facts }) ≡ book_answer (read_book s)
        unfolding book_answer said
        accepted l =
            value_answer (λ b end. masked_book b) (past_facts ∙ ends_well s said l)
            (kept_parts h.header costs_said.0 rules_said.0 facts_said.0 h.keeps costs_said.2 rules_said.2 facts_said.2)
