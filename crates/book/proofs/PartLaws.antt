-- An accepted book, taken apart: its header, costs, rules and facts are what the records say.
-- Assumes nothing.
use mathlib.Core.Path.{◌≡◌, refl}
use mathlib.Core.Bool.{Bool, true, false, cond}
use mathlib.Core.List.{List}
use Prim.Native.Nat.{ℕ, suc, ◌≤◌}
use native.Mathlib.Omega.{arith}
use borrow.Author.Tests.{ltb-false}
use lib.Dec.{ltb}
use lib.ListN.{length}
use Rattle.records.specs.Format.{Read, value, refused, and_then, OrderBook, header_at, cost_from, rule_from, many, facts_from, from_rules, read_book}
use Rattle.book.specs.Answer.{book_answer, masked_book}
use Rattle.std.specs.Prelude.{Ok, Err}
use Rattle.records.specs.Refusals.{refusal_of}
use Rattle.records.specs.declared.Book.{Book}
use Rattle.records.specs.declared.refusal.Refusal.{Refusal}
use Rattle.records.proofs.ReadLaws.{then_fails, then_ok}
use Rattle.records.proofs.CheckLaws.{Good}
use Rattle.book.proofs.HeaderLaws.{GoodHeader, header_whole}
use Rattle.book.proofs.ValueLaws.{begin_value, then_value}

-- What was read of each part, and where it ended.
pub record Parts (s : List ℕ) (b : OrderBook) : Type 0 where
  pub header_good : Good GoodHeader s b.header 5
  pub at_rules : ℕ
  pub costs_read : many (cost_from s) b.header.choices 1 5 ≡ value b.costs at_rules
  pub at_facts : ℕ
  pub rules_read : many (λ i. rule_from s b.header.variables) b.header.rules 1 at_rules ≡ value b.rules at_facts
  pub at_end : ℕ
  pub facts_read : facts_from s b.header.choices (suc (length s)) 0 at_facts ≡ value b.facts at_end
  pub nothing_after : length s ≤ at_end

-- no byte after the end
book_ends_lem : (late : Bool) (a : OrderBook) (p : ℕ) {b : OrderBook} {end : ℕ} → cond late (refused 7 p) (value a p) ≡ value b end → (late ≡ false) × (a ≡ b)
book_ends_lem true a p e = let k : ◌≡◌ {A = ℕ} 0 1 = cc in absurd (omega arith)
book_ends_lem false a p e = (refl, cc)

pub parts : (s : List ℕ) {b : OrderBook} {end : ℕ} → read_book s ≡ value b end → Parts s b
unfolding read_book from_rules
parts s e =
    let h = begin_value 0 (header_at s) (λ h place. and_then (many (cost_from s) h.choices 1 place) (λ costs place. from_rules s h costs place)) e in
    let w = header_whole s h.2 in
    let c = then_value (many (cost_from s) h.0.choices 1 5) _ (rw w.0 at h.3) in
    let r = then_value (many (λ i. rule_from s h.0.variables) h.0.rules 1 c.1) _ c.3 in
    let f = then_value (facts_from s h.0.choices (suc (length s)) 0 r.1) _ r.3 in
    let e = book_ends_lem (ltb f.1 (length s)) _ f.1 f.3 in
    rw (← e.1) (record {
      header_good = rw w.0 at w.1;
      at_rules = c.1;
      costs_read = c.2;
      at_facts = r.1;
      rules_read = r.2;
      at_end = f.1;
      facts_read = f.2;
      nothing_after = ltb-false _ _ e.0;
    })

-- ---- the reader's answer, taken back

pub record BookSaid (m : Read OrderBook) (k : Book) : Type 0 where
  pub book : OrderBook
  pub end : ℕ
  pub said : m ≡ value book end
  pub keeps : k ≡ masked_book book

pub book_says : (m : Read OrderBook) {k : Book} → Ok k ≡ book_answer m → BookSaid m k
unfolding book_answer
book_says m e = let p = then_ok (λ b end. masked_book b) m e in record { book = p.0; end = p.1; said = p.2; keeps = p.3 }

pub book_refused : (m : Read OrderBook) {d : Refusal} → Err d ≡ book_answer m
    → (number : ℕ) × (place : ℕ) × (m ≡ refused number place) × (d ≡ refusal_of number place)
unfolding book_answer
book_refused m e = then_fails (λ b end. masked_book b) m e
