-- The places of the reader's refusals: each is a place of the bytes, or their length.
-- Assumes nothing.
use mathlib.Core.Path.{◌≡◌, refl}
use mathlib.Core.Bool.{Bool, true, false, cond}
use mathlib.Core.List.{List}
use Prim.Native.Nat.{ℕ, zero, suc, ◌+◌, ◌≤◌}
use native.Mathlib.Omega.{arith}
use lib.Dec.{ltb}
use lib.ListN.{length, drop, length-drop}
use Rattle.literals.specs.Literal.{variable}
use Rattle.records.specs.Format.{RecordRead, says, fails, Read, value, refused, begin, and_then, with_item, OrderBook, FA, WN, EN}
use Rattle.records.specs.Format.{begins, header_at, cost_at, cost_from, rule_at, window_at, window_from, rule_from, fact_at, end_at, many, facts_from, from_rules}
use Rattle.records.specs.Format.{read_book}
use Rattle.records.proofs.CheckLaws.{opened_says}
use Rattle.book.proofs.CostLaws.{cost_whole}
use Rattle.book.proofs.FactLaws.{fact_whole}
use Rattle.book.proofs.HeaderLaws.{header_whole}
use Rattle.book.proofs.RuleLaws.{rule_whole}
use Rattle.book.proofs.WindowLaws.{window_whole}

-- Records that end, or are refused, at a place up to a limit.
data Placed {A : Type 0} (limit : ℕ) : Read A → Type 0 where
  ends_at : {a : A} {place : ℕ} → place ≤ limit → Placed limit (value a place)
  refused_at : {number place : ℕ} → place ≤ limit → Placed limit (refused number place)

-- ---- what keeps to the places of the bytes s

module _ {A B : Type 0} (s : List ℕ) where
  -- a record that is read from a place on has no more bytes than are left there
  begin_placed : (place : ℕ) (r : RecordRead A) {next : A → ℕ → Read B} → place ≤ length s
      → ((a : A) (len : ℕ) → r ≡ says a len → len ≤ length (drop place s))
      → ((a : A) (p : ℕ) → p ≤ length s → Placed (length s) (next a p)) → Placed (length s) (begin place r next)
  begin_placed place (says a len) h i f = f a (place + len) (omega (arith, i a len refl, length-drop place s))
  begin_placed place (fails number) h i f = refused_at h

  then_placed : {r : Read A} {next : A → ℕ → Read B} → Placed (length s) r → ((a : A) (p : ℕ) → p ≤ length s → Placed (length s) (next a p))
      → Placed (length s) (and_then r next)
  then_placed (ends_at h) f = f _ _ h
  then_placed (refused_at h) f = refused_at h

module _ {A : Type 0} {limit : ℕ} where
  with_item_placed : (a : A) {rest : Read (List A)} → Placed limit rest → Placed limit (with_item a rest)
  with_item_placed a (ends_at h) = ends_at h
  with_item_placed a (refused_at h) = refused_at h

  cond_placed : (b : Bool) {x y : Read A} → Placed limit x → Placed limit y → Placed limit (cond b x y)
  cond_placed true p q = p
  cond_placed false p q = q

-- ---- the records of a book

module _ (s : List ℕ) where
  cost_placed : (due place : ℕ) → place ≤ length s → Placed (length s) (cost_from s due place)
  unfolding cost_from
  cost_placed due place h = begin_placed s place (cost_at due (drop place s)) h (λ c len e. (cost_whole due (drop place s) e).1.within) (λ c p k. ends_at k)

  window_placed : (place : ℕ) → place ≤ length s → Placed (length s) (window_from s place)
  unfolding window_from
  window_placed place h =
      cond_placed (begins WN (drop place s))
      (begin_placed s place (window_at (drop place s)) h (λ w len e. (window_whole (drop place s) e).1) (λ w p k. ends_at k)) (ends_at h)

  rule_placed : (n place : ℕ) → place ≤ length s → Placed (length s) (rule_from s n place)
  unfolding rule_from
  rule_placed n place h =
      begin_placed s place (rule_at n (drop place s)) h (λ ls len e. (rule_whole n (drop place s) e).1.within) (λ ls p k.
      then_placed s (window_placed p k) (λ a q l. ends_at l))

  module _ {A : Type 0} (item_from : ℕ → ℕ → Read A) (inside : (i place : ℕ) → place ≤ length s → Placed (length s) (item_from i place)) where
    many_placed : (left i place : ℕ) → place ≤ length s → Placed (length s) (many item_from left i place)
    unfolding many
    many_placed zero i place h = ends_at h
    many_placed (suc left) i place h = then_placed s (inside i place h) (λ a p k. with_item_placed a (many_placed left (suc i) p k))

facts_placed : (s : List ℕ) (u turns last place : ℕ) → place ≤ length s → Placed (length s) (facts_from s u turns last place)
unfolding facts_from end_at
facts_placed s u zero last place h = refused_at h
facts_placed s u (suc turns) last place h =
    cond_placed (begins FA (drop place s))
    (begin_placed s place (fact_at u last (drop place s)) h (λ l len e. (fact_whole u last (drop place s) e).1.within)
    (λ l p k. with_item_placed l (facts_placed s u turns (variable l) p k)))
    (begin_placed s place (end_at (drop place s)) h (λ t len e. let o = opened_says EN 2 (drop place s) e in omega (arith, o.0, o.1)) (λ t p k. ends_at k))

book_placed : (s : List ℕ) → Placed (length s) (read_book s)
unfolding read_book from_rules
book_placed s =
    begin_placed s 0 (header_at s) (omega arith) (λ h len e. (header_whole s e).1.within) (λ h p k.
    then_placed s (many_placed s (cost_from s) (cost_placed s) h.choices 1 p k) (λ cs q l.
    then_placed s (many_placed s (λ i. rule_from s h.variables) (λ i. rule_placed s h.variables) h.rules 1 q l) (λ rs r m.
    then_placed s (facts_placed s h.choices (suc (length s)) 0 r m) (λ fs e n. cond_placed (ltb e (length s)) (refused_at n) (ends_at n)))))

pub reader_places : (s : List ℕ) {number place : ℕ} → read_book s ≡ refused number place → place ≤ length s
reader_places s e = at (book_placed s) e
  where
    at : {m : Read OrderBook} {number place : ℕ} → Placed (length s) m → m ≡ refused number place → place ≤ length s
    at (ends_at h) e = let z : ◌≡◌ {A = ℕ} 0 1 = cc in absurd (omega arith)
    at {place = p} (refused_at {place = q} h) e = let same : q ≡ p = cc in omega (arith, h, same)
