-- The numbers of the reader's own refusals: each is from 1 to 7, or 14, whatever the bytes are.
-- Assumes nothing.
use mathlib.Core.Path.{◌≡◌, refl}
use mathlib.Core.Logic.{◌⊎◌, inl, inr}
use mathlib.Core.Bool.{Bool, true, false, cond, ◌&&◌, ◌||◌}
use mathlib.Core.List.{List}
use Prim.Native.Nat.{ℕ, zero, suc, ◌≤◌, ◌<◌}
use native.Mathlib.Omega.{arith}
use borrow.Author.Tests.{leb-true, eqb-true}
use lib.Dec.{leb, eqb}
use Rattle.literals.specs.Laws.{and_both}
use Rattle.records.specs.Refusals as kind
use Rattle.records.specs.Refusals.{kind_of}
use Rattle.std.proofs.lemmas.Bool.{cases_eq}
use Rattle.records.specs.Format.{RecordRead, says, fails, Read, value, refused, check, checked_first, begin, and_then, with_item, OrderBook, opened}
use Rattle.records.specs.Format.{header_values, header_at, cost_values, cost_at, cost_from, rule_values, rule_at, window_values, window_at, window_from, rule_from}
use Rattle.records.specs.Format.{fact_values, fact_at, end_at}
use Rattle.records.specs.Format.{many, facts_from, from_rules, read_book}

-- The numbers of a reader, as a test, so that `refl` proves it of a numeral.
abbrev of_reader : ℕ → Bool
of_reader n = (leb 1 n && leb n 7) || eqb n 14

-- A record that says something, or fails with a number of a reader.
data Numbered {A : Type 0} : RecordRead A → Type 0 where
  speaks : {a : A} {len : ℕ} → Numbered (says a len)
  fails_with : {number : ℕ} → of_reader number ≡ true → Numbered (fails number)

-- Records that were read, or are refused with a number of a reader.
data AllNumbered {A : Type 0} : Read A → Type 0 where
  is_read : {a : A} {place : ℕ} → AllNumbered (value a place)
  refused_with_lem : {number place : ℕ} → of_reader number ≡ true → AllNumbered (refused number place)

-- ---- what keeps to the numbers

module _ {A : Type 0} where
  check_numbered : (b : Bool) (number : ℕ) {rest : RecordRead A} → of_reader number ≡ true → Numbered rest → Numbered (check b number rest)
  check_numbered true number l r = r
  check_numbered false number l r = fails_with l

  checked_first_numbered : {first : RecordRead (Unit {0})} {rest : RecordRead A} → Numbered first → Numbered rest → Numbered (checked_first first rest)
  checked_first_numbered speaks r = r
  checked_first_numbered (fails_with l) r = fails_with l

  with_item_numbered : (a : A) {rest : Read (List A)} → AllNumbered rest → AllNumbered (with_item a rest)
  with_item_numbered a is_read = is_read
  with_item_numbered a (refused_with_lem l) = refused_with_lem l

  cond_numbered : (b : Bool) {x y : Read A} → AllNumbered x → AllNumbered y → AllNumbered (cond b x y)
  cond_numbered true p q = p
  cond_numbered false p q = q

module _ {A B : Type 0} where
  begin_numbered : (place : ℕ) {r : RecordRead A} {next : A → ℕ → Read B} → Numbered r → ((a : A) (p : ℕ) → AllNumbered (next a p))
      → AllNumbered (begin place r next)
  begin_numbered place speaks f = f _ _
  begin_numbered place (fails_with l) f = refused_with_lem l

  then_numbered : {r : Read A} {next : A → ℕ → Read B} → AllNumbered r → ((a : A) (p : ℕ) → AllNumbered (next a p)) → AllNumbered (and_then r next)
  then_numbered is_read f = f _ _
  then_numbered (refused_with_lem l) f = refused_with_lem l

ruleset steps = (speaks, is_read, refused_with_lem, check_numbered, checked_first_numbered, with_item_numbered, cond_numbered, begin_numbered, then_numbered)

-- ---- the records

opened_numbered : (mark : List ℕ) (size : ℕ) (s : List ℕ) → Numbered (opened mark size s)
unfolding opened
opened_numbered mark size s = search steps

cost_numbered : (s : List ℕ) (due place : ℕ) → AllNumbered (cost_from s due place)
unfolding cost_from cost_at cost_values
cost_numbered s due place = search (opened_numbered, steps) depth 8

rl_numbered : (n : ℕ) (s : List ℕ) → Numbered (rule_at n s)
unfolding rule_at rule_values
rl_numbered n s = search (opened_numbered, steps) depth 6

wn_numbered : (s : List ℕ) → Numbered (window_at s)
unfolding window_at window_values
wn_numbered s = search (opened_numbered, steps)

rule_numbered : (s : List ℕ) (n place : ℕ) → AllNumbered (rule_from s n place)
unfolding rule_from window_from
rule_numbered s n place = search (rl_numbered, wn_numbered, steps) depth 8

-- ---- the book

module _ {A : Type 0} (item_from : ℕ → ℕ → Read A) (each : (i place : ℕ) → AllNumbered (item_from i place)) where
  many_numbered : (left i place : ℕ) → AllNumbered (many item_from left i place)
  unfolding many
  many_numbered zero i place = is_read
  many_numbered (suc left) i place = search (many_numbered left, steps)

facts_numbered : (s : List ℕ) (u turns last place : ℕ) → AllNumbered (facts_from s u turns last place)
unfolding facts_from fact_at fact_values end_at
facts_numbered s u zero last place = refused_with_lem refl
facts_numbered s u (suc turns) last place = search (facts_numbered s u turns, opened_numbered, steps)

book_numbered : (s : List ℕ) → AllNumbered (read_book s)
unfolding read_book header_at header_values from_rules
book_numbered s = search (opened_numbered, cost_numbered, rule_numbered, many_numbered, facts_numbered, steps) depth 8

-- A number of a reader.
abbrev pub ReaderNumber : ℕ → Type 0
ReaderNumber n = ((1 ≤ n) × (n ≤ 7)) ⊎ (n ≡ 14)

reader_number : (n : ℕ) → of_reader n ≡ true → ReaderNumber n
reader_number n e = go (leb 1 n && leb n 7) refl e
  where
    go : (b : Bool) → (leb 1 n && leb n 7) ≡ b → b || eqb n 14 ≡ true → ReaderNumber n
    go true d f = let both = and_both (leb 1 n) (leb n 7) d in inl (leb-true _ _ both.0, leb-true _ _ both.1)
    go false d f = inr (eqb-true _ _ f)

number_of : {m : Read OrderBook} {number place : ℕ} → AllNumbered m → m ≡ refused number place → ReaderNumber number
number_of is_read e = let z : ◌≡◌ {A = ℕ} 0 1 = cc in absurd (omega arith)
number_of {number = n} (refused_with_lem {number = k} l) e = let same : k ≡ n = cc in reader_number n (rw same at l)

pub reader_numbers : (s : List ℕ) {number place : ℕ} → read_book s ≡ refused number place → ReaderNumber number
reader_numbers s e = number_of (book_numbered s) e

-- ---- the check that has such a number

-- The number of the check that has a number is that number.
Named : ℕ → Type 0
Named n = kind.number_of (kind_of n) ≡ n

-- up to a number: that number, or below it
up_to : (k n : ℕ) → Named k → (n < k → Named n) → n ≤ k → Named n
up_to k n here below h = go (cases_eq n k)
  where
    go : (n ≡ k) ⊎ (n ≡ k → ⊥) → Named n
    go (inl e) = rw e here
    go (inr f) = below (omega (arith, h, f))

pub reader_kinds : {n : ℕ} → ReaderNumber n → kind.number_of (kind_of n) ≡ n
unfolding Named
reader_kinds {n} (inl h) =
    up_to 7 n refl (λ a. up_to 6 n refl (λ a. up_to 5 n refl (λ a. up_to 4 n refl (λ a. up_to 3 n refl (λ a. up_to 2 n refl (λ a. up_to 1 n refl (λ a. absurd (omega (arith, a, h.0)))
    (omega arith)) (omega arith)) (omega arith)) (omega arith)) (omega arith)) (omega arith)) h.1
reader_kinds {n} (inr e) = rw e refl
