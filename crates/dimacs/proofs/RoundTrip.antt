-- The book of a good formula is read back from its bytes, and it fits the least buffer. Assumes nothing.
use mathlib.Core.Path.{◌≡◌, refl, sym, ap, ◌∙◌}
use mathlib.Core.Logic.{⊎_elim}
use mathlib.Core.Bool.{Bool, true, false}
use mathlib.Core.List.{List, [], ◌∷◌, ◌++◌, map}
use Prim.Native.Nat.{ℕ, suc, ◌+◌, ◌-◌, ◌^◌, ◌≤◌, ◌<◌}
use native.Mathlib.Omega.{arith}
use borrow.Author.Tests.{le-leb, le-ltb, leb-true}
use lib.ListN.{length, drop, replicate, length-drop}
use Rattle.sets.specs.Laws.Bits.{lt_pow, single_lt, union_lt}
use Rattle.literals.specs.Literal.{Literal}
use Rattle.literals.specs.Truth.{yes_mask, no_mask}
use Rattle.literals.specs.Laws.{sign_bit, sign_mask, mask_none, mask_more, sign_bit_lem}
use Rattle.records.specs.Limits.{max_variables, max_choices, max_rules, max_literals, max_without_facts}
use Rattle.records.specs.Format.{says, value, Header, always, OrderBook, WN, EN, opened, marked, begins, header_at, header_values, end_at, facts_from, from_rules}
use Rattle.records.specs.Format.{read_book}
use Rattle.records.proofs.RowLaws.{Each}
use Rattle.dimacs.specs.Text.{Formula, is_dropped, rule_of}
use Rattle.dimacs.specs.Import.{choices_of, kept_of, rules_of, book_of, costs_bytes, rules_bytes, book_bytes, imported_bytes}
use Rattle.dimacs.proofs.Good.{OverVariable, GoodClause, GoodFormula}
use Rattle.dimacs.proofs.ReadBack.{one_each, GoodRule, literals_rise, passed, costs_back, rules_back, costs_length, rules_length}

-- ---- the rules of a good formula

-- the masks of literals over v variables are below 2 ^ v
bit_below : (v : ℕ) (sign : Bool) (l : Literal) → OverVariable v l → sign_bit sign l < 2 ^ v
bit_below v sign l o =
    ⊎_elim (λ z. omega (arith, z, lt_pow v)) (λ t. omega (arith, t.2, single_lt v t.0 (omega (arith, t.1, o.most)))) (sign_bit_lem sign l)

mask_below : (v : ℕ) (sign : Bool) (c : List Literal) → Each (OverVariable v) c → sign_mask sign c < 2 ^ v
mask_below v sign [] e = omega (arith, mask_none sign, lt_pow v)
mask_below v sign (l ∷ ls) e =
    rw (mask_more sign l ls) (union_lt v (sign_bit sign l) (sign_mask sign ls) (bit_below v sign l e.0) (mask_below v sign ls e.1))

rule_good : (v : ℕ) (c : List Literal) → is_dropped c ≡ false → GoodClause v c → GoodRule v (rule_of c)
unfolding rule_of
rule_good v c k g =
    record {
      rises = literals_rise v (yes_mask c) (no_mask c) (mask_below v true c g.over) (mask_below v false c g.over);
      few = leb-true (length (rule_of c)) max_literals (rw k at g.few);
    }

-- The rules of some clauses: each is good, and they are no more than the clauses.
record GoodRules (v : ℕ) (cs : List (List Literal)) : Type 0 where
  each : Each (GoodRule v) (rules_of cs)
  few : length (rules_of cs) ≤ length cs

rules_good : (v : ℕ) (cs : List (List Literal)) → Each (GoodClause v) cs → GoodRules v cs
unfolding rules_of kept_of
rules_good v [] e = record { each = tt; few = omega arith }
rules_good v (c ∷ cs) e = go (is_dropped c) refl (rules_good v cs e.1)
  where
    go : (b : Bool) → is_dropped c ≡ b → GoodRules v cs → GoodRules v (c ∷ cs)
    go true k g = record { each = rw k g.each; few = rw k (omega (arith, g.few)) }
    go false k g = record { each = rw k (rule_good v c k e.0, g.each); few = rw k (omega (arith, g.few)) }

-- ---- the book

-- A book and its bytes, which are read as it and fit the least buffer.
record Written (b : OrderBook) (bytes : List ℕ) : Type 0 where
  read : read_book bytes ≡ value b (length bytes)
  short : length bytes ≤ max_without_facts

-- EN with no fact before it
end_back : (s : List ℕ) (u turns last place : ℕ) → drop place s ≡ EN → facts_from s u (suc turns) last place ≡ value [] (place + 2)
unfolding facts_from begins end_at opened marked
end_back s u turns last place d = rw d refl

-- EN begins no window
end_no_window : begins WN EN ≡ false
unfolding begins marked
end_no_window = refl

module _ (v u : ℕ) (rs : List (List Literal)) where
  -- The book, and its bytes.
  abbrev counts : Header
  counts = record { variables = v; choices = u; rules = length rs }

  abbrev book : OrderBook
  book = record { header = counts; costs = replicate u one_each; rules = map always rs; facts = [] }

  abbrev whole : List ℕ
  whole = book_bytes v u rs

  -- The places after the costs and after the rules.
  abbrev after_costs : ℕ
  after_costs = 5 + length (costs_bytes u 1)

  abbrev after_rules : ℕ
  after_rules = after_costs + length (rules_bytes rs)

  costs_at : drop 5 whole ≡ costs_bytes u 1 ++ (rules_bytes rs ++ EN)
  unfolding book_bytes
  costs_at = refl

  rules_at : drop after_costs whole ≡ rules_bytes rs ++ EN
  rules_at = passed whole 5 (costs_bytes u 1) (rules_bytes rs ++ EN) costs_at

  end_at_lem : drop after_rules whole ≡ EN
  end_at_lem = passed whole after_costs (rules_bytes rs) EN rules_at

  whole_length : length whole ≡ after_rules + 2
  whole_length = let two : length whole - after_rules ≡ 2 = sym (length-drop after_rules whole) ∙ ap length end_at_lem in omega arith

  module _ (few_variables : v ≤ max_variables) (few_choices : u ≤ max_choices) (among : u ≤ v) (few_rules : length rs ≤ max_rules)
      (each : Each (GoodRule v) rs) where
    header_back : header_at whole ≡ says counts 5
    unfolding header_at header_values opened marked book_bytes
    header_back =
        rw (
          le-leb 2 (length whole) (omega arith),
          le-leb 5 (length whole) (omega arith),
          le-leb v max_variables few_variables,
          le-leb u max_choices few_choices,
          le-leb u v among,
          le-leb (length rs) max_rules few_rules,
        )
        refl

    book_back : read_book whole ≡ value book (length whole)
    unfolding read_book from_rules
    book_back =
        rw (
          header_back,
          costs_back whole u 1 5 (rules_bytes rs ++ EN) costs_at,
          rules_back whole v rs 1 after_costs EN few_variables each end_no_window rules_at,
          end_back whole u (length whole) 0 after_rules end_at_lem,
          le-ltb (after_rules + 2) (length whole) (omega (arith, whole_length)),
        )
        (ap (value book) (sym whole_length))

    written : Written book whole
    written = record { read = book_back; short = omega (arith, whole_length, costs_length u 1, rules_length v rs each) }

-- ---- the book of a good formula

book_written : {f : Formula} → GoodFormula f → Written (book_of f) (imported_bytes f)
unfolding book_of
book_written {f} g =
    let rules = rules_good f.variables f.clauses g.each in
    written f.variables (choices_of f.variables) (rules_of f.clauses) g.few_variables (omega arith) (omega arith)
    (omega (arith, g.few_clauses, rules.few)) rules.each

-- its bytes are read as it
pub book_read : {f : Formula} → GoodFormula f → read_book (imported_bytes f) ≡ value (book_of f) (length (imported_bytes f))
book_read g = (book_written g).read

-- they fit the least buffer
pub book_short : {f : Formula} → GoodFormula f → length (imported_bytes f) ≤ max_without_facts
book_short g = (book_written g).short
