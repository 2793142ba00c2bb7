-- The records of a book are read back from their bytes: one CS, one RL, and records in a row. Assumes nothing.
use mathlib.Core.Path.{◌≡◌, refl, sym, ap, ap₂, ◌∙◌}
use mathlib.Core.Bool.{true, false, ◌&&◌}
use mathlib.Core.List.{List, [], ◌∷◌, ◌++◌, map, append_assoc}
use Prim.Native.Nat.{ℕ, zero, suc, ◌+◌, ◌-◌, ◌*◌, ◌^◌, ◌≤◌, ◌<◌}
use native.Mathlib.Omega.{arith}
use borrow.Author.Tests.{le-leb, eq-eqb, ltb-true}
use lib.Dec.{ltb}
use lib.ListN.{length, drop, replicate, length-append, length-map, length-replicate}
use lib.Seq.{take_at, drop-drop, drop-append_seam}
use Rattle.sets.specs.Sets.{has, union}
use Rattle.sets.specs.Laws.Bits.{member_lt, union_lt}
use Rattle.sets.specs.Laws.Subset.{has_true, in_union, in_union_right}
use Rattle.literals.specs.Literal.{Literal, variable, literals_of, of_byte, byte_of}
use Rattle.literals.specs.Laws.{and_both}
use Rattle.records.specs.Limits.{max_variables, max_literals}
use Rattle.records.specs.Format.{says, Read, value, Cost, Rule, always, rising, many, opened, marked, begins, pair, is_cost, WN, cost_at, cost_values, cost_from}
use Rattle.records.specs.Format.{rule_at, rule_values, window_from, rule_from}
use Rattle.records.proofs.LiteralLaws.{rising_none, rising_more, rising_head}
use Rattle.records.proofs.RowLaws.{Each}
use Rattle.log_form.specs.Format.{two_bytes, list_bytes, rising_over}
use Rattle.log_form.specs.Laws.Lists.{list_rises}
use Rattle.log_form.specs.Laws.Reads.{byte_back}
use Rattle.dimacs.specs.Import.{cost_bytes, costs_bytes, rule_bytes, rules_bytes}

-- ---- CS

-- Both costs are 1.
abbrev pub one_each : Cost
one_each = record { of_yes = 1; of_no = 1 }

cost_back : (i : ℕ) (rest : List ℕ) → cost_at i (cost_bytes i ++ rest) ≡ says one_each (length (cost_bytes i))
unfolding cost_at cost_bytes cost_values opened marked pair is_cost two_bytes
cost_back i rest =
    rw (le-leb 2 (length (cost_bytes i ++ rest)) (omega arith), le-leb 7 (length (cost_bytes i ++ rest)) (omega arith), eq-eqb i i refl) refl

-- ---- RL

-- A rule that is read back in a book of n variables.
pub record GoodRule (n : ℕ) (r : List Literal) : Type 0 where
  pub rises : rising n 0 r ≡ true
  pub few : length r ≤ max_literals

-- the literals of a list that rises
literals_back : (n last : ℕ) (ls : List Literal) → n ≤ max_variables → rising n last ls ≡ true → map of_byte (map byte_of ls) ≡ ls
literals_back n last [] h e = refl
literals_back n last (l ∷ ls) h e =
    let r = rising_head n last l ls e in
    ap₂ (λ x xs. x ∷ xs) (byte_back l (omega arith)) (literals_back n (variable l) ls h r.rest)

rule_back : (n : ℕ) → n ≤ max_variables → (r : List Literal) (rest : List ℕ) → GoodRule n r → rule_at n (rule_bytes r ++ rest) ≡ says r (length (rule_bytes r))
unfolding rule_at rule_bytes rule_values opened marked list_bytes
rule_back n h r rest g =
    let size = length-map r byte_of in
    rw (
      le-leb 2 (length (rule_bytes r ++ rest)) (omega arith),
      le-leb 3 (length (rule_bytes r ++ rest)) (omega arith),
      le-leb (length r) max_literals g.few,
      le-leb (3 + length r) (length (rule_bytes r ++ rest)) (omega (arith, length-append (map byte_of r) rest)),
      take_at (map byte_of r) rest (length r) size,
      literals_back n 0 r h g.rises,
      g.rises,
    )
    (ap (says r) (omega arith))

-- a list that rises over a set of elements below n rises up to n
over_rising : (n ch last : ℕ) (ls : List Literal) → ch < 2 ^ n → rising_over ch last ls ≡ true → rising n last ls ≡ true
unfolding rising_over
over_rising n ch last [] h e = rising_none n last
over_rising n ch last (l ∷ ls) h e =
    let both = and_both (ltb last (variable l) && has ch (variable l - 1)) (rising_over ch (variable l) ls) e in
    let one = and_both (ltb last (variable l)) (has ch (variable l - 1)) both.0 in
    let above = ltb-true last (variable l) one.0 in
    let low = member_lt n ch (variable l - 1) (has_true ch (variable l - 1) one.1) h in
    rising_more n last l ls refl above (omega arith) ∙ over_rising n ch (variable l) ls h both.1

-- the list of a set of literals rises
pub literals_rise : (n on off : ℕ) → on < 2 ^ n → off < 2 ^ n → rising n 0 (literals_of on off) ≡ true
literals_rise n on off h k =
    over_rising n (union on off) 0 (literals_of on off) (union_lt n on off h k) (list_rises (union on off) on off (in_union on off) (in_union_right on off))

-- ---- records in a row

-- what follows some bytes
pub passed : (s : List ℕ) (place : ℕ) (bytes rest : List ℕ) → drop place s ≡ bytes ++ rest → drop (place + length bytes) s ≡ rest
passed s place bytes rest d = sym (drop-drop (length bytes) place s) ∙ ap (drop (length bytes)) d ∙ drop-append_seam bytes rest

module _ {A : Type 0} (bytes_of : ℕ → A → List ℕ) where
  -- The bytes of some items, the first of them number i.
  abbrev row_bytes : ℕ → List A → List ℕ
  row_bytes i [] = []
  row_bytes i (a ∷ items) = bytes_of i a ++ row_bytes (suc i) items

-- Items with the property P, each read back from its bytes where what follows them has the property Q, as the bytes of an item have.
module _ {A : Type 0} (item_from : ℕ → ℕ → Read A) (bytes_of : ℕ → A → List ℕ) (P : A → Type 0) (Q : List ℕ → Type 0) (s : List ℕ)
    (back : (i place : ℕ) (a : A) (rest : List ℕ) → P a → Q rest → drop place s ≡ bytes_of i a ++ rest → item_from i place ≡ value a
    (place + length (bytes_of i a)))
    (follows : (i : ℕ) (a : A) (rest : List ℕ) → Q (bytes_of i a ++ rest)) where
  others_follow : (items : List A) (i : ℕ) (rest : List ℕ) → Q rest → Q (row_bytes bytes_of i items ++ rest)
  others_follow [] i rest q = q
  others_follow (a ∷ items) i rest q = rw (append_assoc (bytes_of i a) (row_bytes bytes_of (suc i) items) rest) (follows i a _)

  many_back : (items : List A) (i place : ℕ) (rest : List ℕ) → Each P items → Q rest → drop place s ≡ row_bytes bytes_of i items ++ rest
      → many item_from (length items) i place ≡ value items (place + length (row_bytes bytes_of i items))
  unfolding many
  many_back [] i place rest e q d = ap (value []) (omega arith)
  many_back (a ∷ items) i place rest e q d =
      let others : List ℕ = row_bytes bytes_of (suc i) items in
      let here : drop place s ≡ bytes_of i a ++ (others ++ rest) = d ∙ append_assoc (bytes_of i a) others rest in
      let after = passed s place (bytes_of i a) (others ++ rest) here in
      let first = back i place a (others ++ rest) e.0 (others_follow items (suc i) rest q) here in
      rw (first, many_back items (suc i) (place + length (bytes_of i a)) rest e.1 q after)
      (ap (value (a ∷ items)) (omega (arith, length-append (bytes_of i a) others)))

-- the CS and the RL are rows
costs_row : (left i : ℕ) → row_bytes (λ j c. cost_bytes j) i (replicate left one_each) ≡ costs_bytes left i
unfolding costs_bytes
costs_row zero i = refl
costs_row (suc left) i = ap (λ t. cost_bytes i ++ t) (costs_row left (suc i))

rules_row : (i : ℕ) (rs : List (List Literal)) → row_bytes (λ j (r : Rule). rule_bytes r.literals) i (map always rs) ≡ rules_bytes rs
unfolding rules_bytes
rules_row i [] = refl
rules_row i (r ∷ rs) = ap (λ t. rule_bytes r ++ t) (rules_row (suc i) rs)

each_cost : (left : ℕ) → Each (λ c. c ≡ one_each) (replicate left one_each)
each_cost zero = tt
each_cost (suc left) = (refl, each_cost left)

-- Such a rule, where it always applies.
abbrev GoodAlways : ℕ → Rule → Type 0
GoodAlways n r = GoodRule n r.literals × (r ≡ always r.literals)

each_always : (n : ℕ) (rs : List (List Literal)) → Each (GoodRule n) rs → Each (GoodAlways n) (map always rs)
each_always n [] e = tt
each_always n (r ∷ rs) e = ((e.0, refl), each_always n rs e.1)

-- they are read back
pub costs_back : (s : List ℕ) (left i place : ℕ) (rest : List ℕ) → drop place s ≡ costs_bytes left i ++ rest
    → many (cost_from s) left i place ≡ value (replicate left one_each) (place + length (costs_bytes left i))
unfolding cost_from
costs_back s left i place rest d =
    rw (length-replicate, costs_row) at
    (many_back (cost_from s) (λ j c. cost_bytes j) (λ c. c ≡ one_each) (λ t. Unit {0}) s one (λ j c t. tt) (replicate left one_each) i place rest (each_cost left)
    tt
    (rw costs_row d))
  where
    one : (j p : ℕ) (c : Cost) (t : List ℕ) → c ≡ one_each → Unit {0} → drop p s ≡ cost_bytes j ++ t → cost_from s j p ≡ value c (p + length (cost_bytes j))
    one j p c t e q k = rw (k, cost_back j t, e) refl

-- no rule begins as a window does
not_window : (r : Rule) (rest : List ℕ) → begins WN (rule_bytes r.literals ++ rest) ≡ false
unfolding begins marked rule_bytes
not_window r rest = rw (le-leb 2 (length (rule_bytes r.literals ++ rest)) (omega arith)) refl

pub rules_back : (s : List ℕ) (n : ℕ) (rs : List (List Literal)) (i place : ℕ) (rest : List ℕ) → n ≤ max_variables → Each (GoodRule n) rs
    → begins WN rest ≡ false → drop place s ≡ rules_bytes rs ++ rest
    → many (λ j. rule_from s n) (length rs) i place ≡ value (map always rs) (place + length (rules_bytes rs))
unfolding rule_from window_from
rules_back s n rs i place rest h e q d =
    rw (length-map, rules_row) at
    (many_back (λ j. rule_from s n) (λ j (r : Rule). rule_bytes r.literals) (GoodAlways n) (λ t. begins WN t ≡ false) s one (λ j. not_window) (map always rs) i
    place rest (each_always n rs e) q (rw rules_row d))
  where
    one : (j p : ℕ) (r : Rule) (t : List ℕ) → GoodAlways n r → begins WN t ≡ false → drop p s ≡ rule_bytes r.literals ++ t
        → rule_from s n p ≡ value r (p + length (rule_bytes r.literals))
    one j p r t g q k =
        rw (k, rule_back n h r.literals t g.0, passed s p (rule_bytes r.literals) t k, q)
        (ap (λ x. value x (p + length (rule_bytes r.literals))) (sym g.1))

-- ---- how many bytes

pub costs_length : (left i : ℕ) → length (costs_bytes left i) ≡ 7 * left
unfolding costs_bytes cost_bytes two_bytes
costs_length zero i = refl
costs_length (suc left) i = omega (arith, length-append (cost_bytes i) (costs_bytes left (suc i)), costs_length left (suc i))

pub rules_length : (n : ℕ) (rs : List (List Literal)) → Each (GoodRule n) rs → length (rules_bytes rs) ≤ (3 + max_literals) * length rs
unfolding rules_bytes rule_bytes list_bytes
rules_length n [] e = omega arith
rules_length n (r ∷ rs) e =
    omega (arith, length-append (rule_bytes r) (rules_bytes rs), length-map r byte_of, e.0.few, rules_length n rs e.1)
