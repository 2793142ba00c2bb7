-- What holds of the formula of a text that is taken: its counts are within the limits, and so are its clauses. Assumes nothing.
use mathlib.Core.Path.{◌≡◌, refl, ap}
use mathlib.Core.Bool.{Bool, true, false, cond, ◌||◌}
use mathlib.Core.List.{List, []}
use Prim.Native.Nat.{ℕ, zero, suc, ◌≤◌, ◌<◌}
use native.Mathlib.Omega.{arith}
use borrow.Author.Tests.{eqb-false}
use lib.Dec.{leb, ltb, eqb}
use lib.ListN.{length}
use Rattle.literals.specs.Literal.{Literal, variable}
use Rattle.records.specs.Limits.{max_variables, max_rules, max_literals}
use Rattle.records.specs.Format.{value, refused, with_item}
use Rattle.records.proofs.RowLaws.{Each, then_value, item_value}
use Rattle.dimacs.specs.Text.{Formula, Counts, is_dropped, rule_of, is_blank, is_gap, P, CNF}
use Rattle.dimacs.specs.Text.{limited, next_signed, literals_from, clause_from, clauses_from, text_ends, after}
use Rattle.dimacs.specs.Text.{one_or_more, comments, word_and_blanks, count_from, counts_from, head_of, body_from, formula_of}
use Rattle.dimacs.proofs.ClauseLaws.{next_numbered}
use Rattle.dimacs.proofs.SignedLaws.{up_to_most}

-- A literal over one of v variables.
pub record OverVariable (v : ℕ) (l : Literal) : Type 0 where
  pub least : 0 < variable l
  pub most : variable l ≤ v

-- A clause over v variables that is dropped or has few enough literals left.
pub record GoodClause (v : ℕ) (c : List Literal) : Type 0 where
  pub over : Each (OverVariable v) c
  pub few : is_dropped c || leb (length (rule_of c)) max_literals ≡ true

-- A formula within the limits.
pub record GoodFormula (f : Formula) : Type 0 where
  pub few_variables : f.variables ≤ max_variables
  pub few_clauses : length f.clauses ≤ max_rules
  pub each : Each (GoodClause f.variables) f.clauses

-- Counts within the limits.
pub record GoodCounts (h : Counts) : Type 0 where
  pub few_variables : h.variables ≤ max_variables
  pub few_clauses : h.clauses ≤ max_rules

-- ---- a test that decides between a value and a refusal

cond_value : {A : Type 0} (b : Bool) (a : A) (next number place : ℕ) {x : A} {end : ℕ} → cond b (value a next) (refused number place) ≡ value x end
    → (b ≡ true) × (a ≡ x)
cond_value true a next number place e = (refl, cc)
cond_value false a next number place e = let z : ◌≡◌ {A = ℕ} 0 1 = cc in absurd (omega arith)

value_cond : {A : Type 0} (b : Bool) (a : A) (next number place : ℕ) {x : A} {end : ℕ} → cond b (refused number place) (value a next) ≡ value x end → a ≡ x
value_cond true a next number place e = let z : ◌≡◌ {A = ℕ} 0 1 = cc in absurd (omega arith)
value_cond false a next number place e = cc

module _ (s : List ℕ) where
  -- ---- literals

  literals_over : (v turns place : ℕ) {c : List Literal} {end : ℕ} → literals_from s v turns place ≡ value c end → Each (OverVariable v) c
  unfolding literals_from
  literals_over v zero place e = let z : ◌≡◌ {A = ℕ} 0 1 = cc in absurd (omega arith)
  literals_over v (suc turns) place {c} {end} e =
      let t = then_value (next_signed s v place) _ e in
      go t.0 t.1 (next_numbered s v place t.2).over (eqb (variable t.0) 0) refl t.3 (λ c'. literals_over v turns t.1 {c = c'} {end = end})
    where
      go : (l : Literal) (next : ℕ) → variable l ≤ v → (b : Bool) → eqb (variable l) 0 ≡ b
          → cond b (value [] next) (with_item l (literals_from s v turns next)) ≡ value c end
          → ((c' : List Literal) → literals_from s v turns next ≡ value c' end → Each (OverVariable v) c') → Each (OverVariable v) c
      go l next h true b k ih = let none : [] ≡ c = cc in rw (← none) tt
      go l next h false b k ih =
          let m = item_value l (literals_from s v turns next) k in
          rw (← m.2) (record { least = omega (arith, eqb-false (variable l) 0 b); most = h }, ih m.0 m.1)

  -- ---- clauses

  clause_good : (v place : ℕ) {c : List Literal} {end : ℕ} → clause_from s v place ≡ value c end → GoodClause v c
  unfolding clause_from
  clause_good v place {c} e =
      let t = then_value (literals_from s v (suc (length s)) place) _ e in
      let k = cond_value (is_dropped t.0 || leb (length (rule_of t.0)) max_literals) t.0 t.1 13 (after s is_gap place) t.3 in
      rw (← k.1) (record { over = literals_over v (suc (length s)) place t.2; few = k.0 })

  clauses_good : (v left place : ℕ) {cs : List (List Literal)} {end : ℕ} → clauses_from s v left place ≡ value cs end
      → (length cs ≡ left) × Each (GoodClause v) cs
  unfolding clauses_from
  clauses_good v zero place {cs} e = let none : [] ≡ cs = cc in rw (← none) (refl, tt)
  clauses_good v (suc left) place e =
      let t = then_value (clause_from s v place) _ e in
      let m = item_value t.0 (clauses_from s v left t.1) t.3 in
      let others = clauses_good v left t.1 m.1 in
      rw (← m.2) (ap suc others.0, (clause_good v place t.2, others.1))

  -- ---- the head

  limited_most : (most place : ℕ) {n end : ℕ} → limited s most place ≡ value n end → n ≤ most
  unfolding limited
  limited_most most place e = up_to_most s most 13 place place e

  counts_good : (place : ℕ) {h : Counts} {end : ℕ} → counts_from s place ≡ value h end → GoodCounts h
  unfolding counts_from count_from
  counts_good place {h} e =
      let v = then_value (limited s max_variables place) _ e in
      let b = then_value (one_or_more s is_blank v.1) _ v.3 in
      let r = then_value (limited s max_rules b.1) _ b.3 in
      let same : record { variables = v.0; clauses = r.0 } ≡ h = cc r.3 in
      rw (← same) (record { few_variables = limited_most max_variables place v.2; few_clauses = limited_most max_rules b.1 r.2 })

  pub head_good : {h : Counts} {end : ℕ} → head_of s ≡ value h end → GoodCounts h
  unfolding head_of
  head_good e =
      let c = then_value (comments s (suc (length s)) 0) _ e in
      let p = then_value (word_and_blanks s P c.1) _ c.3 in
      let w = then_value (word_and_blanks s CNF p.1) _ p.3 in
      counts_good w.1 w.3

  -- ---- the text

  -- a text that is taken has a good formula
  pub formula_good : {f : Formula} {end : ℕ} → formula_of s ≡ value f end → GoodFormula f
  unfolding formula_of body_from text_ends
  formula_good {f} e =
      let h = then_value (head_of s) _ e in
      let cs = then_value (clauses_from s h.0.variables h.0.clauses h.1) _ h.3 in
      let counts = head_good h.2 in
      let good = clauses_good h.0.variables h.0.clauses h.1 cs.2 in
      let same = value_cond (ltb (after s is_gap cs.1) (length s)) (record { variables = h.0.variables; clauses = cs.0 })
      (after s is_gap cs.1) 12 (after s is_gap cs.1) cs.3 in
      rw (← same) (record { few_variables = counts.few_variables; few_clauses = omega (arith, counts.few_clauses, good.0); each = good.1 })
