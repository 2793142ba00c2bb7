-- Reading the rules: what holds of one RL record that is whole, and of one with the WN that may follow it.
-- Assumes nothing.
use mathlib.Core.Path.{◌≡◌, refl, sym, ap, ◌∙◌}
use mathlib.Core.Bool.{true}
use mathlib.Core.List.{List, [], ◌∷◌, ◌++◌, map, map-append}
use Prim.Native.Nat.{ℕ, ◌+◌, ◌≤◌}
use native.Mathlib.Omega.{arith}
use borrow.Author.Tests.{leb-true}
use lib.Dec.{leb}
use lib.ListN.{length, take, drop, length-drop}
use Rattle.literals.specs.Literal.{Literal, of_byte}
use Rattle.dates.specs.declared.Applies.{Applies}
use Rattle.records.specs.Limits.{max_literals, window_size}
use Rattle.records.specs.Format.{says, value, Rule, opened, byte, rising, rule_at, rule_values, RL, window_from}
use Rattle.records.specs.Format.{rule_from}
use Rattle.records.proofs.CheckLaws.{Good, says_same, checked_first_says, check_says}
use Rattle.records.specs.declared.Rule as kept
use Rattle.book.specs.Answer.{kept_rule, kept_rules}
use Rattle.book.proofs.ManyLaws.{WholeFrom}
use Rattle.book.proofs.ValueLaws.{GoodItem, begin_value, then_value}
use Rattle.book.proofs.WindowLaws.{window_read}

-- The literals of a rule rise over the variables of the book.
pub record LiteralsRise (n : ℕ) (ls : List Literal) : Type 0 where
  pub rises : rising n 0 ls ≡ true

pub rule_whole : (n : ℕ) (t : List ℕ) {ls : List Literal} {len : ℕ} → rule_at n t ≡ says ls len
    → (len ≤ 3 + max_literals) × Good (LiteralsRise n) t ls len
unfolding rule_at rule_values
rule_whole n t {ls} {len} e =
    let o = checked_first_says (opened RL 3 t) (rule_values n t) e in
    let most = check_says (leb (byte t 2) max_literals) 5 _ o.2 in
    let all = check_says (leb (3 + byte t 2) (length t)) 1 _ most.1 in
    let rise = check_says (rising n 0 lits) 6 _ all.1 in
    let same = says_same rise.1 in
    let few : byte t 2 ≤ max_literals = leb-true _ _ most.0 in
    (omega (arith, same.1), record { within = rw same.1 (leb-true _ _ all.0); good = record { rises = rw (← same.0) rise.0 } })
  where
    lits : List Literal
    lits = map of_byte (take (byte t 2) (drop 3 t))

-- ---- one RL, from a place on, and the WN that may follow it

module _ (s : List ℕ) (n place : ℕ) where
  -- an RL, and the window after it
  pub rule_then : {ls : List Literal} {len : ℕ} {a : Applies} {next : ℕ} → rule_at n (drop place s) ≡ says ls len → window_from s (place + len) ≡ value a next
      → rule_from s n place ≡ value (record { literals = ls; applies = a }) next
  unfolding rule_from
  rule_then e f = rw (e, f) refl

  -- one that was read
  pub rule_read : {r : Rule} {next : ℕ} → place ≤ length s → rule_from s n place ≡ value r next
      → (next ≤ place + (3 + max_literals + window_size)) × GoodItem (λ (k : Rule). LiteralsRise n k.literals) s r next
  unfolding rule_from
  rule_read {r} {next} h e =
      let f = begin_value place (rule_at n (drop place s)) _ e in
      let w = rule_whole n (drop place s) f.2 in
      let within : place + f.1 ≤ length s = omega (arith, h, w.1.within, length-drop place s) in
      let g = then_value (window_from s (place + f.1)) _ f.3 in
      let v = window_read s (place + f.1) within g.2 in
      let same : record { literals = f.0; applies = g.0 } ≡ r = cc in
      let after : g.1 ≡ next = cc in (
        omega (arith, w.0, v.0, after),
        record { within = omega (arith, v.1, after); good = rw (← same) w.1.good },
      )

  -- the rule that the code has read
  pub rule_said : {r : Rule} {k : kept.Rule} {p next : ℕ} → place ≤ length s → rule_from s n place ≡ value r p → ◌≡◌ {A = kept.Rule × ℕ} (k, next) (kept_rule r, p)
      → WholeFrom (λ i. k ≡ kept_rule i) s next (rule_from s n place)
  rule_said {r} {k} {p} {next} h e f =
      let same : next ≡ p = ap (λ t. t.1) f in
      record { item = r; said = rw same e; within = rw same (rule_read h e).1.within; holds = ap (λ t. t.0) f }

-- one more rule is kept
pub rules_more : (done : List Rule) (r : Rule) {v v' : List kept.Rule} {k : kept.Rule} → v ≡ kept_rules done → v' ≡ v ++ (k ∷ []) → k ≡ kept_rule r
    → v' ≡ kept_rules (done ++ (r ∷ []))
rules_more done r {v} {v'} e f g = f ∙ rw (e, g) (sym (map-append kept_rule done (r ∷ [])))
