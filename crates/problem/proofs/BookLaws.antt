-- The problem of an accepted book is proper, and the masks that the code makes of the book are those of the problem's rules.
-- Assumes nothing.
use mathlib.Core.Path.{◌≡◌, refl, sym, ap, ◌∙◌}
use mathlib.Core.Logic.{◌≢◌, ◌⊎◌, inl, inr, by_cases}
use mathlib.Core.Bool.{Bool, true, false, cond}
use mathlib.Core.List.{List, [], ◌∷◌, ◌++◌, map, map-map}
use Prim.Native.Nat.{ℕ, zero, suc, ◌+◌, ◌-◌, ◌^◌, ◌≤◌, ◌<◌}
use native.Mathlib.Nat.{le_trans}
use native.Mathlib.Decide.{ℕ_discrete, dec_lt}
use native.Mathlib.Omega.{arith}
use lib.Pow.{pow_mono}
use lib.IntN.{pos, negsuc}
use lib.ListN.{length, replicate, length-map}
use Rattle.sets.specs.Sets.{bit, single, union, full, Within, Apart}
use Rattle.sets.specs.Laws.Subset.{within_le}
use Rattle.sets.specs.Laws.Bits.{bit_zero, bit_none, bit_le, bit_union, bit_single_other, bit_full, full_lt, member_lt}
use Rattle.literals.specs.Literal.{Literal, variable}
use Rattle.literals.specs.declared.LiteralSet.{LiteralSet}
use Rattle.literals.specs.Truth.{yes_bit, no_bit, yes_mask, no_mask}
use Rattle.literals.specs.Laws.{Proper, sign_bit, sign_mask, mask_none, mask_more, sign_bit_lem}
use Rattle.records.specs.Limits.{max_choices, max_cost}
use Rattle.dates.specs.Windows.{in_force}
use Rattle.dates.specs.declared.Moment.{Moment}
use Rattle.records.specs.Format.{Rule, OrderBook, Cost, rising}
use Rattle.records.specs.Promises.{row, masks}
use Rattle.book.specs.Answer.{masked_book, table, padded}
use Rattle.records.proofs.LiteralLaws.{RisingHead, rising_head}
use Rattle.book.proofs.CostLaws.{GoodCost}
use Rattle.book.proofs.RuleLaws.{LiteralsRise}
use Rattle.book.proofs.ValueLaws.{Each}
use Rattle.book.proofs.WellFormed.{WellFormed}
use Rattle.propagation.specs.Promises.{MasksBelow}
use Rattle.sat.specs.Promises.{Posed}
use Rattle.sat.specs.Laws.Rules.{Of, masks_none, masks_more, mask_lt}
use Rattle.problem.specs.Problem.{Problem, rules_in_force, problem_of, given, cost_of}
use Rattle.problem.specs.Masked.{yes_in, no_in, masked_from}
use Rattle.problem.proofs.InForceLaws.{in_force_masks, in_force_few}
use Rattle.problem.specs.Proper.{AllOf, ProperProblem}

-- ---- literals that rise

rising_of : (n last : ℕ) (ls : List Literal) → rising n last ls ≡ true → Of n ls
rising_of n last [] e = tt
rising_of n last (l ∷ ls) e = let r = rising_head n last l ls e in (r.upto, rising_of n (variable l) ls r.rest)

rising_proper : (n last : ℕ) (ls : List Literal) → rising n last ls ≡ true → Proper ls
rising_proper n last [] e = tt
rising_proper n last (l ∷ ls) e = let r = rising_head n last l ls e in (omega (arith, r.above), rising_proper n (variable l) ls r.rest)

-- a literal speaks of no other variable
other_bit : (sign : Bool) (l : Literal) (v : ℕ) → suc v ≢ variable l → bit (sign_bit sign l) v ≡ 0
other_bit sign l v n = go (sign_bit_lem sign l)
  where
    go : (sign_bit sign l ≡ 0) ⊎ ((u : ℕ) × (variable l ≡ suc u) × (sign_bit sign l ≡ single u)) → bit (sign_bit sign l) v ≡ 0
    go (inl e) = bit_none _ v e
    go (inr w) = rw w.2 (bit_single_other w.0 v (λ q. n (ap suc q ∙ sym w.1)))

-- below the first variable the masks are empty
rising_low : (sign : Bool) (n last : ℕ) (ls : List Literal) (v : ℕ) → rising n last ls ≡ true → v < last → bit (sign_mask sign ls) v ≡ 0
rising_low sign n last [] v e h = bit_none _ v (mask_none sign)
rising_low sign n last (l ∷ ls) v e h =
    let r = rising_head n last l ls e in
    let here = other_bit sign l v (λ q. absurd (omega (arith, r.above))) in
    let rest = rising_low sign n (variable l) ls v r.rest (omega (arith, r.above)) in
    rw (mask_more sign l ls) (bit_union (sign_bit sign l) (sign_mask sign ls) v ∙ rw (here, rest) refl)

-- one literal is not a yes and a no
one_sign : (l : Literal) (v : ℕ) → bit (yes_bit l) v + bit (no_bit l) v ≤ 1
unfolding yes_bit no_bit
one_sign (pos zero) v = omega (arith, bit_zero v)
one_sign (pos (suc u)) v = omega (arith, bit_zero v, bit_le (single u) v)
one_sign (negsuc u) v = omega (arith, bit_zero v, bit_le (single u) v)

rising_apart : (n last : ℕ) (ls : List Literal) → rising n last ls ≡ true → Apart (yes_mask ls) (no_mask ls)
unfolding yes_mask no_mask
rising_apart n last [] e = record { avoids = λ v. omega (arith, bit_zero v) }
rising_apart n last (l ∷ ls) e = apart (rising_head n last l ls e) (λ h. rising_apart n (variable l) ls h)
  where
    apart : RisingHead n last l ls → (rising n (variable l) ls ≡ true → Apart (yes_mask ls) (no_mask ls))
        → Apart (union (yes_bit l) (yes_mask ls)) (union (no_bit l) (no_mask ls))
    apart r ih = record { avoids = λ v. go v (dec_lt v (variable l)) }
      where
        go : (v : ℕ) → Dec (v < variable l) → bit (union (yes_bit l) (yes_mask ls)) v + bit (union (no_bit l) (no_mask ls)) v ≤ 1
        go v (yes h) =
            let low : (sign : Bool) → bit (sign_mask sign ls) v ≡ 0 = λ sign. rising_low sign n (variable l) ls v r.rest h in
            omega (arith, bit_union (yes_bit l) (yes_mask ls) v, bit_union (no_bit l) (no_mask ls) v, one_sign l v, low true, low false)
        go v (no h) =
            let other : (sign : Bool) → bit (sign_bit sign l) v ≡ 0 = λ sign. other_bit sign l v (λ q. absurd (omega arith)) in
            omega (arith, bit_union (yes_bit l) (yes_mask ls) v, bit_union (no_bit l) (no_mask ls) v, other true, other false, (ih r.rest).avoids v)

-- a set below 2 ^ n is within the first n variables
below_full : (n m : ℕ) → m < 2 ^ n → Within m (full n)
below_full n m h = record { keeps = λ v. go v (dec_lt v n) }
  where
    go : (v : ℕ) → Dec (v < n) → bit m v ≤ bit (full n) v
    go v (yes l) = omega (arith, bit_le m v, bit_full n v l)
    go v (no l) = by_cases (ℕ_discrete (bit m v) 1) (λ e. absurd (omega (arith, member_lt n m v e h))) (λ d. omega (arith, bit_le m v))

-- a cost in the table is at most 999
cost_bound : (cs : List Cost) → Each GoodCost cs → (k v column : ℕ) → cost_of (map row cs ++ replicate k (0 ∷ 0 ∷ [])) v column ≤ max_cost
unfolding cost_of
cost_bound [] e zero v column = omega arith
cost_bound [] e (suc k) zero zero = omega arith
cost_bound [] e (suc k) zero (suc zero) = omega arith
cost_bound [] e (suc k) zero (suc (suc column)) = omega arith
cost_bound [] e (suc k) (suc v) column = cost_bound [] e k v column
cost_bound (c ∷ cs) e k zero zero = e.0.yes_most
cost_bound (c ∷ cs) e k zero (suc zero) = e.0.no_most
cost_bound (c ∷ cs) e k zero (suc (suc column)) = omega arith
cost_bound (c ∷ cs) e k (suc v) column = cost_bound cs e.1 k v column

-- ---- the problem of an accepted book

all_of : (n : ℕ) (moment : Moment) (rs : List Rule) → Each (λ (r : Rule). LiteralsRise n r.literals) rs → AllOf n (rules_in_force moment rs)
unfolding rules_in_force
all_of n moment [] e = tt
all_of n moment (r ∷ rs) e = go (in_force moment r.applies) (all_of n moment rs e.1)
  where
    go : (b : Bool) → AllOf n (rules_in_force moment rs) → AllOf n (cond b (r.literals ∷ rules_in_force moment rs) (rules_in_force moment rs))
    go true h = (rising_of n 0 r.literals e.0.rises, h)
    go false h = h

module _ {b : OrderBook} (w : WellFormed b) (moment : Moment) where
  facts_of : Of b.header.choices b.facts
  facts_of = rising_of _ 0 b.facts w.facts_rise.rises

  pub proper_book : ProperProblem (problem_of moment b)
  unfolding problem_of table padded
  proper_book = record {
    few_variables = w.few_variables;
    few_choices = le_trans (full_lt b.header.choices) (pow_mono w.few_choices);
    choices_below = le_trans (full_lt b.header.choices) (pow_mono w.choices_among);
    few_rules = omega (arith, w.rule_count, w.few_rules, in_force_few moment b.rules);
    rules_over = all_of _ moment b.rules w.rules_rise;
    facts_proper = rising_proper _ 0 b.facts w.facts_rise.rises;
    facts_apart = rising_apart _ 0 b.facts w.facts_rise.rises;
    yes_facts = below_full _ _ (mask_lt true _ b.facts facts_of);
    no_facts = below_full _ _ (mask_lt false _ b.facts facts_of);
    cheap = cost_bound b.costs w.costs_good (max_choices - length (map row b.costs));
  }

  -- ---- the rules that a search is handed are those in force

  pub yes_kept : yes_in (masked_from moment (masked_book b)) ≡ map yes_mask (problem_of moment b).rules
  unfolding problem_of
  yes_kept = rw (in_force_masks moment b.rules) (map-map (λ (r : LiteralSet). r.yes) masks (rules_in_force moment b.rules))

  pub no_kept : no_in (masked_from moment (masked_book b)) ≡ map no_mask (problem_of moment b).rules
  unfolding problem_of
  no_kept = rw (in_force_masks moment b.rules) (map-map (λ (r : LiteralSet). r.no) masks (rules_in_force moment b.rules))

-- ---- the search of a proper problem

masks_below : (n : ℕ) (mask : List Literal → ℕ) → ((ls : List Literal) → Of n ls → mask ls < 2 ^ n) → (rs : List (List Literal)) → AllOf n rs
    → MasksBelow n (map mask rs)
masks_below n mask h [] e = masks_none n
masks_below n mask h (r ∷ rs) e = masks_more (h r e.0) (masks_below n mask h rs e.1)

module _ {p : Problem} (w : ProperProblem p) where
  within_below : (m : ℕ) → Within m p.choices → m < 2 ^ p.variables
  within_below m h = omega (arith, within_le m p.choices h, w.choices_below)

  pub proper_posed : Posed p.variables (map yes_mask p.rules) (map no_mask p.rules) (given p).yes (given p).no
  proper_posed = record {
    small = omega (arith, w.few_variables);
    paired = length-map p.rules yes_mask ∙ sym (length-map p.rules no_mask);
    yes_masks = masks_below _ yes_mask (mask_lt true _) p.rules w.rules_over;
    no_masks = masks_below _ no_mask (mask_lt false _) p.rules w.rules_over;
    on_below = within_below _ w.yes_facts;
    off_below = within_below _ w.no_facts;
    apart = w.facts_apart;
  }
