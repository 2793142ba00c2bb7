-- The rules of the book are obeyed by the fillings that obey the clauses of the text, and by no others. Assumes nothing.
use mathlib.Core.Path.{◌≡◌, refl, sym, ap₂, ◌∙◌}
use mathlib.Core.Logic.{by_cases}
use mathlib.Core.Bool.{Bool, true, false, cond, ◌&&◌}
use mathlib.Core.List.{List, [], ◌∷◌, map}
use Prim.Native.Nat.{ℕ}
use native.Mathlib.Decide.{ℕ_discrete}
use native.Mathlib.Omega.{arith}
use borrow.Author.Tests.{not-true, not-false}
use Rattle.sets.specs.Sets.{bit, disjoint, Apart}
use Rattle.sets.specs.Laws.Bits.{bit_le}
use Rattle.sets.specs.Laws.Subset.{disjoint_apart, disjoint_false}
use Rattle.literals.specs.Literal.{Literal}
use Rattle.literals.specs.Truth.{obeys, obeys_masks, yes_mask, no_mask}
use Rattle.literals.specs.Laws.{masks_obey, obeys_yes, obeys_no}
use Rattle.sat.specs.Meaning.{obeys_rules}
use Rattle.log_form.specs.Laws.Masks.{masks_back}
use Rattle.dimacs.specs.Text.{is_dropped, rule_of}
use Rattle.dimacs.specs.Import.{kept_of, rules_of}

-- ---- one clause

-- a clause that is kept says of no variable both yes and no
pub kept_apart : (c : List Literal) → is_dropped c ≡ false → Apart (yes_mask c) (no_mask c)
unfolding is_dropped
kept_apart c e = disjoint_apart (yes_mask c) (no_mask c) (not-false (disjoint (yes_mask c) (no_mask c)) e)

-- every filling obeys a clause that is dropped
pub dropped_obeyed : (c : List Literal) → is_dropped c ≡ true → (g : ℕ) → obeys g c ≡ true
unfolding is_dropped
dropped_obeyed c e g =
    let both = disjoint_false (yes_mask c) (no_mask c) (not-true (disjoint (yes_mask c) (no_mask c)) e) in
    sym (masks_obey g c)
    ∙ by_cases (ℕ_discrete (bit g both.0) 1)
    (λ p. obeys_yes g (yes_mask c) (no_mask c) both.0 both.1 p)
    (λ p. obeys_no g (yes_mask c) (no_mask c) both.0 both.2 (omega (arith, bit_le g both.0)))

-- the rule of a clause that is kept is obeyed where the clause is
pub rule_obeyed : (c : List Literal) → is_dropped c ≡ false → (g : ℕ) → obeys g (rule_of c) ≡ obeys g c
unfolding rule_of
rule_obeyed c e g =
    let a = kept_apart c e in
    sym (masks_obey g (rule_of c))
    ∙ ap₂ (λ y n. obeys_masks g y n) (masks_back (yes_mask c) (no_mask c) a true) (masks_back (yes_mask c) (no_mask c) a false)
    ∙ masks_obey g c

-- ---- all clauses

-- a filling obeys every rule of the book exactly where it obeys every clause
pub obeys_kept : (g : ℕ) (cs : List (List Literal)) → obeys_rules g (rules_of cs) ≡ obeys_rules g cs
unfolding rules_of kept_of obeys_rules
obeys_kept g [] = refl
obeys_kept g (c ∷ cs) = go (is_dropped c) refl (obeys_kept g cs)
  where
    go : (b : Bool) → is_dropped c ≡ b → obeys_rules g (map rule_of (kept_of cs)) ≡ obeys_rules g cs
        → obeys_rules g (map rule_of (cond b (kept_of cs) (c ∷ kept_of cs))) ≡ obeys g c && obeys_rules g cs
    go true e ih = rw (dropped_obeyed c e g) ih
    go false e ih = ap₂ (λ x y. x && y) (rule_obeyed c e g) ih
