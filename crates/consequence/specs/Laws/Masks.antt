-- The rules as masks: the theory that the code's arguments are, that it is the theory of the lists, and models of the one as models of the other.
-- Assumes nothing.
use Rattle.std.specs.Prelude.{◌≡◌, Bool, true, List, [], map, ℕ}
use Rattle.std.proofs.Math.Path.{refl}
use Rattle.sets.specs.Sets.{bit}
use Rattle.literals.specs.Truth.{yes_mask, no_mask}
use Rattle.sat.specs.Meaning.{obeys_all, Model, NoModel}
use Rattle.propagation.specs.Promises.{Assigned, digit}
use Rattle.sat.specs.Laws.Rules.{masks_rules}
use Rattle.sat.specs.Laws.Assigns.{model_assigned, assigned_model}
use Rattle.problem.specs.Problem.{Problem}
use Rattle.consequence.specs.Meaning.{Theory, theory_of, ModelOf, NoModelOf}
use Rattle.consequence.specs.Promises.{mask_theory}

-- the masks say what the lists say
pub same_theory : (p : Problem) → mask_theory p.variables (map yes_mask p.rules) (map no_mask p.rules) p.choices ≡ theory_of p
unfolding theory_of
same_theory p = λ i. record { variables = p.variables; obeyed = λ f. masks_rules f p.rules i; choices = p.choices }

-- a model of the search is one of a theory that it obeys, and the other way round
ruled : {t : Theory} {ys ns : List ℕ} {on off f : ℕ} → Model t.variables ys ns on off f → t.obeyed f ≡ true → ModelOf t on off f
ruled m e = record { below = m.below; keeps = m.keeps; avoids = m.avoids; obeyed = e }

masked : {t : Theory} {ys ns : List ℕ} {on off f : ℕ} → ModelOf t on off f → obeys_all f ys ns ≡ true → Model t.variables ys ns on off f
masked m e = record { below = m.below; keeps = m.keeps; avoids = m.avoids; obeyed = e }

module _ {n : ℕ} {ys ns : List ℕ} {on off : ℕ} (ch : ℕ) where
  pub to_theory : {f : ℕ} → Model n ys ns on off f → ModelOf (mask_theory n ys ns ch) on off f
  to_theory m = ruled m m.obeyed

  pub of_theory : {f : ℕ} → ModelOf (mask_theory n ys ns ch) on off f → Model n ys ns on off f
  of_theory m = masked m m.obeyed

  pub none_to_theory : NoModel n ys ns on off → NoModelOf (mask_theory n ys ns ch) on off
  none_to_theory x = record { none = λ f m. x.none f (of_theory m) }

  pub none_of_theory : NoModelOf (mask_theory n ys ns ch) on off → NoModel n ys ns on off
  none_of_theory x = record { none = λ f m. x.none f (to_theory m) }

-- ---- a set with one literal more

module _ {t : Theory} {on off v a b f : ℕ} {value : Bool} (s : Assigned on off v value a b) where
  -- what the rules say does not matter to it
  bare : {x y : ℕ} → ModelOf t x y f → Model t.variables [] [] x y f
  unfolding obeys_all
  bare m = masked m refl

  pub theory_assigned : ModelOf t on off f → bit f v ≡ digit value → ModelOf t a b f
  theory_assigned m e = ruled (model_assigned s (bare m) e) m.obeyed

  pub assigned_theory : ModelOf t a b f → ModelOf t on off f × (bit f v ≡ digit value)
  assigned_theory m = let w = assigned_model s (bare m) in (ruled w.0 m.obeyed, w.1)
