-- What holds of every problem that the engine makes: its numbers are within the limits, its rules and facts are over its variables.
use Rattle.std.specs.Prelude.{List, [], ◌∷◌, ℕ, ◌^◌, ◌≤◌, ◌<◌, length}
use Rattle.sets.specs.Sets.{Within, Apart}
use Rattle.literals.specs.Literal.{Literal}
use Rattle.literals.specs.Truth.{yes_mask, no_mask}
use Rattle.literals.specs.Laws.{Proper}
use Rattle.records.specs.Limits.{max_variables, max_choices, max_cost}
use Rattle.sat.specs.Laws.Rules.{Of}
use Rattle.problem.specs.Limits.{most_rules}
use Rattle.problem.specs.Problem.{Problem, cost_of}

-- Each rule is over n variables.
abbrev pub AllOf : ℕ → List (List Literal) → Type 0
AllOf n [] = Unit {0}
AllOf n (r ∷ rs) = Of n r × AllOf n rs

pub record ProperProblem (p : Problem) : Type 0 where
  pub few_variables : p.variables ≤ max_variables
  pub few_choices : p.choices < 2 ^ max_choices
  pub choices_below : p.choices < 2 ^ p.variables
  pub few_rules : length p.rules ≤ most_rules
  pub rules_over : AllOf p.variables p.rules
  pub facts_proper : Proper p.facts
  pub facts_apart : Apart (yes_mask p.facts) (no_mask p.facts)
  pub yes_facts : Within (yes_mask p.facts) p.choices
  pub no_facts : Within (no_mask p.facts) p.choices
  pub cheap : (v column : ℕ) → cost_of p.costs v column ≤ max_cost
