-- A problem as the code holds it: each rule as two masks.
use Rattle.std.specs.Prelude.{cond, List, [], ◌∷◌, ℕ, ◌^◌, ◌<◌}
use Rattle.sets.specs.Sets.{full}
use Rattle.dates.specs.Windows.{in_force}
use Rattle.dates.specs.declared.Moment.{Moment}
use Rattle.literals.specs.declared.LiteralSet.{LiteralSet}
use Rattle.records.specs.declared.Book.{Book}
use Rattle.records.specs.declared.Rule.{Rule}
use Rattle.propagation.specs.Promises.{yes_masks, no_masks}
use Rattle.sat.specs.Promises.{Posed}
use Rattle.problem.specs.declared.MaskedProblem.{MaskedProblem}

-- Of a book's rules as they are kept, the masks of those in force, in their order.
unfoldable pub kept_in_force : Moment → List Rule → List LiteralSet
kept_in_force moment [] = []
kept_in_force moment (r ∷ rs) = cond (in_force moment r.applies) (r.literals ∷ kept_in_force moment rs) (kept_in_force moment rs)

-- What is made of a book as it is kept.
abbrev pub masked_from : Moment → Book → MaskedProblem
masked_from moment b =
    record {
      variables = b.variables;
      rules = kept_in_force moment b.rules;
      choices = full b.choices;
      costs = b.costs;
      facts = b.facts;
    }

-- The masks of the rules, as a search is handed them.
abbrev pub yes_in : MaskedProblem → List ℕ
yes_in p = yes_masks p.rules

abbrev pub no_in : MaskedProblem → List ℕ
no_in p = no_masks p.rules

-- What is said of a number of variables and of rules, as said of a problem.
abbrev pub of_rules : {A : Type 1} → (ℕ → List ℕ → List ℕ → A) → MaskedProblem → A
of_rules P p = P p.variables (yes_in p) (no_in p)

-- A problem that a search can be made of.
pub record Searchable (p : MaskedProblem) : Type 0 where
  pub choices_below : p.choices < 2 ^ p.variables
  pub posed : Posed p.variables (yes_in p) (no_in p) p.facts.yes p.facts.no
