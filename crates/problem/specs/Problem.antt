-- The problem that the engine answers: what a book says at a moment, with nothing left of its bytes. Models, the consequence, the step, the log and the
-- demands are
-- stated over it; how it is made from a book is said here alone.
use Rattle.std.specs.Prelude.{cond, List, [], ◌∷◌, ℕ, zero, suc, pos, negsuc, get_or}
use Rattle.sets.specs.Sets.{full}
use Rattle.literals.specs.Literal.{Literal}
use Rattle.literals.specs.Truth.{yes_mask, no_mask}
use Rattle.literals.specs.declared.LiteralSet.{LiteralSet}
use Rattle.dates.specs.Windows.{in_force}
use Rattle.dates.specs.declared.Moment.{Moment}
use Rattle.records.specs.Format.{Rule, OrderBook}
use Rattle.book.specs.Answer.{table}

-- So many variables; the rules, each a list of literals; the set of the variables that are choices, the others are helpers (element v of the set is
-- variable v + 1); the given facts; and the costs of the literals over choices, row by variable, the yes first and then the no.
pub record Problem : Type 0 where
  pub variables : ℕ
  pub rules : List (List Literal)
  pub choices : ℕ
  pub facts : List Literal
  pub costs : List (List ℕ)

-- The rules in force at a moment (document 02, E7), in the book's order: those without a window, and those whose window is open.
unfoldable pub rules_in_force : Moment → List Rule → List (List Literal)
rules_in_force moment [] = []
rules_in_force moment (r ∷ rs) = cond (in_force moment r.applies) (r.literals ∷ rules_in_force moment rs) (rules_in_force moment rs)

-- The problem of a book at a moment: its rules in force, and its first U variables as choices.
unfoldable pub problem_of : Moment → OrderBook → Problem
problem_of moment b =
    record {
      variables = b.header.variables;
      rules = rules_in_force moment b.rules;
      choices = full b.header.choices;
      facts = b.facts;
      costs = table b.costs;
    }

-- The cost of a literal over variable v + 1: row by variable, column by sign, 0 for yes and 1 for no.
unfoldable pub cost_of : List (List ℕ) → ℕ → ℕ → ℕ
cost_of table v column = get_or (get_or table v []) column 0

-- The cost of a literal: its sign chooses the column. There is no variable 0.
unfoldable pub literal_cost : List (List ℕ) → Literal → ℕ
literal_cost table (pos zero) = 0
literal_cost table (pos (suc v)) = cost_of table v 0
literal_cost table (negsuc v) = cost_of table v 1

-- The given facts as a set: the variables that they say yes of, and those that they say no of.
abbrev pub given : Problem → LiteralSet
given p = record { yes = yes_mask p.facts; no = no_mask p.facts }
