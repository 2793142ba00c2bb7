-- What the functions of the consequence ask and say.
use Rattle.std.specs.Prelude.{◌≡◌, true, false, List, ℕ, Option, Some, None}
use Rattle.literals.specs.declared.LiteralSet.{LiteralSet}
use Rattle.sat.specs.Meaning.{obeys_all, Model}
use Rattle.consequence.specs.Meaning.{Theory, contradicts, yes_forced, no_forced, ModelOf}
use Rattle.consequence.specs.Algorithm2.{Denies, Narrowed}
use Rattle.consequence.specs.declared.Forced.{Forced}

-- The theory that the arguments are: the rules are masks.
abbrev pub mask_theory : ℕ → List ℕ → List ℕ → ℕ → Theory
mask_theory n ys ns ch = record { variables = n; obeyed = λ f. obeys_all f ys ns; choices = ch }

-- ---- one model that denies a literal of a set, or none

abbrev pub Denial : ℕ → List ℕ → List ℕ → ℕ → ℕ → LiteralSet → Option ℕ → Type 0
Denial n ys ns on off kept (Some m) = Model n ys ns on off m × Denies kept m
Denial n ys ns on off kept None = (f : ℕ) → Model n ys ns on off f → Denies kept f → ⊥

-- A model of the rules and the set that denies a kept literal, or no such model is left.
pub record Denied (n : ℕ) (ys ns : List ℕ) (on off : ℕ) (kept : LiteralSet) (r : Option ℕ) : Type 0 where
  pub said : Denial n ys ns on off kept r

-- ---- what is forced

-- What the set forces over the choices, by Algorithm 2: so many models of the rules and the set were found for it.
pub record Propagated (t : Theory) (on off : ℕ) (answer : LiteralSet) (number : ℕ) : Type 0 where
  pub yes_forced : answer.yes ≡ yes_forced t on off
  pub no_forced : answer.no ≡ no_forced t on off
  pub narrowed : Narrowed t.variables t.choices (ModelOf t on off) number answer

abbrev pub Concludes : ℕ → List ℕ → List ℕ → ℕ → ℕ → ℕ → Option Forced → Type 0
Concludes n ys ns ch on off None = contradicts (mask_theory n ys ns ch) on off ≡ true
Concludes n ys ns ch on off (Some r) =
    (contradicts (mask_theory n ys ns ch) on off ≡ false) × Propagated (mask_theory n ys ns ch) on off r.kept r.models

-- No filling obeys the rules and makes the set true; or some does, and the two masks are exactly what is forced, found as Algorithm 2 has it.
pub record Concluded (n : ℕ) (ys ns : List ℕ) (ch on off : ℕ) (r : Option Forced) : Type 0 where
  pub said : Concludes n ys ns ch on off r
