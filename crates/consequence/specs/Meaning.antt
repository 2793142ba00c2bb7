-- Models, the consequence, and what a set of literals forces (document 01, "Models and consequence" and "The log").
-- A filling of n variables is a number below 2 ^ n: bit v is the value of variable v + 1. A set of literals is two masks: `on` holds the variables that it
-- says yes of, `off` those that it says no of. The definitions with a Bool are computed; those at the end say the same for every filling.
use Rattle.std.specs.Prelude.{◌≡◌, Bool, true, not, cond, ◌&&◌, ◌||◌, ℕ, zero, suc, ◌^◌, ◌<◌, pos, negsuc}
use Rattle.sets.specs.Sets.{has, insert, Within, Apart}
use Rattle.literals.specs.Literal.{Literal}
use Rattle.literals.specs.Truth.{holds, all_hold_masks}
use Rattle.literals.specs.declared.LiteralSet.{LiteralSet}
use Rattle.sat.specs.Meaning.{every_filling, some_filling, obeys_rules, is_model}
use Rattle.problem.specs.Problem.{Problem}

-- ---- models and the consequence of a problem

-- A model obeys every rule and makes every given fact true.
unfoldable pub models : Problem → ℕ → Bool
models p f = is_model p.rules p.facts f

-- Some filling is a model.
unfoldable pub has_model : Problem → Bool
has_model p = some_filling p.variables (models p)

-- A literal is true in every model.
unfoldable pub follows : Problem → Literal → Bool
follows p l = every_filling p.variables (λ f. not (models p f) || holds f l)

-- The set of the numbers below n that pass a test.
unfoldable pub collect : ℕ → (ℕ → Bool) → ℕ
collect zero t = 0
collect (suc n) t = cond (t n) (insert (collect n t) n) (collect n t)

-- The consequence is the set of literals over choices true in every model: those that say yes, and those that say no. Helpers are left out.
unfoldable pub yes_consequence : Problem → ℕ
yes_consequence p = collect p.variables (λ v. has p.choices v && follows p (pos (suc v)))

unfoldable pub no_consequence : Problem → ℕ
no_consequence p = collect p.variables (λ v. has p.choices v && follows p (negsuc v))

abbrev pub consequence_of : Problem → LiteralSet
consequence_of p = record { yes = yes_consequence p; no = no_consequence p }

-- ---- forcing

-- All that forcing depends on: how many variables there are, which fillings obey the rules, and which variables are choices.
pub record Theory : Type 0 where
  pub variables : ℕ
  pub obeyed : ℕ → Bool
  pub choices : ℕ

-- The theory of a problem: a filling obeys the rules where it obeys each of them.
unfoldable pub theory_of : Problem → Theory
theory_of p = record { variables = p.variables; obeyed = λ f. obeys_rules f p.rules; choices = p.choices }

-- A filling obeys the rules and makes all of a set true.
unfoldable pub obeying : Theory → ℕ → ℕ → ℕ → Bool
obeying t on off f = t.obeyed f && all_hold_masks f on off

-- A set contradicts the rules when no filling obeys the rules and makes all of the set true.
unfoldable pub contradicts : Theory → ℕ → ℕ → Bool
contradicts t on off = every_filling t.variables (λ f. not (obeying t on off f))

-- A set forces a literal with the rules when that literal is true in every filling that obeys the rules and makes all of the set true.
-- First the literal that says yes of variable v + 1, then the one that says no.
unfoldable pub forces_yes : Theory → ℕ → ℕ → ℕ → Bool
forces_yes t on off v = every_filling t.variables (λ f. not (obeying t on off f) || has f v)

unfoldable pub forces_no : Theory → ℕ → ℕ → ℕ → Bool
forces_no t on off v = every_filling t.variables (λ f. not (obeying t on off f) || not (has f v))

-- The literals over choices that a set forces: those that say yes, and those that say no. Of the given facts this is the consequence
-- (`yes_consequence_lem`, `no_consequence_lem` in Laws/Problems).
unfoldable pub yes_forced : Theory → ℕ → ℕ → ℕ
yes_forced t on off = collect t.variables (λ v. has t.choices v && forces_yes t on off v)

unfoldable pub no_forced : Theory → ℕ → ℕ → ℕ
no_forced t on off = collect t.variables (λ v. has t.choices v && forces_no t on off v)

-- ---- the same for every filling

-- The filling f obeys the rules and makes all of a set true.
pub record ModelOf (t : Theory) (on off f : ℕ) : Type 0 where
  pub below : f < 2 ^ t.variables
  pub keeps : Within on f
  pub avoids : Apart off f
  pub obeyed : t.obeyed f ≡ true

-- No filling does.
pub record NoModelOf (t : Theory) (on off : ℕ) : Type 0 where
  pub none : (f : ℕ) → ModelOf t on off f → ⊥
