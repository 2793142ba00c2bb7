-- Fillings of the choices alone (document 02, E1), and when two theories, each with variables and rules of its own, leave the same ones.
use Rattle.std.specs.Prelude.{◌≡◌, Bool, true, not, ◌&&◌, ◌||◌, ℕ, ◌^◌, ◌<◌, eqb}
use Rattle.sets.specs.Sets.{inter}
use Rattle.sat.specs.Meaning.{every_filling, some_filling}
use Rattle.problem.specs.Problem.{Problem}
use Rattle.consequence.specs.Meaning.{Theory, theory_of, contradicts, yes_forced, no_forced}

-- Some filling of all variables obeys the rules and is g when it is restricted to the choices, the helpers taken out. The given facts are left aside.
pub record Restriction (t : Theory) (g : ℕ) : Type 0 where
  pub filling : ℕ
  pub below : filling < 2 ^ t.variables
  pub obeyed : t.obeyed filling ≡ true
  pub restricted : inter filling t.choices ≡ g

-- The fillings that obey the rules of the one and those that obey the rules of the other give the same set when they are restricted to the choices.
pub record SameFillings (t u : Theory) : Type 0 where
  pub there : (g : ℕ) → Restriction t g → Restriction u g
  pub back : (g : ℕ) → Restriction u g → Restriction t g

-- The same, computed: each filling that obeys the rules of t has one that obeys the rules of u and is the same on the choices; and the other way round.
unfoldable pub fillings_within : Theory → Theory → Bool
fillings_within t u =
    every_filling t.variables
    (λ f. not (t.obeyed f) || some_filling u.variables (λ g. u.obeyed g && eqb (inter g u.choices) (inter f t.choices)))

unfoldable pub fillings_agree : Theory → Theory → Bool
fillings_agree t u = fillings_within t u && fillings_within u t

-- The same choices, which are variables of both, and the same fillings of them.
pub record SameChoices (t u : Theory) : Type 0 where
  pub choices_same : t.choices ≡ u.choices
  pub fillings_same : SameFillings t u
  pub below : t.choices < 2 ^ t.variables
  pub other_below : u.choices < 2 ^ u.variables

-- The law that E1 rests on: a set of literals over such choices contradicts the rules of both or of neither, and it forces the same literals over choices
-- with both (`same_forcing`, Laws/SameFillings).
pub record SameForcing (t u : Theory) (on off : ℕ) : Type 0 where
  pub same_contradicts : contradicts t on off ≡ contradicts u on off
  pub same_yes : yes_forced t on off ≡ yes_forced u on off
  pub same_no : no_forced t on off ≡ no_forced u on off

-- Two problems with the same choices, costs and given facts, and the same fillings of the choices. Their variables, helpers and rules may differ.
pub record SameOverChoices (p q : Problem) : Type 0 where
  pub same_choices : p.choices ≡ q.choices
  pub same_costs : p.costs ≡ q.costs
  pub same_facts : p.facts ≡ q.facts
  pub same_fillings : SameFillings (theory_of p) (theory_of q)
