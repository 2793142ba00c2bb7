-- Fillings and models (document 01, "Models and consequence").
-- A filling of n variables is a number below 2 ^ n: bit v is the value of variable v + 1, 1 for yes and 0 for no.
use Rattle.std.specs.Prelude.{◌≡◌, Bool, true, false, not, ◌&&◌, List, [], ◌∷◌, ℕ, zero, suc, ◌^◌, ◌<◌}
use Rattle.sets.specs.Sets.{Within, Apart}
use Rattle.literals.specs.Literal.{Literal}
use Rattle.literals.specs.Truth.{obeys, all_hold, obeys_masks, all_hold_masks}

-- ---- every filling, some filling

-- The test passes for all numbers below k. It stops at the first failure.
unfoldable pub every_under : ℕ → (ℕ → Bool) → Bool
every_under zero t = true
every_under (suc k) t = elim (t k) [ true ↦ every_under k t | false ↦ false ]

-- The test passes for every filling of n variables.
unfoldable pub every_filling : ℕ → (ℕ → Bool) → Bool
every_filling n t = every_under (2 ^ n) t

-- The test passes for some filling of n variables: it does not fail for every one.
unfoldable pub some_filling : ℕ → (ℕ → Bool) → Bool
some_filling n t = not (every_filling n (λ f. not (t f)))

-- ---- models, of rules as lists of literals

-- A filling obeys every rule.
unfoldable pub obeys_rules : ℕ → List (List Literal) → Bool
obeys_rules f [] = true
obeys_rules f (r ∷ rs) = obeys f r && obeys_rules f rs

-- A model obeys every rule and makes every given fact true.
unfoldable pub is_model : List (List Literal) → List Literal → ℕ → Bool
is_model rules facts f = obeys_rules f rules && all_hold f facts

-- ---- models, of rules as two parallel lists of masks

-- A filling obeys every rule, where rule i asks for a yes among the variables of ys[i] or a no among those of ns[i].
unfoldable pub obeys_all : ℕ → List ℕ → List ℕ → Bool
obeys_all f [] ns = true
obeys_all f (y ∷ ys) [] = true
obeys_all f (y ∷ ys) (n ∷ ns) = obeys_masks f y n && obeys_all f ys ns

-- A filling extends a partial one: the variables of `on` are yes, and those of `off` are no.
unfoldable pub extends : ℕ → ℕ → ℕ → Bool
extends on off f = all_hold_masks f on off

-- The filling f of n variables extends the partial one and obeys every rule.
pub record Model (n : ℕ) (ys ns : List ℕ) (on off f : ℕ) : Type 0 where
  pub below : f < 2 ^ n
  pub keeps : Within on f
  pub avoids : Apart off f
  pub obeyed : obeys_all f ys ns ≡ true

-- No filling is a model.
pub record NoModel (n : ℕ) (ys ns : List ℕ) (on off : ℕ) : Type 0 where
  pub none : (f : ℕ) → Model n ys ns on off f → ⊥
