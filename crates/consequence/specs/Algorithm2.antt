-- Document 003's Algorithm 2, OptimalPropagate, by the models that it finds (E3). A list of models has the last one found first. The numbers are the lines of
-- document 003 that src/lib.rt stands beside. Said of any number of variables and choices, and of any fillings that are to count as models.
use Rattle.std.specs.Prelude.{◌≡◌, Bool, true, false, ◌&&◌, List, [], ◌∷◌, ℕ, suc, ◌+◌, ◌^◌, ◌≤◌, ◌<◌, pos, negsuc, length}
use Rattle.sets.specs.Sets.{has, inter, diff, count}
use Rattle.literals.specs.Literal.{Literal}
use Rattle.literals.specs.Truth.{holds}
use Rattle.literals.specs.declared.LiteralSet.{LiteralSet}
use Rattle.problem.specs.Problem.{Problem}
use Rattle.consequence.specs.Meaning.{models, collect}
use Rattle.consequence.specs.Demand2.{FilledIn}

-- ---- what models have in common

-- A literal is true in every filling of a list.
unfoldable pub in_every : List ℕ → Literal → Bool
in_every [] l = true
in_every (f ∷ found) l = holds f l && in_every found l

module _ (n choices : ℕ) where
  -- The literals over choices that are true in every filling of a list of fillings of n variables: those that say yes, and those that say no.
  unfoldable pub common_yes : List ℕ → ℕ
  common_yes found = collect n (λ v. has choices v && in_every found (pos (suc v)))

  unfoldable pub common_no : List ℕ → ℕ
  common_no found = collect n (λ v. has choices v && in_every found (negsuc v))

  abbrev pub common_of : List ℕ → LiteralSet
  common_of found = record { yes = common_yes found; no = common_no found }

-- ---- what is kept, line by line

-- Lines 2 and 11: the literals over choices that are true in a model.
abbrev pub over_choices : ℕ → ℕ → LiteralSet
over_choices choices m = record { yes = inter m choices; no = diff choices m }

-- Line 11: the literals that are in both sets.
abbrev pub in_both : LiteralSet → LiteralSet → LiteralSet
in_both a b = record { yes = inter a.yes b.yes; no = inter a.no b.no }

-- What is kept after the last of the models found: of the first what line 2 says, of each one more what line 11 says. (Before the first, every literal over a
-- choice.)
unfoldable pub kept_after : ℕ → List ℕ → LiteralSet
kept_after choices [] = record { yes = choices; no = choices }
kept_after choices (m ∷ []) = over_choices choices m
kept_after choices (m ∷ (k ∷ before)) = in_both (kept_after choices (k ∷ before)) (over_choices choices m)

-- How many literals a set has.
abbrev pub size : LiteralSet → ℕ
size set = count set.yes + count set.no

-- A filling denies a literal of a set: line 5 asks for one such.
pub record Denies (set : LiteralSet) (f : ℕ) : Type 0 where
  pub literal : Literal
  pub in_set : FilledIn set literal
  pub denied : holds f literal ≡ false

-- ---- the models found

module _ (n choices : ℕ) (model : ℕ → Type 0) where
  -- The first model: what is kept after it is what it says of the choices.
  pub record FoundFirst (m : ℕ) : Type 0 where
    pub is_model : model m
    pub common : kept_after choices (m ∷ []) ≡ common_of n choices (m ∷ [])

  -- A model found after others: it denies a literal kept before it, what is kept after it is what all models found so far have in common, and it takes at
  -- least one literal out.
  pub record FoundNext (before : List ℕ) (m : ℕ) : Type 0 where
    pub is_model : model m
    pub denies : Denies (kept_after choices before) m
    pub common : kept_after choices (m ∷ before) ≡ common_of n choices (m ∷ before)
    pub takes_out : size (kept_after choices (m ∷ before)) < size (kept_after choices before)

  -- The models of a list were found one after the other, at least one.
  abbrev pub FoundInTurn : List ℕ → Type 0
  FoundInTurn [] = ⊥
  FoundInTurn (m ∷ []) = FoundFirst m
  FoundInTurn (m ∷ (k ∷ before)) = FoundNext (k ∷ before) m × FoundInTurn (k ∷ before)

  -- So many models were found so far, at most one more than there are choices, and what is kept is what they have in common over the choices.
  pub record Narrowing (number : ℕ) (kept : LiteralSet) : Type 0 where
    pub found : List ℕ
    pub in_turn : FoundInTurn found
    pub counted : length found ≡ number
    pub at_most : number ≤ count choices + 1
    pub common : kept ≡ common_of n choices found

  -- The same at the end: besides, no model is left that denies a literal of the answer.
  pub record Narrowed (number : ℕ) (answer : LiteralSet) : Type 0 where
    pub narrowing : Narrowing number answer
    pub none_left : (f : ℕ) → model f → Denies answer f → ⊥

-- The models of a problem, as fillings of its variables.
pub record ModelFilling (p : Problem) (f : ℕ) : Type 0 where
  pub below : f < 2 ^ p.variables
  pub is_model : models p f ≡ true
