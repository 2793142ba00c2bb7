-- Demand 2: what is filled in, for every filling.
use Rattle.std.specs.Prelude.{◌≡◌, true, ℕ, zero, suc, ◌^◌, ◌<◌, pos, negsuc}
use Rattle.sets.specs.Sets.{bit}
use Rattle.literals.specs.Literal.{Literal}
use Rattle.literals.specs.Truth.{holds}
use Rattle.literals.specs.declared.LiteralSet.{LiteralSet}
use Rattle.problem.specs.Problem.{Problem}
use Rattle.consequence.specs.Meaning.{models}

-- A literal is in a set of literals: it is filled in where the set is what was answered.
abbrev pub FilledIn : LiteralSet → Literal → Type 0
FilledIn two (pos zero) = ⊥
FilledIn two (pos (suc v)) = bit two.yes v ≡ 1
FilledIn two (negsuc v) = bit two.no v ≡ 1

-- A literal is over a choice of the problem.
abbrev pub OverChoice : Problem → Literal → Type 0
OverChoice p (pos zero) = ⊥
OverChoice p (pos (suc v)) = bit p.choices v ≡ 1
OverChoice p (negsuc v) = bit p.choices v ≡ 1

-- A literal holds in every filling of the variables that obeys the rules and the given facts.
pub record Always (p : Problem) (l : Literal) : Type 0 where
  pub always : (f : ℕ) → f < 2 ^ p.variables → models p f ≡ true → holds f l ≡ true

-- Each filled-in choice holds in every such filling, and each choice with that property is filled in.
pub record Demand2 (p : Problem) (two : LiteralSet) : Type 0 where
  pub follows_always : (l : Literal) → FilledIn two l → OverChoice p l × Always p l
  pub all_filled_in : (l : Literal) → OverChoice p l → Always p l → FilledIn two l

-- There is no such filling.
pub record NoFilling (p : Problem) : Type 0 where
  pub none : (f : ℕ) → f < 2 ^ p.variables → models p f ≡ true → ⊥
