-- What the functions of the first model ask and say.
use Rattle.std.specs.Prelude.{◌≡◌, List, ℕ, ◌≤◌, ◌<◌, Option, Some, None}
use Rattle.sets.specs.Sets.{full, union, inter, diff}
use Rattle.sat.specs.Meaning.{Model, NoModel}
use Rattle.sat.specs.Promises.{Posed}
use Rattle.first_model.specs.Meaning.{weight, First}

-- The partial filling (a, b) is (on, off) with the values that m gives to the first v variables.
pub record Fixed (on off m v a b : ℕ) : Type 0 where
  pub yes_too : a ≡ union on (inter m (full v))
  pub no_too : b ≡ union off (diff (full v) m)

-- m is a model, and the first as far as the first v variables go: no model weighs less over them.
pub record FirstUpTo (n : ℕ) (ys ns : List ℕ) (on off v m : ℕ) : Type 0 where
  pub model : Model n ys ns on off m
  pub least : (g : ℕ) → Model n ys ns on off g → weight v m ≤ weight v g

-- Such a model, and the next variable.
pub record Lowering (n : ℕ) (ys ns : List ℕ) (on off m v : ℕ) : Type 0 where
  pub posed : Posed n ys ns on off
  pub below : v < n
  pub up_to : FirstUpTo n ys ns on off v m

-- What is found: the first model, or that there is none.
abbrev pub FindsFirst : ℕ → List ℕ → List ℕ → ℕ → ℕ → Option ℕ → Type 0
FindsFirst n ys ns on off (Some f) = First (Model n ys ns on off) f
FindsFirst n ys ns on off None = NoModel n ys ns on off

pub record FirstSearched (n : ℕ) (ys ns : List ℕ) (on off : ℕ) (r : Option ℕ) : Type 0 where
  pub found : FindsFirst n ys ns on off r
