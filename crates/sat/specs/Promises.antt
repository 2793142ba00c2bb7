-- What the functions of the search ask and say.
use Rattle.std.specs.Prelude.{◌≡◌, true, List, ℕ, ◌+◌, ◌-◌, ◌^◌, ◌≤◌, ◌<◌, length, Option, Some, None, Result, Ok, Err}
use Rattle.sets.specs.Sets.{width, bit, union, count, Within, Apart}
use Rattle.literals.specs.Truth.{obeys_masks}
use Rattle.literals.specs.declared.LiteralSet.{LiteralSet}
use Rattle.propagation.specs.Promises.{MasksBelow, ForcesOne, ToTry, Placed}
use Rattle.sat.specs.Meaning.{obeys_all, Model, NoModel}

-- ---- what is asked

-- Rules and a partial filling of n variables: each rule has both masks, and no variable is both on and off.
pub record Posed (n : ℕ) (ys ns : List ℕ) (on off : ℕ) : Type 0 where
  pub small : n ≤ width
  pub paired : length ys ≡ length ns
  pub yes_masks : MasksBelow n ys
  pub no_masks : MasksBelow n ns
  pub on_below : on < 2 ^ n
  pub off_below : off < 2 ^ n
  pub apart : Apart on off

-- ---- variables not set

-- Variable v of n is not set.
pub record Unset (n on off v : ℕ) : Type 0 where
  pub below : v < n
  pub not_on : bit on v ≡ 0
  pub not_off : bit off v ≡ 0

-- How many of n variables are not set.
abbrev pub unset : ℕ → ℕ → ℕ → ℕ
unset n on off = n - (count on + count off)

-- ---- rules that the rules imply

-- A rule of n variables that every filling of the rules obeys.
pub record Implied (n : ℕ) (ys ns : List ℕ) (y m : ℕ) : Type 0 where
  pub yes_below : y < 2 ^ n
  pub no_below : m < 2 ^ n
  pub obeyed : (f : ℕ) → obeys_all f ys ns ≡ true → obeys_masks f y m ≡ true

-- ---- the search

-- A partial filling to follow; the variables of base are set.
pub record Following (n : ℕ) (ys ns : List ℕ) (on off base : ℕ) : Type 0 where
  pub posed : Posed n ys ns on off
  pub base_set : Within base (union on off)

-- A rule to act on, which forces a variable.
pub record Forcing (n : ℕ) (ys ns : List ℕ) (on off base y m : ℕ) : Type 0 where
  pub following : Following n ys ns on off base
  pub implied : Implied n ys ns y m
  pub unit : ForcesOne y m on off

-- Variables to try.
pub record Trying (n : ℕ) (ys ns : List ℕ) (on off base x : ℕ) : Type 0 where
  pub following : Following n ys ns on off base
  pub to_try : ToTry ys ns on off x

-- What a branch gives: a model, or a rule that is implied and in its place.
abbrev pub Ends : ℕ → List ℕ → List ℕ → ℕ → ℕ → ℕ → Result ℕ LiteralSet → Type 0
Ends n ys ns on off base (Ok f) = Model n ys ns on off f
Ends n ys ns on off base (Err r) = Implied n ys ns r.yes r.no × Placed base r.yes r.no on off

pub record Followed (n : ℕ) (ys ns : List ℕ) (on off base : ℕ) (r : Result ℕ LiteralSet) : Type 0 where
  pub ends : Ends n ys ns on off base r

-- A partial filling of n variables, which a mask has room for.
pub record PartialOf (n on off : ℕ) : Type 0 where
  pub small : n ≤ width
  pub on_below : on < 2 ^ n
  pub apart : Apart on off

-- A filling of n variables that extends the partial one.
pub record Completes (n on off f : ℕ) : Type 0 where
  pub below : f < 2 ^ n
  pub keeps : Within on f
  pub avoids : Apart off f

-- The partial filling (a, b) has the models of (on, off).
pub record Keeps (n : ℕ) (ys ns : List ℕ) (on off a b : ℕ) : Type 0 where
  pub posed : Posed n ys ns a b
  pub forth : (f : ℕ) → Model n ys ns on off f → Model n ys ns a b f
  pub back : (f : ℕ) → Model n ys ns a b f → Model n ys ns on off f

-- What the search gives: a model, or that there is none. Which model is free.
abbrev pub Finds : ℕ → List ℕ → List ℕ → ℕ → ℕ → Option ℕ → Type 0
Finds n ys ns on off (Some f) = Model n ys ns on off f
Finds n ys ns on off None = NoModel n ys ns on off

pub record Searched (n : ℕ) (ys ns : List ℕ) (on off : ℕ) (r : Option ℕ) : Type 0 where
  pub found : Finds n ys ns on off r
