-- When a literal is true and a rule is obeyed (document 01, "Models and consequence"), for literals in a list and for literals as two masks.
use Rattle.std.specs.Prelude.{Bool, true, false, not, ◌&&◌, ◌||◌, List, [], ◌∷◌, ℕ, zero, suc, pos, negsuc}
use Rattle.sets.specs.Sets.{has, single, union, subset, disjoint}
use Rattle.literals.specs.Literal.{Literal}

-- A filling is a number: bit v - 1 is the value of variable v, 1 for yes and 0 for no.

-- Whether a literal is true in a filling. There is no variable 0.
unfoldable pub holds : ℕ → Literal → Bool
holds f (pos zero) = false
holds f (pos (suc v)) = has f v
holds f (negsuc v) = not (has f v)

-- A rule is obeyed if one of its literals is true.
unfoldable pub obeys : ℕ → List Literal → Bool
obeys f [] = false
obeys f (l ∷ ls) = holds f l || obeys f ls

-- All of the literals are true.
unfoldable pub all_hold : ℕ → List Literal → Bool
all_hold f [] = true
all_hold f (l ∷ ls) = holds f l && all_hold f ls

-- The variable that a literal says yes of, as a mask, and the variable that it says no of.
unfoldable pub yes_bit : Literal → ℕ
yes_bit (pos zero) = 0
yes_bit (pos (suc v)) = single v
yes_bit (negsuc v) = 0

unfoldable pub no_bit : Literal → ℕ
no_bit (pos v) = 0
no_bit (negsuc v) = single v

-- The variables that some literal of a list says yes of, and those that some literal says no of.
unfoldable pub yes_mask : List Literal → ℕ
yes_mask [] = 0
yes_mask (l ∷ ls) = union (yes_bit l) (yes_mask ls)

unfoldable pub no_mask : List Literal → ℕ
no_mask [] = 0
no_mask (l ∷ ls) = union (no_bit l) (no_mask ls)

-- A rule of two masks is obeyed if a variable of the first is yes or a variable of the second is no.
unfoldable pub obeys_masks : ℕ → ℕ → ℕ → Bool
obeys_masks f p q = not (disjoint p f) || not (subset q f)

-- All literals of two masks are true if each variable of the first is yes and each variable of the second is no.
unfoldable pub all_hold_masks : ℕ → ℕ → ℕ → Bool
all_hold_masks f p q = subset p f && disjoint q f
