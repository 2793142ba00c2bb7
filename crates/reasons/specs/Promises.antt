-- What the functions of the search for one goal ask and say.
use Rattle.std.specs.Prelude.{◌≡◌, List, ℕ, ◌+◌, ◌^◌, ◌≤◌, ◌<◌, length, Some, None, Option}
use Rattle.sets.specs.Sets.{width, bit, union, inter, insert, Within}
use Rattle.items.specs.Cheapest.{Least, InInterval, Witnessed}
use Rattle.items.specs.Bounds.{Narrowed}
use Rattle.items.specs.Promises.{weight_in, Item}
use Rattle.records.specs.Limits.{max_choices}
use Rattle.witnesses.specs.Promises.{Refutes, key_at, Aimed, Pooled}
use Rattle.witnesses.specs.declared.Aim.{Aim}
use Rattle.witnesses.specs.declared.Part.{Part}
use Rattle.propagation.specs.Promises.{yes_masks, no_masks}
use Rattle.reasons.specs.declared.Goal.{Goal}
use Rattle.reasons.specs.declared.look.OpenPart.{OpenPart}
use Rattle.reasons.specs.declared.split.Cut.{Cut}

-- ---- a goal

-- What is said of the rules, or of the rules, the weights and the aim, as said of a goal.
abbrev pub of_rules : {A : Type 1} → (ℕ → List ℕ → List ℕ → A) → Goal → A
of_rules P g = P g.formula.variables (yes_masks g.formula.rules.now) (no_masks g.formula.rules.now)

abbrev pub of_goal : {A : Type 1} → (ℕ → List ℕ → List ℕ → List ℕ → Aim → A) → Goal → A
of_goal P g = of_rules P g g.weights.now g.aim

-- ---- a look at a part

-- What a look at a part tells of the sets with the test Con: that none has a key below best; or a limit within which those lie, and a witness for it
-- where one is open.
abbrev pub Sees : (ℕ → Type 0) → List ℕ → Aim → Part → ℕ → Option OpenPart → Type 0
Sees Con ws aim part best None = Least (InInterval Con part.chosen part.limit) (key_at ws aim) best best
Sees Con ws aim part best (Some o) =
    Narrowed Con (key_at ws aim) part.chosen part.limit best o.limit × Witnessed Con part.chosen o.limit o.witness × (part.key < best)

pub record Seen (Con : ℕ → Type 0) (ws : List ℕ) (aim : Aim) (part : Part) (best : ℕ) (r : Option OpenPart) : Type 0 where
  pub said : Sees Con ws aim part best r

-- ---- the search of a part

-- Weights for the known literals, and keys of 64 bits.
pub record Sought (n : ℕ) (ys ns ws : List ℕ) (aim : Aim) : Type 0 where
  pub aimed : Aimed n ys ns aim
  pub rows : length ws ≡ max_choices
  pub weighed : union aim.known.yes aim.known.no < 2 ^ max_choices
  pub cheap : key_at ws aim (union aim.known.yes aim.known.no) < 2 ^ width

pub record Exploring (n : ℕ) (ys ns ws : List ℕ) (aim : Aim) (part : Part) : Type 0 where
  pub sought : Sought n ys ns ws aim
  pub nested : Within part.chosen part.limit
  pub known : Within part.limit (union aim.known.yes aim.known.no)
  pub keyed : part.key ≡ key_at ws aim part.chosen

-- A look at a part of which the candidates are told; the pool holds fillings that obey the rules.
pub record LookedAt (n : ℕ) (ys ns ws : List ℕ) (aim : Aim) (part : Part) (best : ℕ) (ms : List ℕ) (r : Option OpenPart) : Type 0 where
  pub seen : Seen (Refutes n ys ns aim) ws aim part best r
  pub pooled : Pooled n ys ns ms

-- The least of a bound and the keys of the part's candidates. The pool holds fillings that obey the rules.
pub record Explored (n : ℕ) (ys ns ws : List ℕ) (aim : Aim) (part : Part) (best : ℕ) (ms : List ℕ) (r : ℕ) : Type 0 where
  pub cheapest : Least (InInterval (Refutes n ys ns aim) part.chosen part.limit) (key_at ws aim) best r
  pub pooled : Pooled n ys ns ms

-- ---- where a part is cut

-- No item of the witness is within the limit, or one of them.
abbrev pub CutsAt : ℕ → ℕ → Option Cut → Type 0
CutsAt limit w None = inter w limit ≡ 0
CutsAt limit w (Some c) = (c.limit ≡ limit) × Item (inter w limit) c.item

pub record CutAt (limit w : ℕ) (r : Option Cut) : Type 0 where
  pub said : CutsAt limit w r

-- A limit within which each candidate with a key below best lies, and an item within it that is not chosen.
pub record SplitsOn (n : ℕ) (ys ns ws : List ℕ) (aim : Aim) (part : Part) (best : ℕ) (ms : List ℕ) (limit item : ℕ) : Type 0 where
  pub pooled : Pooled n ys ns ms
  pub narrow : Narrowed (Refutes n ys ns aim) (key_at ws aim) part.chosen part.limit best limit
  pub small : item < width
  pub limited : bit limit item ≡ 1
  pub unused : bit part.chosen item ≡ 0

-- The part is done with, or cut at an item; the least key so far is then as it was.
abbrev pub CutsUp : ℕ → List ℕ → List ℕ → List ℕ → Aim → Part → ℕ → List ℕ → ℕ → Option Cut → Type 0
CutsUp n ys ns ws aim part best ms least None = Explored n ys ns ws aim part best ms least
CutsUp n ys ns ws aim part best ms least (Some c) = SplitsOn n ys ns ws aim part best ms c.limit c.item × (least ≡ best)

pub record CutUp (n : ℕ) (ys ns ws : List ℕ) (aim : Aim) (part : Part) (best : ℕ) (ms : List ℕ) (least : ℕ) (r : Option Cut) : Type 0 where
  pub said : CutsUp n ys ns ws aim part best ms least r

-- The item has a weight, and the key has room for it.
pub record ItemFits (ws : List ℕ) (part : Part) (item : ℕ) : Type 0 where
  pub row : item < max_choices
  pub fits : part.key + weight_in ws item < 2 ^ width

-- The part of the sets with the item.
abbrev pub with_item : List ℕ → Part → ℕ → ℕ → Part
with_item ws part limit item = record { chosen = insert part.chosen item; limit = limit; key = part.key + weight_in ws item }

-- What is left of a part while it is searched: from the least key so far, the least of the rest is the least of the whole.
pub record Remaining (n : ℕ) (ys ns ws : List ℕ) (aim : Aim) (part : Part) (best : ℕ) (ms : List ℕ) (rest : Part) (least : ℕ) : Type 0 where
  pub exploring : Exploring n ys ns ws aim rest
  pub same_chosen : rest.chosen ≡ part.chosen
  pub smaller : rest.limit ≤ part.limit
  pub pooled : Pooled n ys ns ms
  pub finish : (r : ℕ) → Least (InInterval (Refutes n ys ns aim) rest.chosen rest.limit) (key_at ws aim) least r
      → Least (InInterval (Refutes n ys ns aim) part.chosen part.limit) (key_at ws aim) best r
