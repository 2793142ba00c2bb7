-- What the functions over weights ask and say. The weight of item v is entry v of a list.
use Rattle.std.specs.Prelude.{◌≡◌, List, ℕ, ◌+◌, ◌*◌, ◌^◌, ◌≤◌, ◌<◌, length, get_or}
use Rattle.sets.specs.Sets.{width, bit}

-- The weights of a list, by item.
abbrev pub weight_in : List ℕ → ℕ → ℕ
weight_in ws v = get_or ws v 0

-- Each item of the set has its weight in the list.
pub record Rows (ws : List ℕ) (s : ℕ) : Type 0 where
  pub rows : s < 2 ^ length ws

-- No item of the set weighs less than r.
pub record AtMostEach (ws : List ℕ) (s r : ℕ) : Type 0 where
  pub each : (v : ℕ) → bit s v ≡ 1 → r ≤ weight_in ws v

-- The amount can be taken off each item of the set.
pub record Enough (ws : List ℕ) (s amount : ℕ) : Type 0 where
  pub listed : Rows ws s
  pub at_most : AtMostEach ws s amount

-- The weights us are the weights ws with the amount taken off each item of the set.
pub record TakenOff (ws : List ℕ) (s amount : ℕ) (us : List ℕ) : Type 0 where
  pub rows : length us ≡ length ws
  pub each : (v : ℕ) → weight_in us v + bit s v * amount ≡ weight_in ws v

-- The items of r are those of the set that weigh less than a number.
pub record Lighter (ws : List ℕ) (s than r : ℕ) : Type 0 where
  pub of_set : (v : ℕ) → bit r v ≡ 1 → (bit s v ≡ 1) × (weight_in ws v < than)
  pub all_lighter : (v : ℕ) → bit s v ≡ 1 → weight_in ws v < than → bit r v ≡ 1

-- v is an item of the set.
pub record Item (s v : ℕ) : Type 0 where
  pub small : v < width
  pub member : bit s v ≡ 1

-- v is an item of the set, and none of the set weighs less.
pub record CheapestItem (ws : List ℕ) (s v : ℕ) : Type 0 where
  pub item : Item s v
  pub at_most : AtMostEach ws s (weight_in ws v)
