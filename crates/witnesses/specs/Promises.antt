-- What the functions of the question and of the bound for one goal ask and say.
use Rattle.std.specs.Prelude.{◌≡◌, ◌⊎◌, Bool, true, not, cond, List, ℕ, ◌+◌, ◌^◌, ◌≤◌, ◌<◌, length, get_or, Some, Option}
use Rattle.sets.specs.Sets.{width, bit, has, union, inter, diff, insert, Within, Apart}
use Rattle.items.specs.Cheapest.{Witnessed}
use Rattle.items.specs.Witnesses.{Pool}
use Rattle.items.specs.Bounds.{sum_key, LowerBound, Bounding}
use Rattle.items.specs.Promises.{weight_in, Rows, AtMostEach, TakenOff}
use Rattle.records.specs.Limits.{max_choices}
use Rattle.sat.specs.Meaning.{obeys_all, NoModel}
use Rattle.propagation.specs.Promises.{digit}
use Rattle.sat.specs.Promises.{Posed}
use Rattle.witnesses.specs.declared.Aim.{Aim}
use Rattle.witnesses.specs.declared.Part.{Part}
use Rattle.witnesses.specs.declared.bound.Bounds.{Bounds}

-- ---- the question for one goal

-- The reasons over the variables of s, with the goal's opposite.
unfoldable pub aim_on : Aim → ℕ → ℕ
aim_on aim s = cond aim.says (inter s aim.known.yes) (insert (inter s aim.known.yes) aim.goal)

unfoldable pub aim_off : Aim → ℕ → ℕ
aim_off aim s = cond aim.says (insert (inter s aim.known.no) aim.goal) (inter s aim.known.no)

pub record Against (aim : Aim) (s on off : ℕ) : Type 0 where
  pub on_said : on ≡ aim_on aim s
  pub off_said : off ≡ aim_off aim s

-- The variables of the known literals that a filling makes false.
abbrev pub denied_by : ℕ → ℕ → ℕ → ℕ
denied_by on off f = union (diff on f) (inter off f)

-- No filling obeys the rules and makes the reasons and the goal's opposite true.
abbrev pub Refutes : ℕ → List ℕ → List ℕ → Aim → ℕ → Type 0
Refutes n ys ns aim s = NoModel n ys ns (aim_on aim s) (aim_off aim s)

-- The key of a set.
abbrev pub key_at : List ℕ → Aim → ℕ → ℕ
key_at ws aim s = sum_key aim.key (weight_in ws) max_choices s

-- Rules, known literals and a goal that is not known.
pub record Aimed (n : ℕ) (ys ns : List ℕ) (aim : Aim) : Type 0 where
  pub posed : Posed n ys ns aim.known.yes aim.known.no
  pub goal_below : aim.goal < n
  pub goal_row : aim.goal < max_choices
  pub not_on : bit aim.known.yes aim.goal ≡ 0
  pub not_off : bit aim.known.no aim.goal ≡ 0

-- ---- the pool

-- A filling of n variables that obeys the rules.
pub record Obeying (n : ℕ) (ys ns : List ℕ) (f : ℕ) : Type 0 where
  pub below : f < 2 ^ n
  pub obeyed : obeys_all f ys ns ≡ true

-- The pool holds fillings that obey the rules.
abbrev pub Pooled : ℕ → List ℕ → List ℕ → List ℕ → Type 0
Pooled n ys ns ms = Pool (Obeying n ys ns) ms

-- ---- the bound of a part, from the pool alone

-- Whether a filling makes the goal true.
abbrev pub makes_true : Aim → ℕ → Bool
makes_true aim f = cond aim.says (has f aim.goal) (not (has f aim.goal))

-- A filling makes the goal false.
abbrev pub Denies : Aim → ℕ → Type 0
Denies aim f = bit f aim.goal ≡ digit (not aim.says)

-- For each filling of the pool that makes the goal false, the set t holds an item that the filling makes false.
pub record Meeting (aim : Aim) (ms : List ℕ) (t : ℕ) : Type 0 where
  pub meets : (i : ℕ) → i < length ms → Denies aim (get_or ms i 0) → (v : ℕ) × (bit (denied_by aim.known.yes aim.known.no (get_or ms i 0)) v ≡ 1) × (bit t v ≡ 1)

-- What a filling of the pool tells of a part: nothing, or the items within its limit that it makes false; it makes the goal false, and no item chosen.
pub record Opens (aim : Aim) (part : Part) (f o : ℕ) : Type 0 where
  pub denies : Denies aim f
  pub apart : Apart part.chosen (denied_by aim.known.yes aim.known.no f)
  pub is : o ≡ inter (denied_by aim.known.yes aim.known.no f) part.limit

pub record Shown (aim : Aim) (part : Part) (f : ℕ) (r : Option ℕ) : Type 0 where
  pub opens : (o : ℕ) → r ≡ Some o → Opens aim part f o

-- The same bound, and either witness.
pub record Noted (b : Bounds) (o : ℕ) (r : Bounds) : Type 0 where
  pub same_bound : r.bound ≡ b.bound
  pub one_of : (r.witness ≡ Some o) ⊎ (r.witness ≡ b.witness)

-- Each item of o has a weight, and the bound has room for what each can give.
pub record Roomy (left : List ℕ) (b : Bounds) (o : ℕ) : Type 0 where
  pub listed : Rows left o
  pub room : (amount : ℕ) → AtMostEach left o amount → b.bound + amount < 2 ^ width

-- An amount goes from each item of o to the bound.
pub record Charged (left : List ℕ) (b : Bounds) (o : ℕ) (less : List ℕ) (r : Bounds) : Type 0 where
  pub amount : ℕ
  pub taken : TakenOff left o amount less
  pub more : r.bound ≡ b.bound + amount
  pub same_witness : r.witness ≡ b.witness

-- A part whose items have weights, and keys of 64 bits.
pub record Parted (ws : List ℕ) (aim : Aim) (part : Part) : Type 0 where
  pub rows : length ws ≡ max_choices
  pub goal_row : aim.goal < max_choices
  pub small : part.limit < 2 ^ max_choices
  pub nested : Within part.chosen part.limit
  pub keyed : part.key ≡ key_at ws aim part.chosen
  pub cheap : key_at ws aim part.limit < 2 ^ width

-- The bound after some witnesses of the pool.
pub record Charging (ws : List ℕ) (aim : Aim) (part : Part) (ms : List ℕ) (left : List ℕ) (b : Bounds) : Type 0 where
  pub rows : length left ≡ max_choices
  pub from_key : part.key ≤ b.bound
  pub bounding : Bounding (Meeting aim ms) (key_at ws aim) max_choices part.chosen part.limit (weight_in left) b.bound
  pub witnessed : Witnessed (Meeting aim ms) part.chosen part.limit b.witness

-- The bound of a part.
pub record Bounded (ws : List ℕ) (aim : Aim) (part : Part) (ms : List ℕ) (left : List ℕ) (b : Bounds) : Type 0 where
  pub rows : length left ≡ max_choices
  pub from_key : part.key ≤ b.bound
  pub lower : LowerBound (Meeting aim ms) (key_at ws aim) max_choices part.chosen part.limit (weight_in left) b.bound
  pub witnessed : Witnessed (Meeting aim ms) part.chosen part.limit b.witness
