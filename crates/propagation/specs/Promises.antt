-- What the functions of this crate ask and say.
use Rattle.std.specs.Prelude.{◌≡◌, ℕ, ◌+◌, ◌^◌, ◌<◌, ◌≤◌, Bool, true, false, ◌⊎◌, List, length, map, ◌≢◌, slice_index}
use Rattle.sets.specs.Sets.{width, bit, union, insert, remove, Within, Apart}
use Rattle.literals.specs.Truth.{obeys_masks}
use Rattle.literals.specs.declared.LiteralSet.{LiteralSet}
use Rattle.propagation.specs.declared.pass.Look.{Look}
use Rattle.propagation.specs.declared.pass.Pass.{Pass}

-- ---- the two masks of each rule

-- The variables that each rule says yes of, and those that each says no of.
abbrev pub yes_masks : List LiteralSet → List ℕ
yes_masks rules = map (λ r. r.yes) rules

abbrev pub no_masks : List LiteralSet → List ℕ
no_masks rules = map (λ r. r.no) rules

-- ---- setting a variable

-- The digit of a value.
abbrev pub digit : Bool → ℕ
digit true = 1
digit false = 0

-- The partial filling (a, b) is (on, off) with variable v set to the value.
abbrev pub SetTo : ℕ → ℕ → ℕ → Bool → ℕ → ℕ → Type 0
SetTo on off v true a b = (a ≡ insert on v) × (b ≡ off)
SetTo on off v false a b = (a ≡ on) × (b ≡ insert off v)

pub record Assigned (on off v : ℕ) (value : Bool) (a b : ℕ) : Type 0 where
  pub said : SetTo on off v value a b

-- ---- one rule, the masks y and m, under a partial filling

-- A conflict: each literal of the rule is false.
pub record Conflicts (y m on off : ℕ) : Type 0 where
  pub yes_false : Within y off
  pub no_false : Within m on

-- The rule forces variable v: v is not set and stands in one of the masks, and every other literal is false.
pub record Forces (y m on off v : ℕ) : Type 0 where
  pub not_on : bit on v ≡ 0
  pub not_off : bit off v ≡ 0
  pub one_sign : bit y v + bit m v ≡ 1
  pub yes_false : (u : ℕ) → (u ≢ v) → bit y u ≤ bit off u
  pub no_false : (u : ℕ) → (u ≢ v) → bit m u ≤ bit on u

-- The rule forces some variable.
pub record ForcesOne (y m on off : ℕ) : Type 0 where
  pub forced : ℕ
  pub forces : Forces y m on off forced

-- The rule has a true literal: each filling that extends the partial one obeys it.
pub record Met (y m on off : ℕ) : Type 0 where
  pub met : (f : ℕ) → Within on f → Apart off f → obeys_masks f y m ≡ true

-- The variables x are of the rule and not set, and where there are none the rule has a true literal.
pub record LeftOpen (y m on off x : ℕ) : Type 0 where
  pub within : Within x (union y m)
  pub not_set : Apart x (union on off)
  pub none_met : x ≡ 0 → Met y m on off

-- What a look at the rule tells.
abbrev pub Tells : ℕ → ℕ → ℕ → ℕ → Look → Type 0
Tells y m on off Look.Conflict = Conflicts y m on off
Tells y m on off Look.Unit = ForcesOne y m on off
Tells y m on off (Look.Quiet x) = LeftOpen y m on off x

pub record Looked (y m on off : ℕ) (r : Look) : Type 0 where
  pub said : Tells y m on off r

-- ---- a pass over the rules

-- Every mask of the list is one of n variables.
pub record MasksBelow (n : ℕ) (ms : List ℕ) : Type 0 where
  pub below : (i : ℕ) → i < length ms → slice_index ms i < 2 ^ n

-- (y, m) is rule i of the lists.
pub record RuleAt (ys ns : List ℕ) (i y m : ℕ) : Type 0 where
  pub yes_place : i < length ys
  pub no_place : i < length ns
  pub yes_there : y ≡ slice_index ys i
  pub no_there : m ≡ slice_index ns i

-- (y, m) is a rule of the lists.
pub record Listed (ys ns : List ℕ) (y m : ℕ) : Type 0 where
  pub place : ℕ
  pub rule : RuleAt ys ns place y m

-- The variables of x are of the rules and not set.
pub record Open (ys ns : List ℕ) (on off x : ℕ) : Type 0 where
  pub below : (n : ℕ) → MasksBelow n ys → MasksBelow n ns → x < 2 ^ n
  pub not_set : Apart x (union on off)

-- Variables to try, at least one.
pub record ToTry (ys ns : List ℕ) (on off x : ℕ) : Type 0 where
  pub opened : Open ys ns on off x
  pub some : 0 < x

-- The variable chosen: one of such variables.
pub record Chosen (ys ns : List ℕ) (on off v : ℕ) : Type 0 where
  pub small : v < width
  pub among : ℕ
  pub opened : Open ys ns on off among
  pub member : bit among v ≡ 1

-- The rules from i to before j have a true literal.
pub record MetBetween (i j : ℕ) (ys ns : List ℕ) (on off : ℕ) : Type 0 where
  pub each_met : (k : ℕ) → i ≤ k → k < j → Met (slice_index ys k) (slice_index ns k) on off

-- What a pass tells: a rule of the lists that is a conflict or forces a variable, or that there is none, and then what is said of the variables
-- left open.
abbrev pub Gives : (ℕ → Type 0) → List ℕ → List ℕ → ℕ → ℕ → Pass → Type 0
Gives Left ys ns on off (Pass.Conflict r) = Listed ys ns r.yes r.no × Conflicts r.yes r.no on off
Gives Left ys ns on off (Pass.Unit r next) = Listed ys ns r.yes r.no × ForcesOne r.yes r.no on off
Gives Left ys ns on off (Pass.Quiet x) = Left x

pub record Passed (Left : ℕ → Type 0) (ys ns : List ℕ) (on off : ℕ) (r : Pass) : Type 0 where
  pub said : Gives Left ys ns on off r

-- The rules from i to before j, gone over with z open before, leave x open: where that is nothing, they have a true literal.
pub record LeftBetween (i j : ℕ) (ys ns : List ℕ) (on off z x : ℕ) : Type 0 where
  pub open_more : Open ys ns on off z → Open ys ns on off x
  pub more : Within z x
  pub none_met : x ≡ 0 → MetBetween i j ys ns on off

-- All rules leave x open: where that is nothing, each has a true literal.
pub record LeftByAll (ys ns : List ℕ) (on off x : ℕ) : Type 0 where
  pub opened : Open ys ns on off x
  pub none_met : x ≡ 0 → MetBetween 0 (length ys) ys ns on off

-- What a pass over the rules from i to before j tells, and what one over all of them.
abbrev pub PassedRange : ℕ → ℕ → List ℕ → List ℕ → ℕ → ℕ → ℕ → Pass → Type 0
PassedRange i j ys ns on off z r = Passed (LeftBetween i j ys ns on off z) ys ns on off r

abbrev pub PassedAll : List ℕ → List ℕ → ℕ → ℕ → Pass → Type 0
PassedAll ys ns on off r = Passed (LeftByAll ys ns on off) ys ns on off r

-- ---- a rule of a failed branch, and resolution

-- Where the rule of a failed branch stands, with `base` the variables that were set at the last try: it is a conflict, or it forces a variable
-- and its others are in base.
abbrev pub Stands : ℕ → ℕ → ℕ → ℕ → ℕ → Type 0
Stands base y m on off = Conflicts y m on off ⊎ ((v : ℕ) × Forces y m on off v × Within (remove (union y m) v) base)

pub record Placed (base y m on off : ℕ) : Type 0 where
  pub place : Stands base y m on off

-- A rule acts: it is a conflict or forces a variable.
abbrev pub Acts : ℕ → ℕ → ℕ → ℕ → Type 0
Acts y m on off = Conflicts y m on off ⊎ ForcesOne y m on off

pub record Acting (y m on off : ℕ) : Type 0 where
  pub acts : Acts y m on off

-- Whether a rule that acts is handed up: where it stands as the rule of a failed branch does. Where not, it forces a variable here.
abbrev pub Hands : ℕ → ℕ → ℕ → ℕ → ℕ → Bool → Type 0
Hands base y m on off true = Placed base y m on off
Hands base y m on off false = ForcesOne y m on off × (Placed base y m on off → ⊥)

pub record HandedUp (base y m on off : ℕ) (r : Bool) : Type 0 where
  pub said : Acting y m on off → Hands base y m on off r

-- The rule (c, d) is the resolvent of (y, m) and (a, b) on v: their literals but those of v.
pub record Resolvent (v y m a b c d : ℕ) : Type 0 where
  pub yes_said : c ≡ remove (union y a) v
  pub no_said : d ≡ remove (union m b) v
