-- Sets of small numbers as masks: element v is in the set m where binary digit v of m is 1. A mask is a number of any size.
-- The digit is a number and not a Bool, so that `omega` reads facts about sets: "a is within b" is `bit a v ≤ bit b v`.
-- Assumes nothing.
use Rattle.std.specs.Prelude.{◌≡◌, Bool, List, [], ◌∷◌, ℕ, zero, suc, ◌-◌, ◌/◌, ◌%◌, ◌^◌, ◌≤◌, ◌<◌, ◌+◌, eqb}
use Rattle.std.specs.Int.Bits.{bit_and, bit_or}
use Rattle.std.specs.Int.Count.{ones}

-- The elements that a mask of the code has room for.
abbrev pub width : ℕ
width = 64

-- Digit v of m: 1 where v is in the set m, and 0 where it is not.
unfoldable pub bit : ℕ → ℕ → ℕ
bit m zero = m % 2
bit m (suc v) = bit (m / 2) v

-- Whether v is in m, for code that returns a `bool`.
unfoldable pub has : ℕ → ℕ → Bool
has m v = eqb (bit m v) 1

-- `single`, `full`, `union`, `inter` and `count` are short names of what the code computes: as `abbrev` they unfold everywhere, so that
-- `omega` reads `2 ^ v` and `2 ^ n - 1`, and a `|` or `&` of the code is the set operation with no step between.
-- The others stay shut, and are used by their laws.

-- The set of v alone.
abbrev pub single : ℕ → ℕ
single v = 2 ^ v

-- The set of all elements below n.
abbrev pub full : ℕ → ℕ
full n = 2 ^ n - 1

-- The elements of a or of b.
abbrev pub union : ℕ → ℕ → ℕ
union a b = bit_or a b

-- The elements of both a and b.
abbrev pub inter : ℕ → ℕ → ℕ
inter a b = bit_and a b

-- The elements of a that are not in b.
unfoldable pub diff : ℕ → ℕ → ℕ
diff a b = a - bit_and a b

-- The elements below n that are not in m.
unfoldable pub compl : ℕ → ℕ → ℕ
compl n m = diff (full n) m

-- m with v.
unfoldable pub insert : ℕ → ℕ → ℕ
insert m v = union m (single v)

-- m without v.
unfoldable pub remove : ℕ → ℕ → ℕ
remove m v = diff m (single v)

-- Whether each element of a is in b.
unfoldable pub subset : ℕ → ℕ → Bool
subset a b = eqb (diff a b) 0

-- Whether a and b have no element in common.
unfoldable pub disjoint : ℕ → ℕ → Bool
disjoint a b = eqb (inter a b) 0

-- How many elements m has.
abbrev pub count : ℕ → ℕ
count m = ones m

-- v before l where the digit d is set, and l where it is not.
abbrev pub keep : ℕ → ℕ → List ℕ → List ℕ
keep zero v l = l
keep (suc d) v l = v ∷ l

-- The elements among the n lowest digits of m, in rising order, where the lowest digit stands for v. It stops where m has no digit left.
unfoldable pub members_from : ℕ → ℕ → ℕ → List ℕ
members_from zero v m = []
members_from (suc n) v zero = []
members_from (suc n) v (suc m) = keep (suc m % 2) v (members_from n (suc v) (suc m / 2))

-- The elements of m below n, in rising order.
unfoldable pub members_below : ℕ → ℕ → List ℕ
members_below n m = members_from n 0 m

-- All elements of m, in rising order: each is below m.
unfoldable pub members : ℕ → List ℕ
members m = members_below m m

-- Each element is at least v, and greater than those before it.
abbrev pub RisingFrom : ℕ → List ℕ → Type 0
RisingFrom v [] = Unit {0}
RisingFrom v (u ∷ l) = (v ≤ u) × RisingFrom (suc u) l

-- Each element is greater than those before it.
abbrev pub StrictlyRising : List ℕ → Type 0
StrictlyRising l = RisingFrom 0 l

-- Each element of a is in b: what `subset` tests.
pub record Within (a b : ℕ) : Type 0 where
  pub keeps : (v : ℕ) → bit a v ≤ bit b v

-- No element of a is in b: what `disjoint` tests.
pub record Apart (a b : ℕ) : Type 0 where
  pub avoids : (v : ℕ) → bit a v + bit b v ≤ 1

-- r is the least element of m.
pub record LeastMember (m r : ℕ) : Type 0 where
  pub member : bit m r ≡ 1
  pub first : (u : ℕ) → u < r → bit m u ≡ 0

-- What `lowest` gives: the least element, which is one that a mask has room for.
pub record Lowest (m r : ℕ) : Type 0 where
  pub within : r < width
  pub least : LeastMember m r

-- What `count` gives: how many elements m has, at most as many as a mask has room for.
pub record Counted (m r : ℕ) : Type 0 where
  pub within : r ≤ width
  pub counts : r ≡ count m
