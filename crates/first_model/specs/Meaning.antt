-- The first filling (document 02, E5): the order of the fillings, and the first one in it that passes a test.
-- A filling of n variables is a number below 2 ^ n: bit v is the value of variable v + 1, 1 for yes and 0 for no.
use Rattle.std.specs.Prelude.{◌≡◌, Bool, true, false, ◌&&◌, ℕ, zero, suc, ◌+◌, ◌*◌, ◌^◌, ◌<◌, ltb}
use Rattle.sets.specs.Sets.{bit, full}

-- ---- the order

-- The weight of a filling of n variables: its values from variable 1 on, read as binary digits. Variable 1 is weightiest.
unfoldable pub weight : ℕ → ℕ → ℕ
weight zero f = 0
weight (suc n) f = 2 * weight n f + bit f n

-- The order of the fillings of n variables, with variable 1 weightiest and no before yes: f is before g.
unfoldable pub comes_before : ℕ → ℕ → ℕ → Bool
comes_before n f g = ltb (weight n f) (weight n g)

-- ---- the first filling

-- The first, in that order, of f and of the numbers below k that pass the test.
unfoldable pub first_under : ℕ → (ℕ → Bool) → ℕ → ℕ → ℕ
first_under n t zero f = f
first_under n t (suc k) f = elim (t k && comes_before n k f) [ true ↦ first_under n t k k | false ↦ first_under n t k f ]

-- The first filling of n variables that passes the test. It begins with the last of all, which says yes of every variable; where none passes it is that one.
unfoldable pub first_filling : ℕ → (ℕ → Bool) → ℕ
first_filling n t = first_under n t (2 ^ n) (full n)

-- ---- the same for every filling

-- f comes before g: they agree on the variables before one of which f says no and g says yes.
pub record Before (f g : ℕ) : Type 0 where
  pub variable : ℕ
  pub agree : (v : ℕ) → v < variable → bit f v ≡ bit g v
  pub no : bit f variable ≡ 0
  pub yes : bit g variable ≡ 1

-- f is the first that has a property: it has it, and it comes before every other one that has it.
pub record First (has : ℕ → Type 0) (f : ℕ) : Type 0 where
  pub among : has f
  pub before_others : (g : ℕ) → has g → (g ≡ f → ⊥) → Before f g
