-- A partial filling with one more variable set, variable by variable. Assumes nothing.
use Rattle.std.specs.Prelude.{◌≡◌, ℕ, ◌+◌, Bool, true, false, ◌≢◌, refl}
use Rattle.std.proofs.Common.{sym, arith}
use Rattle.sets.specs.Sets.{bit, has, insert}
use Rattle.sets.specs.Laws.Bits.{bit_insert_same, bit_insert_other}
use Rattle.sets.specs.Laws.Subset.{has_true, has_false}
use Rattle.propagation.specs.Promises.{digit, SetTo, Assigned}

-- ---- `assign`

pub assigned_yes : {on off v a b : ℕ} {value : Bool} → value ≡ true → a ≡ insert on v → b ≡ off → Assigned on off v value a b
assigned_yes p q r = rw p (record { said = (q, r) })

pub assigned_no : {on off v a b : ℕ} {value : Bool} → value ≡ false → a ≡ on → b ≡ insert off v → Assigned on off v value a b
assigned_no p q r = rw p (record { said = (q, r) })

pub ruleset assign_laws = (assigned_yes, assigned_no)

-- the digit of a value
pub digit_has : (m v : ℕ) (b : Bool) → b ≡ has m v → digit b ≡ bit m v
digit_has m v true e = sym (has_true m v (sym e))
digit_has m v false e = sym (has_false m v (sym e))

-- ---- the partial filling with v set, variable by variable

module _ (on off v : ℕ) where
  other_set_to : (value : Bool) (a b : ℕ) → SetTo on off v value a b → (u : ℕ) → u ≢ v → (bit a u ≡ bit on u) × (bit b u ≡ bit off u)
  other_set_to true a b s u d = rw (s.0, s.1) (bit_insert_other on v u d, refl)
  other_set_to false a b s u d = rw (s.0, s.1) (refl, bit_insert_other off v u d)

  same_set_to : (value : Bool) (a b : ℕ) → SetTo on off v value a b → bit on v ≡ 0 → bit off v ≡ 0 → (bit a v ≡ digit value) × (bit a v + bit b v ≡ 1)
  same_set_to true a b s x z = rw (s.0, s.1) (bit_insert_same on v, omega (arith, bit_insert_same on v))
  same_set_to false a b s x z = rw (s.0, s.1) (x, omega (arith, bit_insert_same off v))

pub assigned_other : {on off v a b : ℕ} {value : Bool} → Assigned on off v value a b → (u : ℕ) → u ≢ v → (bit a u ≡ bit on u) × (bit b u ≡ bit off u)
assigned_other {on} {off} {v} {a} {b} {value} s u d = other_set_to on off v value a b s.said u d

pub assigned_same : {on off v a b : ℕ} {value : Bool} → Assigned on off v value a b → bit on v ≡ 0 → bit off v ≡ 0
    → (bit a v ≡ digit value) × (bit a v + bit b v ≡ 1)
assigned_same {on} {off} {v} {a} {b} {value} s x z = same_set_to on off v value a b s.said x z
