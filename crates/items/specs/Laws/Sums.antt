-- Sums, and the weights of sets: an item more adds its weight, a superset weighs at least as much, a set and the rest of a superset weigh what the
-- superset does. Assumes nothing.
use Rattle.std.specs.Prelude.{◌≡◌, refl, ◌≢◌}
use Rattle.std.proofs.Math.Path.{sym, ap}
use Rattle.std.proofs.Common.{◌∙◌, add-mul, mul-le-mul_right, suc-mul, pow-suc, mul_comm, mod-eq_of_lt, pow_pos}
use Rattle.std.proofs.Math.Logic.{by_cases}
use Prim.Native.Nat.{ℕ, zero, suc, ◌+◌, ◌*◌, ◌^◌, ◌/◌, ◌%◌, ◌≤◌, ◌<◌}
use Rattle.std.proofs.Math.Nat.{mod-one}
use Rattle.std.proofs.Math.Decide.{ℕ_discrete, dec_le}
use native.Mathlib.Omega.{arith}
use Rattle.std.proofs.Math.Arith.{mod-mul}
use Rattle.std.specs.Int.Count.{ones_step}
use Rattle.sets.specs.Sets.{bit, diff, insert, count, Within}
use Rattle.sets.specs.Laws.Bits.{bit_le, bit_zero, bit_high, bit_diff, bit_insert_same, bit_insert_other}
use Rattle.sets.specs.Laws.Code.{shr_bit}
use Rattle.sets.specs.Laws.Count.{ones_zero}
use Rattle.items.specs.Weights.{sum_below, total}

-- ---- sums

pub sum_same : (n : ℕ) (f g : ℕ → ℕ) → ((v : ℕ) → v < n → f v ≡ g v) → sum_below n f ≡ sum_below n g
unfolding sum_below
sum_same zero f g e = refl
sum_same (suc n) f g e = omega (arith, sum_same n f g (λ v h. e v (omega arith)), e n (omega arith))

pub sum_le : (n : ℕ) (f g : ℕ → ℕ) → ((v : ℕ) → v < n → f v ≤ g v) → sum_below n f ≤ sum_below n g
unfolding sum_below
sum_le zero f g e = omega arith
sum_le (suc n) f g e = omega (arith, sum_le n f g (λ v h. e v (omega arith)), e n (omega arith))

pub sum_add : (n : ℕ) (f g : ℕ → ℕ) → sum_below n (λ v. f v + g v) ≡ sum_below n f + sum_below n g
unfolding sum_below
sum_add zero f g = refl
sum_add (suc n) f g = omega (arith, sum_add n f g)

pub sum_times : (n k : ℕ) (f : ℕ → ℕ) → sum_below n (λ v. f v * k) ≡ sum_below n f * k
unfolding sum_below
sum_times zero k f = omega arith
sum_times (suc n) k f = ap (λ (x : ℕ). x + f n * k) (sum_times n k f) ∙ sym (add-mul (sum_below n f) (f n) k)

-- each part is at most k
pub sum_bound : (n k : ℕ) (f : ℕ → ℕ) → ((v : ℕ) → f v ≤ k) → sum_below n f ≤ n * k
unfolding sum_below
sum_bound zero k f e = omega arith
sum_bound (suc n) k f e = omega (arith, sum_bound n k f e, e n, suc-mul n k)

-- two sums that differ at v alone
pub sum_one : (n : ℕ) (f g : ℕ → ℕ) (v k : ℕ) → v < n → f v ≡ g v + k → ((u : ℕ) → u ≢ v → f u ≡ g u) → sum_below n f ≡ sum_below n g + k
unfolding sum_below
sum_one zero f g v k h e s = absurd (omega arith)
sum_one (suc n) f g v k h e s = go (ℕ_discrete v n) (sum_one n f g v k)
  where
    go : Dec (v ≡ n) → (v < n → f v ≡ g v + k → ((u : ℕ) → u ≢ v → f u ≡ g u) → sum_below n f ≡ sum_below n g + k)
        → sum_below n f + f n ≡ sum_below n g + g n + k
    go (yes p) ih =
        let below : sum_below n f ≡ sum_below n g = sum_same n f g (λ u l. s u (λ q. omega arith)) in
        omega (arith, ap f p, ap g p)
    go (no p) ih = omega (arith, ih (omega arith) e s, s n (λ q. p (sym q)))

-- a sum whose parts are no greater, and at v less by k
pub sum_drop : (n : ℕ) (f g : ℕ → ℕ) (v k : ℕ) → v < n → ((u : ℕ) → g u ≤ f u) → g v + k ≤ f v → sum_below n g + k ≤ sum_below n f
unfolding sum_below
sum_drop zero f g v k h e d = absurd (omega arith)
sum_drop (suc n) f g v k h e d = go (ℕ_discrete v n) (sum_drop n f g v k)
  where
    go : Dec (v ≡ n) → (v < n → ((u : ℕ) → g u ≤ f u) → g v + k ≤ f v → sum_below n g + k ≤ sum_below n f)
        → sum_below n g + g n + k ≤ sum_below n f + f n
    go (yes p) ih = omega (arith, sum_le n g f (λ u l. e u), ap f p, ap g p)
    go (no p) ih = omega (arith, ih (omega arith) e d, e n)

-- a sum of fewer is no greater
pub sum_part : (k n : ℕ) (f : ℕ → ℕ) → n ≤ k → sum_below n f ≤ sum_below k f
unfolding sum_below
sum_part zero n f h = let none : n ≡ 0 = omega arith in rw none (omega arith)
sum_part (suc k) n f h = by_cases (ℕ_discrete n (suc k)) (λ p. rw p (omega arith)) (λ p. omega (arith, sum_part k n f (omega arith)))

-- what comes after n adds nothing
pub sum_rest : (k n : ℕ) (f : ℕ → ℕ) → n ≤ k → ((v : ℕ) → n ≤ v → f v ≡ 0) → sum_below k f ≡ sum_below n f
unfolding sum_below
sum_rest zero n f h e = let none : 0 ≡ n = omega arith in ap (λ (k : ℕ). sum_below k f) none
sum_rest (suc k) n f h e =
    by_cases (ℕ_discrete n (suc k)) (λ p. ap (λ (m : ℕ). sum_below m f) (sym p)) (λ p. omega (arith, sum_rest k n f (omega arith) e, e k (omega arith)))

-- the digits of a number, each times its power of two, add up to it
low_digits : (n s : ℕ) → sum_below n (λ v. bit s v * 2 ^ v) ≡ s % 2 ^ n
unfolding sum_below
low_digits zero s = sym (mod-one s)
low_digits (suc n) s =
    omega (
      arith,
      low_digits n s,
      ap (λ (p : ℕ). s % p) (pow-suc 2 n ∙ mul_comm (2 ^ n) 2),
      mod-mul s {m = 2} {c = 2 ^ n} (omega arith) (pow_pos n),
      ap (λ (d : ℕ). d * 2 ^ n) (shr_bit s n),
    )

pub digits_sum : (n s : ℕ) → s < 2 ^ n → sum_below n (λ v. bit s v * 2 ^ v) ≡ s
digits_sum n s h = low_digits n s ∙ mod-eq_of_lt h

-- the first number apart
sum_first : (n : ℕ) (f : ℕ → ℕ) → sum_below (suc n) f ≡ f 0 + sum_below n (λ v. f (suc v))
unfolding sum_below
sum_first zero f = omega arith
sum_first (suc n) f = omega (arith, sum_first n f)

-- the digits of a number add up to how many of them are set
pub digits_count : (n s : ℕ) → s < 2 ^ n → sum_below n (λ v. bit s v) ≡ count s
unfolding sum_below bit
digits_count zero s h = let none : s ≡ 0 = omega arith in rw none (sym ones_zero)
digits_count (suc n) s h = omega (arith, sum_first n (λ v. bit s v), digits_count n (s / 2) (omega (arith, pow-suc 2 n)), ones_step s)

-- ---- weights of sets

pub digit_le : (a b c : ℕ) → a ≤ b → a * c ≤ b * c
digit_le a b c h = mul-le-mul_right c h

-- one digit of a sum of two sets that are apart
digit_add : (a b c w : ℕ) → c ≡ a + b → c * w ≡ a * w + b * w
digit_add a b c w e = ap (λ (x : ℕ). x * w) e ∙ add-mul a b w

module _ (w : ℕ → ℕ) (n : ℕ) where
  pub total_zero : total w n 0 ≡ 0
  unfolding total
  total_zero = omega (arith, sum_bound n 0 (λ v. bit 0 v * w v) (λ v. omega (arith, ap (λ (x : ℕ). x * w v) (bit_zero v))), none n)
    where
      none : (k : ℕ) → k * 0 ≡ 0
      none k = omega arith

  -- a superset weighs at least as much
  pub total_le : (s t : ℕ) → Within s t → total w n s ≤ total w n t
  unfolding total
  total_le s t h = sum_le n _ _ (λ v l. digit_le (bit s v) (bit t v) (w v) (h.keeps v))

  -- an item weighs no more than a set that holds it
  pub total_member : (s v : ℕ) → v < n → bit s v ≡ 1 → w v ≤ total w n s
  unfolding total
  total_member s v h e =
      let d = sum_drop n (λ u. bit s u * w u) (λ u. 0) v (w v) h (λ u. omega arith) (omega (arith, ap (λ (x : ℕ). x * w v) e)) in
      omega arith

  -- one item more adds its weight
  pub total_insert : (s v : ℕ) → v < n → bit s v ≡ 0 → total w n (insert s v) ≡ total w n s + w v
  unfolding total
  total_insert s v h e =
      sum_one n _ _ v (w v) h
      (omega (arith, ap (λ (x : ℕ). x * w v) (bit_insert_same s v), ap (λ (x : ℕ). x * w v) e))
      (λ u d. ap (λ (x : ℕ). x * w u) (bit_insert_other s v u d))

  -- a set and the rest of a superset
  pub total_rest : (s t : ℕ) → Within s t → total w n t ≡ total w n s + total w n (diff t s)
  unfolding total
  total_rest s t h =
      sum_same n _ _ (λ v l. digit_add (bit s v) (bit (diff t s) v) (bit t v) (w v) (omega (arith, bit_diff t s v, h.keeps v)))
      ∙ sum_add n (λ v. bit s v * w v) (λ v. bit (diff t s) v * w v)

  -- where only items of s weigh, and are below n and m, that is the sum of all weights below m
  pub total_all : (m s : ℕ) → ((v : ℕ) → bit s v ≡ 0 → w v ≡ 0) → s < 2 ^ n → s < 2 ^ m → sum_below m w ≡ total w n s
  unfolding total
  total_all m s none h l =
      by_cases (dec_le n m)
      (λ k. sum_rest m n w k (λ v i. none v (bit_high n s v h i)) ∙ each)
      (λ k. sym (sum_rest n m w (omega arith) (λ v i. none v (bit_high m s v l i))) ∙ each)
    where
      digit : (d g : ℕ) → d ≤ 1 → (d ≡ 0 → g ≡ 0) → g ≡ d * g
      digit zero g k e = omega (arith, e refl)
      digit (suc zero) g k e = omega arith
      digit (suc (suc d)) g k e = absurd (omega arith)

      each : sum_below n w ≡ sum_below n (λ v. bit s v * w v)
      each = sum_same n _ _ (λ v i. digit (bit s v) (w v) (bit_le s v) (none v))

  -- a sum over more numbers than the items reach
  pub total_width : (m s : ℕ) → s < 2 ^ n → s < 2 ^ m → total w n s ≡ total w m s
  unfolding total
  total_width m s h l =
      by_cases (dec_le n m)
      (λ k. sym (sum_rest m n _ k (λ v i. ap (λ (d : ℕ). d * w v) (bit_high n s v h i) ∙ none v)))
      (λ k. sum_rest n m _ (omega arith) (λ v i. ap (λ (d : ℕ). d * w v) (bit_high m s v l i) ∙ none v))
    where
      none : (v : ℕ) → 0 * w v ≡ 0
      none v = omega arith
